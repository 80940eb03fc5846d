use Rattle.lab_readers.specs.Prelude.{HasWalked, IsLaterSpare, IsReaped}
use Rattle.lab_readers.proofs.reap.reap_readers.Given as goal

abbrev pub invariant-loop-index : goal.invariant-loop-index
invariant-loop-index l = IsLaterSpare l.fn.spare l.spare × HasWalked (IsReaped l.spare) l.fn.readers l.readers l.index
