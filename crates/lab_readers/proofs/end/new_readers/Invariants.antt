use Rattle.lab_readers.specs.Prelude.{length, ◌≡◌, AreNew}
use Rattle.lab_readers.proofs.end.new_readers.Given as goal

abbrev pub invariant-loop-number : goal.invariant-loop-number
invariant-loop-number l = record { new : AreNew 0 l.readers.items; count : length l.readers.items ≡ l.number }
