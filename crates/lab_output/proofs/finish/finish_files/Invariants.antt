-- The files so far have their true heads.
use Rattle.lab_output.proofs.Steps.{Closing}
use Rattle.lab_output.proofs.finish.finish_files.Given as goal

abbrev pub invariant-loop-number : goal.invariant-loop-number
invariant-loop-number g l = Closing g.S.Shelf l.fn.shelf l.shelf l.files l.samples l.number
