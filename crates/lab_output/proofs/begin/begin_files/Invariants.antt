-- The files so far are begun.
use Rattle.lab_output.proofs.Steps.{Opening}
use Rattle.lab_output.proofs.begin.begin_files.Given as goal

abbrev pub invariant-loop-file : goal.invariant-loop-file
invariant-loop-file g l = Opening g.S.Shelf l.fn.shelf l.shelf l.files l.file-index
