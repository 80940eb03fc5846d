use Rattle.lab_input.specs.Read.{input_of}
use Rattle.lab_compare.proofs.Checks.{Reviewing}
use Rattle.lab_compare.proofs.checking.check_recordings.Given as goal

abbrev pub invariant-loop-reader : goal.invariant-loop-reader
invariant-loop-reader g l =
    Reviewing g.S.Shelf l.fn.shelf l.shelf (input_of l.input) l.out l.report l.input.script.readers l.reader-index l.number
