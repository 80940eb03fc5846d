use Rattle.lab_readers.specs.Prelude.{count_by, take, ◌≡◌, has_lines}
use Rattle.lab_readers.proofs.steps.busy_count.Given as goal

abbrev pub invariant-loop-index : goal.invariant-loop-index
invariant-loop-index l = l.count ≡ count_by (has_lines l.fn.lines) (take l.index l.fn.readers)
