use Rattle.lab_compare.specs.Prelude.{cond, ◌+◌, ◌-◌, finished_file}
use Rattle.lab_compare.proofs.Comparing.{Comparing}
use Rattle.lab_compare.proofs.comparison.is_same_file.Given as goal

abbrev pub invariant-loop-is_last : goal.invariant-loop-is_last
invariant-loop-is_last g l =
    Comparing g.S.Shelf l.fn.shelf l.shelf l.file.name (finished_file l.file l.samples) l.size l.from l.same l.is_last

abbrev pub decreases-loop-is_last : goal.decreases-loop-is_last
decreases-loop-is_last g l = cond l.is_last 0 (l.size + 1 - l.from)
