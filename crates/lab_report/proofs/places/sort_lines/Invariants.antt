-- The lines so far are sorted.
use Rattle.lab_report.specs.Prelude.{take, AreSorted}
use Rattle.lab_report.proofs.places.sort_lines.Given as goal

abbrev pub invariant-loop-line : goal.invariant-loop-line
invariant-loop-line l = AreSorted l.phase (take l.line-index l.lines) l.places
