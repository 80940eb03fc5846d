use Rattle.lab_check.specs.Prelude.{take, ◌≡◌, sum_by, played_by}
use Rattle.lab_lines.specs.declared.line.Line.{Line}
use Rattle.lab_check.proofs.frames.played_in.Given as goal

abbrev pub invariant-loop-line : goal.invariant-loop-line
invariant-loop-line l = l.frames ≡ sum_by (λ (line : Line). played_by line.op) (take l.line-index l.lines)
