-- The rows so far that are answered EPIPE.
use Rattle.lab_make.specs.Prelude.{take, ◌≡◌, xrun_count}
use Rattle.lab_make.proofs.summary.xrun_count.Given as goal

abbrev pub invariant-loop-row : goal.invariant-loop-row
invariant-loop-row l = l.xruns ≡ xrun_count (take l.row-index l.rows)
