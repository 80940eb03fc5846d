use Rattle.lab_check.specs.Prelude.{take, ◌≡◌, map}
use Rattle.lab_check.specs.Late as late
use Rattle.lab_check.proofs.late.right_rows.Given as goal

abbrev pub invariant-loop-row : goal.invariant-loop-row
invariant-loop-row l = l.rights.items ≡ map (late.is_right_row l.script l.wavs l.report) (take l.row-index l.report.rows)
