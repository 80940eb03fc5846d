-- The lines so far follow the text.
use Rattle.lab_report.specs.Prelude.{string_bytes, take, ◌++◌, ◌≡◌, flat_map, row_line}
use Rattle.lab_report.proofs.print.push_rows.Given as goal

abbrev pub invariant-loop-row : goal.invariant-loop-row
invariant-loop-row l =
    string_bytes l.text ≡ string_bytes l.fn.text ++ flat_map (row_line l.script) (take l.row-index l.rows)
