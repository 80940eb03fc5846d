-- The text of a run's report, as it is put.
use Rattle.std.specs.Prelude.{ℕ, List, ◌++◌, codes, drop}
use Rattle.std.specs.List.{flat_map}
use Rattle.lab_lines.specs.declared.script.Script.{Script}
use Rattle.lab_lines.specs.declared.row.Row.{Row}
use Rattle.lab_lines.specs.declared.report.Report.{Report}
use Rattle.lab_report.specs.Text.{row_line, tail_text}

-- the report's first line
abbrev pub head_text : List ℕ
head_text = codes "dmixlab 1\n"

-- the lines of the rows from this number on
abbrev pub rows_text : Script → ℕ → List Row → List ℕ
rows_text script from rows = flat_map (row_line script) (drop from rows)

-- the report's text so far: its first line, and the lines of the rows
abbrev pub text_so_far : Script → List Row → List ℕ
text_so_far script rows = head_text ++ flat_map (row_line script) rows

-- the lines of the rows from this number on, and what is below them
abbrev pub tail_from : Script → ℕ → Report → List ℕ
tail_from script from report = rows_text script from report.rows ++ tail_text script report
