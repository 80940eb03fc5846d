-- The lines of a report's text: the head is line 1, and then come the rows, the segments, the runs, what was played, and the end.
use Rattle.std.specs.Prelude.{ℕ, ◌+◌, length}
use Rattle.lab_lines.specs.declared.report.Report.{Report}

-- the line of the first row
abbrev pub first_row_line : ℕ
first_row_line = 2

-- the line of the first segment, where there is one
abbrev pub first_segment_line : Report → ℕ
first_segment_line report = first_row_line + length report.rows

-- the line of the first run, where there is one
abbrev pub first_run_line : Report → ℕ
first_run_line report = first_segment_line report + length report.segments

-- the line of what was played
abbrev pub line_of_played : Report → ℕ
line_of_played report = first_run_line report + length report.runs

-- the last line, `end`
abbrev pub line_of_end : Report → ℕ
line_of_end report = line_of_played report + 1
