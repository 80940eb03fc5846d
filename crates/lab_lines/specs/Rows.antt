-- What a row of a report is about.
use Rattle.lab_lines.specs.declared.request.Request.{Request}
use Rattle.lab_lines.specs.declared.row.Row.{Row}

-- what a row is about, of a row
abbrev pub request_of_row : Row → Request
request_of_row row = record { phase = row.phase; actor = row.actor; op = row.op }
