-- A run of a script, by the report and the samples that it leaves, is a checked run, and says what a checked run shows.
use Rattle.std.specs.Prelude.{◌≡◌, ℕ, ◌≤◌, List, length, map, All, Option, None}
use Rattle.wav_io.specs.Canonical.{canonical}
use Rattle.wav_io.specs.Sound.{Sound}
use Rattle.lab_lines.specs.declared.report.Report.{Report}
use Rattle.lab_lines.specs.declared.row.Row.{Row}
use Rattle.lab_lines.specs.declared.script.Script.{Script}
use Rattle.lab_lines.specs.Limits.{IsScript}
use Rattle.lab_report.specs.Ranges.{IsReportInRange}
use Rattle.lab_report.specs.Text.{report_text}
use Rattle.lab_run.specs.LabRun.{LabRun, Outcome}
use Rattle.lab_run.specs.Openings.{IsSessionOf}
use Rattle.lab_run.specs.Stage.{Session}
use Rattle.lab_check.specs.Checked.{IsChecked, run_sounds}
use Rattle.lab_check.specs.Defects.{most_of_report, row_defect}
use Rattle.lab_check.specs.Late.{late_place}
use Rattle.lab_check.specs.Samples.{RunSamples}
use Rattle.lab_check.specs.Shown.{IsShown, SaysHeadline}

-- the samples that a run leaves
abbrev pub samples_of_run : Outcome → RunSamples
samples_of_run outcome = record { played = outcome.played; recorded = outcome.recorded }

-- A report of a run that passes its tests: its text isn't too long, and its late rows can be. A run promises of a late row that its client's stretch has no
-- sample at the place that the row names. The test asks this of all segments of the client, so that a row may fail it whose client was opened before, and
-- still has samples there from then.
pub record CanPass (script : Script) (wavs : List Sound) (report : Report) : Type 0 where
  pub short : length (report_text script report) ≤ most_of_report
  pub rows : row_defect script wavs report ≡ None

-- no row is answered late
abbrev pub NoneLate : Report → Type 0
NoneLate report = All (λ (row : Row). late_place row.answer ≡ None) report.rows

-- then no row can fail its test
abbrev pub UnlateRowsPass : Type 0
UnlateRowsPass =
    (script : Script) (wavs : List Sound) (report : Report)
    → NoneLate report → row_defect script wavs report ≡ None

-- a run whose report passes is a checked run, by the report's text and the canonical files of its samples; the report's numbers are within their types, as
-- those of each report that a program has
abbrev pub RunsAreChecked : Type 0
RunsAreChecked =
    (script : Script) (wavs : List Sound) (session : Session) (capture : Option Sound)
    (client_stops reader_stops : ℕ → ℕ) (outcome : Outcome)
    → IsScript script → IsSessionOf script wavs session
    → LabRun session capture script.body client_stops reader_stops outcome
    → IsReportInRange outcome.report → CanPass script wavs outcome.report
    → IsChecked script wavs capture (report_text script outcome.report)
    (map canonical (run_sounds script (samples_of_run outcome)))

-- each run says the headline by its script, its files and its report alone
abbrev pub RunsSayHeadline : Type 0
RunsSayHeadline =
    (script : Script) (wavs : List Sound) (session : Session) (capture : Option Sound)
    (client_stops reader_stops : ℕ → ℕ) (outcome : Outcome)
    → IsScript script → IsSessionOf script wavs session
    → LabRun session capture script.body client_stops reader_stops outcome
    → SaysHeadline script wavs capture outcome.report (samples_of_run outcome)

-- and so do a report and files of which a check shows what they are
abbrev pub ShownRunsSayHeadline : Type 0
ShownRunsSayHeadline =
    (script : Script) (wavs : List Sound) (capture : Option Sound) (text : List ℕ)
    (files : List (List ℕ)) (shown : IsShown script wavs capture text files)
    → SaysHeadline script wavs capture shown.report shown.samples
