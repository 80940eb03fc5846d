-- The tests of a report, in order: the line of the first one that fails.
use Rattle.std.specs.Prelude.{◌≡◌, ℕ, ◌+◌, ◌^◌, ◌<◌, ◌&&◌, nat_eq, nat_le, not, if◌then◌else◌, List, length, Option, Some, None, Result, Ok, Err, option_map}
use Rattle.std.specs.List.{position}
use Rattle.wav_io.specs.Sound.{Sound}
use Rattle.lab_lines.specs.declared.report.Report.{Report}
use Rattle.lab_lines.specs.declared.script.Script.{Script}
use Rattle.lab_lines.specs.Script.{first_frame, frames_played, phases_of}
use Rattle.lab_report.specs.declared.error.ReportError.{ReportError}
use Rattle.lab_report.specs.Reading.{report_in_text}
use Rattle.lab_check.specs.Late.{is_right_row}
use Rattle.lab_check.specs.Lines.{first_row_line, first_segment_line, line_of_end, line_of_played}
use Rattle.lab_check.specs.Reads.{first_defect, readers_defect}
use Rattle.lab_check.specs.Samples.{RunSamples, run_samples}
use Rattle.lab_check.specs.Segments.{is_right_segment}

-- the line of what was played, unless that begins at the card's first frame and has the frames that the script's card plays
abbrev pub played_defect : Script → Report → Option ℕ
played_defect script report =
    if nat_eq report.first (first_frame script.card)
    && nat_eq report.frames (frames_played (phases_of script.body)) then None
    else Some (line_of_played report)

-- the line of the first segment that can't be
abbrev pub segment_defect : Script → List Sound → Report → Option ℕ
segment_defect script wavs report =
    option_map (λ k. first_segment_line report + k)
    (position (λ segment. not (is_right_segment script wavs segment)) report.segments)

-- the line of the first late row that can't be
abbrev pub row_defect : Script → List Sound → Report → Option ℕ
row_defect script wavs report =
    option_map (λ k. first_row_line + k)
    (position (λ row. not (is_right_row script wavs report row)) report.rows)

-- the line of the first defect of a report: of what was played, of the segments, of the late rows, and of the readers
abbrev pub report_defect : Script → List Sound → Report → Option ℕ
report_defect script wavs report =
    first_defect (played_defect script report)
    (first_defect (segment_defect script wavs report)
    (first_defect (row_defect script wavs report)
    (readers_defect report 0 (length script.readers))))

-- the most bytes of a report
abbrev pub most_of_report : ℕ
most_of_report = 67_108_864

-- a report, unless it has a defect
abbrev pub report_or_line : Report → Option ℕ → Result Report ℕ
report_or_line report None = Ok report
report_or_line report (Some line) = Err line

-- what was read as a report, unless it is refused or has a defect
abbrev pub tested : Script → List Sound → Result Report ReportError → Result Report ℕ
tested script wavs (Err e) = Err e.line
tested script wavs (Ok report) = report_or_line report (report_defect script wavs report)

-- the report of a text that passes all tests, or the line of the first one that it fails: 0 for a text that is too long
abbrev pub tested_report : Script → List Sound → List ℕ → Result Report ℕ
tested_report script wavs text =
    if nat_le (length text) most_of_report then tested script wavs (report_in_text script text)
    else Err 0

-- the samples of a report that passes, or the line
abbrev pub samples_or_line : Script → List Sound → Option Sound → Result Report ℕ
    → Result RunSamples ℕ
samples_or_line script wavs capture (Ok report) = Ok (run_samples script wavs capture report)
samples_or_line script wavs capture (Err line) = Err line

-- the samples that the files of a checked run must have, or the line of the first test that the report fails
abbrev pub checked_samples : Script → List Sound → Option Sound → List ℕ → Result RunSamples ℕ
checked_samples script wavs capture text =
    samples_or_line script wavs capture (tested_report script wavs text)

-- what a report that passes has for its played samples: it says what the script's card plays, its segments can be, and its lines are few
pub record HasTestedSegments (script : Script) (wavs : List Sound) (report : Report) : Type 0 where
  pub played : played_defect script report ≡ None
  pub segments : segment_defect script wavs report ≡ None
  pub few : line_of_end report < 2 ^ 32

-- and for its readers' samples: no reader has a defect
pub record HasTestedRuns (script : Script) (report : Report) : Type 0 where
  pub played : played_defect script report ≡ None
  pub readers : readers_defect report 0 (length script.readers) ≡ None
  pub few : line_of_end report < 2 ^ 32
