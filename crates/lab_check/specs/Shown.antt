-- What a checked run shows, whoever made it: what is said of a run, of its report and its files alone.
use Rattle.std.specs.Prelude.{◌≡◌, ◌≢◌, ℕ, ◌+◌, ◌*◌, ◌<◌, ◌≤◌, true, false, ℤ, List, [], length, map, All, Option, Some, None, Ok, slice_get, slice_index_or}
use Rattle.std.specs.List.{range_with_len}
use Rattle.mix_core.specs.Laid.{at, sum_of_samples, total}
use Rattle.wav_io.specs.Canonical.{canonical}
use Rattle.wav_io.specs.Sound.{Sound}
use Rattle.lab_lines.specs.declared.line.Actor.TheVariants as actor
use Rattle.lab_lines.specs.declared.report.Report.{Report}
use Rattle.lab_lines.specs.declared.row.Row.{Row}
use Rattle.lab_lines.specs.declared.script.ReaderLine.{ReaderLine}
use Rattle.lab_lines.specs.declared.script.Script.{Script}
use Rattle.lab_report.specs.Reading.{report_in_text}
use Rattle.run_laws.specs.LateRows.{is_rewind}
use Rattle.lab_run.specs.Openings.{read_by}
use Rattle.lab_run.specs.OwnRows.{rows_by, runs_by}
use Rattle.lab_run.specs.Phases.{is_reader}
use Rattle.lab_run.specs.Stretches.{AreSlices}
use Rattle.run_laws.specs.Files.{IsMixOfFiles, placed_from}
use Rattle.run_laws.specs.Late.{IsLate}
use Rattle.run_laws.specs.Recordings.{frames_in_runs, frames_of_runs}
use Rattle.lab_check.specs.Checked.{run_sounds}
use Rattle.lab_check.specs.Defects.{row_defect}
use Rattle.lab_check.specs.Late.{entries_of_client}
use Rattle.lab_check.specs.Samples.{RunSamples, captured_runs}

-- a row of a client that is answered late names a channel of the card, and a frame and channel at which no segment of the client has a sample; of a
-- rewind, at which one has
pub record ShowsLate (script : Script) (wavs : List Sound) (report : Report)
    (row : Row) : Type 0 where
  pub channel : (frame channel : ℕ) → IsLate row.answer frame channel
      → channel < script.card.channels
  pub missed : (number frame channel : ℕ) → row.actor ≡ actor.Client number
      → is_rewind row.op ≡ false → IsLate row.answer frame channel
      → at (entries_of_client script wavs report number) frame channel ≡ []
  pub rewinds : (number frame channel : ℕ) → row.actor ≡ actor.Client number
      → is_rewind row.op ≡ true → IsLate row.answer frame channel
      → at (entries_of_client script wavs report number) frame channel ≢ []

-- a run has a frame, and captured frames alone: from a first one to before the end
abbrev pub IsCapturedRun : ℕ → ℕ → ℕ × ℕ → Type 0
IsCapturedRun least end (first, count) = (0 < count) × (least ≤ first) × (first + count ≤ end)

-- a reader's samples
pub record ShowsReader (script : Script) (capture : Option Sound) (report : Report)
    (number : ℕ) (line : ReaderLine) (samples : List ℤ) : Type 0 where
  pub frames : samples ≡ captured_runs script.card capture (read_by script.card line)
      (runs_by number report.runs)
  pub samples_are : length samples
      ≡ frames_in_runs (runs_by number report.runs) * length (read_by script.card line)
  pub captured : All (IsCapturedRun report.first (report.first + report.frames))
      (runs_by number report.runs)
  pub after : Option ℕ
  pub stretches : AreSlices None (rows_by (is_reader number) report.rows)
      (frames_of_runs (runs_by number report.runs)) after

-- the sums of what each client placed are those of all
abbrev pub SumsClients : Script → List Sound → Report → Type 0
SumsClients script wavs report = (frame channel : ℕ)
    → total (placed_from script wavs report) frame channel
    ≡ sum_of_samples (map
    (λ number. total (entries_of_client script wavs report number) frame channel)
    (range_with_len 0 (length script.clients)))

-- a report and samples show: each played sample is the saturated sum of exactly what the segments placed, each client's beside the others'; the late
-- rows; and each reader's samples
pub record ShowsSamples (script : Script) (wavs : List Sound) (capture : Option Sound)
    (report : Report) (samples : RunSamples) : Type 0 where
  pub mix : IsMixOfFiles script wavs report samples.played
  pub clients : SumsClients script wavs report
  pub late : All (ShowsLate script wavs report) report.rows
  pub readers : length samples.recorded ≡ length script.readers
  pub each : (number : ℕ) (line : ReaderLine) → slice_get script.readers number ≡ Some line
      → ShowsReader script capture report number line (slice_index_or samples.recorded number [])

-- The headline of a run, by its script, its files and its report alone, whoever made them: each played sample is the saturated sum of exactly what the
-- segments placed; what they placed is what each client placed, beside the others; each reader's samples are the captured frames of its runs, one slice in
-- each stretch; and where the late rows pass their test, each names a place without a sample of its client, or, of a rewind, with one.
pub record SaysHeadline (script : Script) (wavs : List Sound) (capture : Option Sound)
    (report : Report) (samples : RunSamples) : Type 0 where
  pub mix : IsMixOfFiles script wavs report samples.played
  pub clients : SumsClients script wavs report
  pub late : row_defect script wavs report ≡ None → All (ShowsLate script wavs report) report.rows
  pub readers : length samples.recorded ≡ length script.readers
  pub each : (number : ℕ) (line : ReaderLine) → slice_get script.readers number ≡ Some line
      → ShowsReader script capture report number line (slice_index_or samples.recorded number [])

-- the text is a report of the script, and the files are the canonical ones of samples of which it says this
pub record IsShown (script : Script) (wavs : List Sound) (capture : Option Sound)
    (text : List ℕ) (files : List (List ℕ)) : Type 0 where
  pub report : Report
  pub samples : RunSamples
  pub read : report_in_text script text ≡ Ok report
  pub shows : ShowsSamples script wavs capture report samples
  pub files_are : files ≡ map canonical (run_sounds script samples)
