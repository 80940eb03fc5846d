-- What the command `check` finds in the files.
--     passed end      how a test ends a command that makes it
--     tested_in files input name, IsReportIn      the report in a file, which passes the tests that need no output
--     is_same_in files file samples      whether an output is the canonical file of some samples
--     outputs_in files input out report      each output is the canonical file of the samples that the report says of it, or a test fails at a line
--     check_in files script report out      the files are those of a checked run, or the first cause for which they aren't
--     IsCheckedRun      what is known with status 0
--     HoldsRun      files that hold what a run left, with its report
use Rattle.std.specs.Prelude.{◌≡◌, ℕ, ◌+◌, ℤ, Bool, true, false, List, [], ◌∷◌, length, map, Option, Some, Result, Ok, Err}
use Rattle.std.specs.Option.{ForSome}
use Rattle.std.specs.Str.{bytes_eq}
use Rattle.lab_check.specs.Checked.{IsChecked, run_sounds}
use Rattle.lab_check.specs.Lines.{line_of_end, line_of_played}
use Rattle.lab_check.specs.Defects.{HasTestedRuns, HasTestedSegments, most_of_report, tested_report}
use Rattle.lab_check.specs.Runs.{samples_of_run}
use Rattle.lab_check.specs.Samples.{played_samples, reader_samples}
use Rattle.lab_check.specs.Shown.{IsShown}
use Rattle.lab_check.specs.declared.error.CheckError.{CheckError}
use Rattle.lab_check.specs.declared.error.CheckError.TheVariants as checks
use Rattle.lab_input.specs.Input.{RunInput, input_in}
use Rattle.lab_lines.specs.declared.report.Report.{Report}
use Rattle.lab_lines.specs.declared.script.ReaderLine.{ReaderLine}
use Rattle.lab_output.specs.declared.file.OutputFile.{OutputFile}
use Rattle.lab_output.specs.Files.{finished_file, output_files, played_file, recorded_file}
use Rattle.lab_report.specs.Text.{report_text}
use Rattle.lab_run.specs.LabRun.{Outcome}
use Rattle.lab_shelf.specs.Files.{Files, bytes_under}
use Rattle.lab_stop.specs.declared.stop.Stop.{Stop}
use Rattle.lab_stop.specs.declared.stop.Stop.TheVariants as stops
use Rattle.wav_io.specs.Canonical.{canonical}
use Rattle.lab_stop.specs.Causes.{Cause, not_a_run, first_bytes, ◌>>=◌}

-- how a test ends a command that makes it
abbrev pub passed : {X : Type 0} → Result X CheckError → Result X Stop
passed (Ok x) = Ok x
passed (Err (checks.No line)) = Err (stops.No line)
passed (Err checks.Memory) = Err stops.Memory

-- what passes all tests, or the line of the first one that fails, as a cause
abbrev pub as_tested : {X : Type 0} → Result X ℕ → Result X Cause
as_tested (Ok x) = Ok x
as_tested (Err line) = Err (not_a_run line)

-- the report in a file, of which one byte more is looked at than a report may have: it is one of the script, and it passes the tests that need no output
unfoldable pub tested_in : Files → RunInput → List ℕ → Result Report Cause
tested_in files input name = do
  text ← first_bytes files name (most_of_report + 1)
  as_tested (tested_report input.script input.sounds text)

-- a report is that of the text in a file, and it passes these tests; so its segments and its runs can be
pub record IsReportIn (files : Option Files) (input : RunInput) (name : List ℕ)
    (report : Report) : Type 0 where
  pub text : List ℕ
  pub fetched : ForSome files (λ m. bytes_under m name ≡ Some text)
  pub passes : tested_report input.script input.sounds text ≡ Ok report
  pub segments : HasTestedSegments input.script input.sounds report
  pub runs : HasTestedRuns input.script report

-- whether an output is the canonical file of some samples: one byte more is looked at than that has
unfoldable pub is_same_in : Files → OutputFile → List ℤ → Result Bool Cause
is_same_in files file samples = do
  bytes ← first_bytes files file.name (length (finished_file file samples) + 1)
  Ok (bytes_eq bytes (finished_file file samples))

-- a file is the one that it must be, or a test fails at a line
abbrev pub same_or_line : ℕ → Bool → Result (Unit {0}) Cause
same_or_line line true = Ok tt
same_or_line line false = Err (not_a_run line)

unfoldable pub same_in : Files → ℕ → OutputFile → List ℤ → Result (Unit {0}) Cause
same_in files line file samples = do
  same ← is_same_in files file samples
  same_or_line line same

-- `OUT.wav` is the canonical file of what the card played by the report's segments, or the test fails at the report's line `played`
unfoldable pub played_in : Files → RunInput → List ℕ → Report → Result (Unit {0}) Cause
played_in files input out report =
    same_in files (line_of_played report) (played_file input.script.card out)
    (played_samples input.script input.sounds report)

-- the `OUT.NAME.wav` of the reader of a number is the canonical file of what it recorded by its runs, or the test fails at the report's last line
unfoldable pub recording_in : Files → RunInput → List ℕ → Report → ℕ → ReaderLine → Result (Unit {0}) Cause
recording_in files input out report number reader =
    same_in files (line_of_end report) (recorded_file input.script.card out reader)
    (reader_samples input.script.card input.capture report number reader)

-- the same of each of some readers, in order, the first of which has a number
unfoldable pub recordings_in : Files → RunInput → List ℕ → Report → ℕ → List ReaderLine → Result (Unit {0}) Cause
recordings_in files input out report number [] = Ok tt
recordings_in files input out report number (reader ∷ readers) = do
  same ← recording_in files input out report number reader
  recordings_in files input out report (number + 1) readers

-- the outputs, in the order in which a run writes them
unfoldable pub outputs_in : Files → RunInput → List ℕ → Report → Result (Unit {0}) Cause
outputs_in files input out report = do
  played ← played_in files input out report
  recordings_in files input out report 0 input.script.readers

-- the input of a script, a report of it and the outputs are those of a checked run, or the first cause for which they aren't
unfoldable pub check_in : Files → List ℕ → List ℕ → List ℕ → Result (Unit {0}) Cause
check_in files script report out = do
  input ← input_in files script
  tested ← tested_in files input report
  outputs_in files input out tested

-- The script in a file with its input, the report in a file and the outputs are those of a checked run, which shows what is promised of a run's report and
-- files: what the card played is the saturated sum of exactly what the segments placed, each late row names a place without a sample of its client, and what
-- each reader recorded are the captured frames of its runs.
pub record IsCheckedRun (files : Option Files) (script report out : List ℕ) : Type 0 where
  pub input : RunInput
  pub read : ForSome files (λ m. input_in m script ≡ Ok input)
  pub text : List ℕ
  pub fetched : ForSome files (λ m. bytes_under m report ≡ Some text)
  pub contents : List (List ℕ)
  pub held : ForSome files (λ m. map (λ (file : OutputFile). bytes_under m file.name)
      (output_files input.script out) ≡ map (λ (bytes : List ℕ). Some bytes) contents)
  pub checked : IsChecked input.script input.sounds input.capture text contents
  pub shown : IsShown input.script input.sounds input.capture text contents

-- the files hold what a run of their script left: its report in a file, and the canonical file of each of its samples under that one's name
pub record HoldsRun (files : Files) (script report out : List ℕ) (input : RunInput)
    (outcome : Outcome) : Type 0 where
  pub read : input_in files script ≡ Ok input
  pub text : bytes_under files report ≡ Some (report_text input.script outcome.report)
  pub outputs : map (λ (file : OutputFile). bytes_under files file.name)
      (output_files input.script out)
      ≡ map (λ (bytes : List ℕ). Some bytes)
      (map canonical (run_sounds input.script (samples_of_run outcome)))
