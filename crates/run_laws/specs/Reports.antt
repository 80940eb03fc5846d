-- The reports of a script's runs: their rows are those of the script's lines, their segments and runs of its clients and readers.
use Rattle.std.specs.Prelude.{◌≡◌, ℕ, List, map, All, Option}
use Rattle.wav_io.specs.Sound.{Sound}
use Rattle.lab_lines.specs.declared.line.Item.{Item}
use Rattle.lab_lines.specs.declared.script.Script.{Script}
use Rattle.lab_lines.specs.Limits.{IsScript}
use Rattle.lab_report.specs.Requests.{requests_from}
use Rattle.lab_lines.specs.Rows.{request_of_row}
use Rattle.lab_report.specs.Text.{IsReportOf, IsRowOf, IsTailOf}
use Rattle.lab_run.specs.LabRun.{LabRun, Outcome, report_of}
use Rattle.lab_run.specs.Openings.{IsSessionOf}
use Rattle.lab_run.specs.ScriptWords.{IsReached}
use Rattle.lab_run.specs.Stage.{Session, Stage}
use Rattle.run_laws.specs.Sizes.{HasSizes}

-- the rows of a stage are those of the items that are done, in the order of a report, and each has a text in a report of the script; the
-- segments and runs so far are of the script's clients and readers
pub record IsReportedIn (script : Script) (session : Session) (done : List Item)
    (stage : Stage) : Type 0 where
  pub lines : map request_of_row stage.rows ≡ requests_from 0 done
  pub rows : All (IsRowOf script) stage.rows
  pub tail : IsTailOf script (report_of session stage)

-- each stage of a run of a script
abbrev pub StagesAreReported : Type 0
StagesAreReported =
    (script : Script) (wavs : List Sound) (session : Session) (done others : List Item)
    (stage : Stage)
    → IsReached script wavs session done others stage → IsReportedIn script session done stage

-- what a run leaves is of its script: the report is one of that script, and the samples fit WAV files
pub record IsOutcomeOf (script : Script) (outcome : Outcome) : Type 0 where
  pub report : IsReportOf script outcome.report
  pub sizes : HasSizes script outcome

-- each run of a script's body, however often the actors' own gates stop them
abbrev pub OutcomesAreOfScripts : Type 0
OutcomesAreOfScripts =
    (script : Script) (wavs : List Sound) (session : Session) (capture : Option Sound)
    (client_stops reader_stops : ℕ → ℕ) (outcome : Outcome)
    → IsScript script → IsSessionOf script wavs session
    → LabRun session capture script.body client_stops reader_stops outcome
    → IsOutcomeOf script outcome
