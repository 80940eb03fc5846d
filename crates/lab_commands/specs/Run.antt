-- What the command `run` leaves.
use Rattle.std.specs.Prelude.{◌≡◌, ◌++◌, ℕ, List, Option, Some, Ok}
use Rattle.std.specs.Option.{ForSome, option_map}
use Rattle.mix_core.specs.declared.gate.Pass.{Pass}
use Rattle.mix_core.specs.declared.gate.StepKind.{StepKind}
use Rattle.lab_check.specs.Runs.{CanPass, samples_of_run}
use Rattle.lab_check.specs.Shown.{SaysHeadline}
use Rattle.run_laws.specs.Exact.{IsExactRun, IsOwnRun}
use Rattle.lab_input.specs.Input.{RunInput, input_in}
use Rattle.lab_output.specs.Files.{output_files, finished_files}
use Rattle.lab_phase.specs.PhaseRuns.{HaveAsked, Stops}
use Rattle.lab_play.specs.Exact.{HasStoppedRun}
use Rattle.lab_play.specs.Played.{IsRunOf, sounds_of}
use Rattle.lab_play.specs.Stops.{HaveNoStops}
use Rattle.lab_report.specs.Text.{report_text}
use Rattle.lab_run.specs.LabRun.{Outcome, lab_text}
use Rattle.lab_run.specs.Openings.{IsSessionOf}
use Rattle.lab_run.specs.Phases.{AreUnmixed}
use Rattle.lab_run.specs.Stage.{Session, first_stage}
use Rattle.lab_shelf.specs.Files.{Files}
use Rattle.lab_compare.specs.Checking.{HoldsRun, check_in}

-- A run is done. Its script and all WAV files that it names are what the files held. There are a report and samples that are of a run of them, in which
-- each gate stopped its actor at most so often (`IsRunOf`). OUT.wav is the WAV file of what the card played, and OUT.NAME.wav that of what each reader
-- recorded; no other file changed, and the output took the report's text. Where no gate stopped an actor, and no phase has lines of the card and of
-- others, that run is the only one, and each actor does in it what it does by itself. The headline of the run is that of its script, its files and its report
-- alone; and where these are in files, and the report can pass (`CanPass`), a check of them finds no cause.
pub record HasFinished (script out : List ℕ) (stops : Stops) (before after : Option Files)
    (taken taken_after : Option (List ℕ)) : Type 0 where
  pub input : RunInput
  pub read : ForSome before (λ files. input_in files script ≡ Ok input)
  pub session : Session
  pub outcome : Outcome
  pub is : IsRunOf input session stops outcome
  pub exact : HaveNoStops stops → IsExactRun session input.capture input.script.body outcome
  pub own : HaveNoStops stops → IsOwnRun input.script session outcome
  pub says : SaysHeadline input.script input.sounds input.capture outcome.report
      (samples_of_run outcome)
  pub passes : (held : Files) (report : List ℕ)
      → CanPass input.script input.sounds outcome.report
      → HoldsRun held script report out input outcome
      → check_in held script report out ≡ Ok tt
  pub files : after
      ≡ option_map (finished_files (output_files input.script out) (sounds_of outcome)) before
  pub text : taken_after ≡ option_map (λ t. t ++ report_text input.script outcome.report) taken

-- and from its beginning to its end its actors asked these gates as often as it counts
pub record HasFinishedAsking {T : Type 0} (asked : T → T → List StepKind → Pass → Type 0)
    (gates gates_after : List T) (script out : List ℕ) (stops : Stops)
    (before after : Option Files) (taken taken_after : Option (List ℕ)) : Type 0 where
  pub finished : HasFinished script out stops before after taken taken_after
  pub gates_asked : HaveAsked asked gates gates_after (first_stage finished.session)
      finished.is.run.end

-- what is stored and put is what a script and its WAV files have by themselves: the one report and the one list of samples that their lines leave no
-- choice of
pub record IsOnlyRun (out : List ℕ) (files : Files) (after : Option Files)
    (taken taken_after : Option (List ℕ)) (input : RunInput) (session : Session) : Type 0 where
  pub files_are : after
      ≡ Some (finished_files (output_files input.script out) (sounds_of (lab_text session input.capture input.script.body)) files)
  pub text : taken_after
      ≡ option_map (λ t. t ++ report_text input.script (lab_text session input.capture input.script.body).report) taken

-- of whatever input and session the files give
abbrev pub IsOnlyRunOf : List ℕ → List ℕ → Stops → Option Files → Option Files → Option (List ℕ)
    → Option (List ℕ) → Type 0
IsOnlyRunOf script out stops before after taken taken_after =
    ForSome before (λ files. (input : RunInput) (session : Session) → input_in files script ≡ Ok input → IsSessionOf input.script input.sounds session
    → AreUnmixed input.script.body → HaveNoStops stops → IsOnlyRun out files after taken taken_after input session)

-- A run stopped while it was written: its input was what the files held, and what is written is of a run of it that reached a stage, up to which each gate
-- stopped its actor at most so often, and whose card had played the mix of the segments so far (`HasStopped`). Where no gate stopped an actor, and no phase
-- has lines of the card and of others, it is the first part of what the one run leaves (`HasStoppedRun`).
pub record IsUnfinished (script out : List ℕ) (stops : Stops) (before after : Option Files)
    (taken taken_after : Option (List ℕ)) : Type 0 where
  pub input : RunInput
  pub read : ForSome before (λ files. input_in files script ≡ Ok input)
  pub run : HasStoppedRun input out stops before after taken taken_after
