-- The beginning of a run, and its end.
use Rattle.std.specs.Prelude.{◌≡◌, ℕ, List, [], Option, IsSome}
use Rattle.lab_lines.specs.declared.script.Script.{Script}
use Rattle.lab_run.specs.LabRun.{Outcome}
use Rattle.lab_run.specs.Stage.{Session, Stage, first_stage}
use Rattle.run_laws.specs.OneSample.{AreSamples}
use Rattle.lab_input.specs.Input.{RunInput}
use Rattle.lab_phase.specs.declared.lab.Lab.{Lab}
use Rattle.lab_phase.specs.AtStage.{IsAtStage, IsOfScript, items_done, played_of, session_of}
use Rattle.lab_phase.specs.PhaseRuns.{Stops}
use Rattle.lab_output.specs.declared.outputs.Outputs.{Outputs}
use Rattle.lab_output.specs.Going.{AreNew, AreOutputs}
use Rattle.lab_shelf.specs.Files.{Files}
use Rattle.lab_play.specs.Played.{HasPlayed}
use Rattle.lab_play.specs.Playing.{IsPlaying, IsStopped, Scene, Start}
use Rattle.lab_play.specs.Stops.{rises}

-- a lab of an input's script before the first item of its body, and outputs of it of which nothing is written; the samples of the clients' files are of
-- 16 bits
pub record IsNewRun (input : RunInput) (out : List ℕ) (lab : Lab) (outputs : Outputs) : Type 0 where
  pub script_is : IsOfScript input.script input.sounds input.capture lab
  pub samples : AreSamples input.sounds
  pub first : IsAtStage lab (first_stage (session_of lab))
  pub none : items_done lab ≡ 0
  pub silent : played_of lab ≡ []
  pub outputs_are : AreOutputs outputs
  pub new : AreNew input.script out outputs

pub record IsSomeNewRun (script : Script) (lab : Lab) (outputs : Outputs) : Type 0 where
  pub input : RunInput
  pub out : List ℕ
  pub script_is : input.script ≡ script
  pub is : IsNewRun input out lab outputs

-- there is a run of a script that is at this moment, however often its gates have stopped
pub record CanEnd (script : Script) (at : Scene) : Type 0 where
  pub start : Start
  pub stops : Stops
  pub script_is : start.input.script ≡ script
  pub is : IsPlaying start stops at

-- a run of this session is done at this stage with this outcome
pub record EndsAt (session : Session) (stage : Stage) (start : Start) (stops : Stops)
    (outcome : Outcome) (files : Option Files) (taken : Option (List ℕ)) : Type 0 where
  pub played : HasPlayed start.input start.out (rises start.stops stops) outcome start.files files
      start.taken taken
  pub session_is : played.session ≡ session
  pub end_is : played.is.run.end ≡ stage

-- a run of which all items are done is done with this outcome
abbrev pub EndsWith : Scene → Outcome → Option Files → Option (List ℕ) → Type 0
EndsWith before outcome files taken =
    (start : Start) (stops : Stops) → (is : IsPlaying start stops before)
    → EndsAt (session_of before.lab) is.stage start stops outcome files taken

abbrev pub StopsAtEnd : Scene → Option Files → Option (List ℕ) → Type 0
StopsAtEnd before files taken = (start : Start) (stops : Stops) → IsPlaying start stops before → IsStopped start stops files taken

-- the files were known when a run at this moment began
pub record IsKnownAtEnd (at : Scene) : Type 0 where
  pub start : Start
  pub stops : Stops
  pub is : IsPlaying start stops at
  pub known : IsSome start.files
