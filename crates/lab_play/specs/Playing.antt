-- A run of a script that goes on: a lab at a stage of it, and what is written of it so far.
--     Start      what a run began with
--     Scene      what it holds and has written at some moment
--     IsPlaying      all that the lab played and its readers recorded is written, at a moment between two items
--     HasUnwrittenPhase      a phase is done of which nothing is written yet
--     HasStopped      what is left of a run that stopped
--     IsStoppedAt      a run stopped at the stage of a lab, whose rings aren't closed yet
--     GoesOn      a run goes on from a stage, and what its gates were asked since
use Rattle.std.specs.Prelude.{◌≡◌, ℕ, ◌-◌, ◌*◌, ◌≤◌, ℤ, List, [], ◌∷◌, ◌++◌, length, take, Option}
use Rattle.std.specs.Option.{option_map}
use Rattle.lab_lines.specs.declared.line.Item.{Item}
use Rattle.lab_lines.specs.declared.script.Script.{Script}
use Rattle.lab_lines.specs.Script.{first_frame}
use Rattle.lab_lines.specs.declared.row.Row.{Row}
use Rattle.lab_report.specs.Text.{report_text}
use Rattle.lab_run.specs.LabRun.{all_segments, mix_of, recorded_from, report_of}
use Rattle.lab_run.specs.Openings.{IsSessionOf}
use Rattle.lab_run.specs.ScriptWords.{IsReached}
use Rattle.lab_run.specs.Stage.{Session, Stage}
use Rattle.run_laws.specs.OneSample.{AreSamples}
use Rattle.lab_input.specs.Input.{RunInput}
use Rattle.lab_phase.specs.declared.lab.Lab.{Lab}
use Rattle.lab_phase.specs.AtStage.{IsAtStage, IsOfScript, capture_of, played_of, session_of}
use Rattle.lab_phase.specs.PhaseRuns.{AreStopsOf, HaveSameAsks, Stops}
use Rattle.lab_output.specs.declared.outputs.Outputs.{Outputs}
use Rattle.lab_output.specs.Files.{MayHold, output_files}
use Rattle.lab_output.specs.Going.{AreLonger, AreOutputs, IsGoingOn}
use Rattle.lab_output.specs.Text.{text_so_far}
use Rattle.lab_shelf.specs.Changes.{Changes}
use Rattle.lab_shelf.specs.Files.{Files, TookPart}
use Rattle.lab_play.specs.Order.{RowsFollowFrames, StopsInFrames}
use Rattle.lab_play.specs.Stops.{IsWithinStops, rises}

-- what a run began with: its input, the name of its output, how often gates had stopped, what files there were, and what the output had taken
pub record Start : Type 0 where
  pub input : RunInput
  pub out : List ℕ
  pub stops : Stops
  pub files : Option Files
  pub taken : Option (List ℕ)

-- what it holds and has written at some moment
pub record Scene : Type 0 where
  pub lab : Lab
  pub outputs : Outputs
  pub files : Option Files
  pub taken : Option (List ℕ)

abbrev pub scene : Lab → Outputs → Option Files → Option (List ℕ) → Scene
scene lab outputs files taken = record { lab = lab; outputs = outputs; files = files; taken = taken }

-- the samples that a lab holds of each output: what its card played, and what each reader recorded
abbrev pub sounds_at : Lab → Stage → List (List ℤ)
sounds_at lab stage = played_of lab ∷ recorded_from (session_of lab) (capture_of lab) 0 stage.readers

-- these samples are written of each output, and the lines of some first rows
pub record AreWritten (start : Start) (sounds : List (List ℤ)) (rows : List Row) (outputs : Outputs)
    (files : Option Files) (taken : Option (List ℕ)) : Type 0 where
  pub outputs_are : AreOutputs outputs
  pub files_are : outputs.files.items ≡ output_files start.input.script start.out
  pub going_on : IsGoingOn outputs.files.items outputs.samples.items sounds start.files files
  pub few : outputs.rows ≤ length rows
  pub text : taken
      ≡ option_map (λ t. t ++ text_so_far start.input.script (take outputs.rows rows)) start.taken

-- the lab of the run is at a stage, at which its gates have stopped so often; the samples of the clients' files are of 16 bits
pub record IsLabOf (start : Start) (stops : Stops) (lab : Lab) (stage : Stage) : Type 0 where
  pub script_is : IsOfScript start.input.script start.input.sounds start.input.capture lab
  pub samples : AreSamples start.input.sounds
  pub stage_is : IsAtStage lab stage
  pub counted : AreStopsOf start.stops stops stage

-- all that the lab played and its readers recorded is written
pub record IsPlaying (start : Start) (stops : Stops) (at : Scene) : Type 0 where
  pub stage : Stage
  pub lab_is : IsLabOf start stops at.lab stage
  pub written : AreWritten start (sounds_at at.lab stage) stage.rows at.outputs at.files at.taken

-- less of it is written: the frames of its last phase are still to be appended, and no row of it was put
pub record HasUnwrittenPhase (start : Start) (stops : Stops) (at : Scene) : Type 0 where
  pub stage : Stage
  pub lab_is : IsLabOf start stops at.lab stage
  pub sounds : List (List ℤ)
  pub longer : AreLonger sounds (sounds_at at.lab stage)
  pub written : AreWritten start sounds stage.rows at.outputs at.files at.taken
  pub order : StopsInFrames start.input (session_of at.lab) lab_is.stage_is.has_done.others stage start.taken at.taken

-- the text of a report of a run that reached a stage: all of it where no item is left to do
abbrev pub text_at : Script → Session → List Item → Stage → List ℕ
text_at script session [] stage = report_text script (report_of session stage)
text_at script session (one ∷ others) stage = text_so_far script stage.rows

-- A run stopped: it had reached a stage, up to which each actor's own gate stopped it at most so often. What its card had played is the mix of the
-- segments so far. Each of its files is as it was before the run, or has one of the forms of its samples so far, and no other file changed; the first
-- bytes of the report's text were put, and no row before the frames of its phase.
pub record HasStopped (input : RunInput) (out : List ℕ) (stops : Stops)
    (before after : Option Files) (taken taken_after : Option (List ℕ)) : Type 0 where
  pub session : Session
  pub session_is : IsSessionOf input.script input.sounds session
  pub done : List Item
  pub others : List Item
  pub stage : Stage
  pub reached : IsReached input.script input.sounds session done others stage
  pub within : IsWithinStops stops stage
  pub played : List ℤ
  pub frames : length played
      ≡ (stage.position - first_frame input.script.card) * input.script.card.channels
  pub mix : played
      ≡ mix_of session (all_segments stage.clients) (stage.position - first_frame session.card)
  pub changes : Changes (MayHold (output_files input.script out) (played ∷ recorded_from session input.capture 0 stage.readers)) before after
  pub text : TookPart taken taken_after (text_at input.script session others stage)
  pub order : RowsFollowFrames input out session others stage (played ∷ recorded_from session input.capture 0 stage.readers) before after taken taken_after

-- a run that began so stopped, when its gates had stopped so often, and left this
abbrev pub IsStopped : Start → Stops → Option Files → Option (List ℕ) → Type 0
IsStopped start stops files taken = HasStopped start.input start.out (rises start.stops stops) start.files files start.taken taken

-- it stopped at the stage of a lab, when its gates had stopped so often: what is left is that of a run that stopped there with what the lab holds
pub record IsStoppedAt (start : Start) (stops : Stops) (lab : Lab) (files : Option Files)
    (taken : Option (List ℕ)) : Type 0 where
  pub stage : Stage
  pub lab_is : IsLabOf start stops lab stage
  pub changes : Changes (MayHold (output_files start.input.script start.out) (sounds_at lab stage))
      start.files files
  pub text : TookPart start.taken taken
      (text_at start.input.script (session_of lab) lab_is.stage_is.has_done.others stage)
  pub order : RowsFollowFrames start.input start.out (session_of lab)
      lab_is.stage_is.has_done.others stage (sounds_at lab stage) start.files files
      start.taken taken

-- ---- what calls make of a run, whatever it began with

-- the run goes on from this stage, and its gates did so from there to where it is
pub record GoesOn (Gates : Stage → Stage → Type 0) (start : Start) (stage : Stage)
    (stops : Stops) (at : Scene) : Type 0 where
  pub playing : IsPlaying start stops at
  pub gates : Gates stage playing.stage

abbrev pub GoesOnWriting : (Stage → Stage → Type 0) → Stops → Scene → Stops → Scene → Type 0
GoesOnWriting Gates stops before stops_after after =
    (start : Start) → (is : IsPlaying start stops before) → GoesOn Gates start is.stage stops_after after

-- it stopped at the stage of a lab, when its gates had stopped so often, and left this
abbrev pub StopsAt : Stops → Scene → Stops → Lab → Option Files → Option (List ℕ) → Type 0
StopsAt stops before stops_after lab files taken = (start : Start) → IsPlaying start stops before → IsStoppedAt start stops_after lab files taken

-- and all that the lab holds after an item is written still, where it was before, and however often gates have stopped; none was asked
abbrev pub StaysWritten : Lab → Lab → Type 0
StaysWritten lab after =
    (stops : Stops) (outputs : Outputs) (files : Option Files) (taken : Option (List ℕ))
    → GoesOnWriting HaveSameAsks stops (scene lab outputs files taken) stops (scene after outputs files taken)

-- what was played and recorded is written, and the run is at the same stage
abbrev pub WritesPhase : Scene → Scene → Type 0
WritesPhase before after =
    (start : Start) (stops : Stops) → (is : HasUnwrittenPhase start stops before)
    → GoesOn (λ stage next. next ≡ stage) start is.stage stops after

abbrev pub StopsWritingPhase : Scene → Option Files → Option (List ℕ) → Type 0
StopsWritingPhase before files taken = (start : Start) (stops : Stops) → HasUnwrittenPhase start stops before → IsStoppedAt start stops before.lab files taken

-- there is a run of a script that is at this moment
pub record CanPlay (script : Script) (stops : Stops) (at : Scene) : Type 0 where
  pub start : Start
  pub script_is : start.input.script ≡ script
  pub is : IsPlaying start stops at

pub record CanWritePhase (script : Script) (at : Scene) : Type 0 where
  pub start : Start
  pub stops : Stops
  pub script_is : start.input.script ≡ script
  pub is : HasUnwrittenPhase start stops at

-- the files were known when a run at this moment began
pub record IsKnownRun (stops : Stops) (at : Scene) : Type 0 where
  pub start : Start
  pub is : IsPlaying start stops at
  pub known : Rattle.std.specs.Prelude.IsSome start.files

-- the files were known when a run began of which a phase isn't written yet
pub record IsKnownUnwritten (at : Scene) : Type 0 where
  pub start : Start
  pub stops : Stops
  pub is : HasUnwrittenPhase start stops at
  pub known : Rattle.std.specs.Prelude.IsSome start.files
