-- What a run of a script leaves that is done.
use Rattle.std.specs.Prelude.{◌≡◌, ◌⊎◌, ℕ, ℤ, List, ◌∷◌, ◌++◌, Option}
use Rattle.std.specs.Option.{option_map}
use Rattle.mix_core.specs.declared.gate.Pass.{Pass}
use Rattle.mix_core.specs.declared.gate.StepKind.{StepKind}
use Rattle.lab_report.specs.Text.{report_text}
use Rattle.lab_run.specs.LabRun.{LabRun, Outcome}
use Rattle.lab_run.specs.Openings.{IsSessionOf}
use Rattle.lab_run.specs.Stage.{Session, first_stage}
use Rattle.run_laws.specs.Headline.{Headline}
use Rattle.run_laws.specs.OneSample.{PlaysOneSample}
use Rattle.lab_input.specs.Input.{RunInput}
use Rattle.lab_phase.specs.PhaseRuns.{HaveAsked, Stops}
use Rattle.lab_output.specs.Files.{output_files, finished_files}
use Rattle.lab_shelf.specs.Files.{Files}
use Rattle.lab_play.specs.Exact.{HasStoppedRun}

-- the samples of each output: what the card played, and what each reader recorded
abbrev pub sounds_of : Outcome → List (List ℤ)
sounds_of outcome = outcome.played ∷ outcome.recorded

-- A run of a script may leave this report and these samples, where each actor's own gate stops it so often at most. What they say (`Headline`): the card
-- played, at each frame and channel, the saturated sum of exactly the samples that the report's segments placed there, each once; a client that was
-- stopped takes away nothing of another; a late row names a place without a sample of its stretch; each reader recorded the captured frames of its runs.
-- Where clients share the card by channels, what is played at a place is the one sample that was placed there, or silence.
pub record IsRunOf (input : RunInput) (session : Session) (stops : Stops)
    (outcome : Outcome) : Type 0 where
  pub session_is : IsSessionOf input.script input.sounds session
  pub run : LabRun session input.capture input.script.body stops.clients stops.readers outcome
  pub headline : Headline input.script input.sounds session input.capture outcome
  pub one : PlaysOneSample session outcome

-- a run is done with this outcome: each of its files is the canonical WAV file of its samples, no other file changed, and the report's text was put
pub record HasPlayed (input : RunInput) (out : List ℕ) (stops : Stops) (outcome : Outcome)
    (before after : Option Files) (taken taken_after : Option (List ℕ)) : Type 0 where
  pub session : Session
  pub is : IsRunOf input session stops outcome
  pub files : after
      ≡ option_map (finished_files (output_files input.script out) (sounds_of outcome)) before
  pub text : taken_after ≡ option_map (λ t. t ++ report_text input.script outcome.report) taken

-- and from its beginning to its end its actors asked these gates as often as it counts
pub record HasPlayedAsking {T : Type 0} (asked : T → T → List StepKind → Pass → Type 0)
    (gates gates_after : List T) (input : RunInput) (out : List ℕ) (stops : Stops)
    (outcome : Outcome) (before after : Option Files)
    (taken taken_after : Option (List ℕ)) : Type 0 where
  pub played : HasPlayed input out stops outcome before after taken taken_after
  pub gates_asked : HaveAsked asked gates gates_after (first_stage played.session)
      played.is.run.end

-- nothing was written
pub record IsUntouched (before after : Option Files)
    (taken taken_after : Option (List ℕ)) : Type 0 where
  pub files : after ≡ before
  pub text : taken_after ≡ taken

-- a run isn't done: nothing was written, or it stopped at a stage, up to which each gate stopped its actor at most so often
abbrev pub HasPlayedPart : RunInput → List ℕ → Stops → Option Files → Option Files
    → Option (List ℕ) → Option (List ℕ) → Type 0
HasPlayedPart input out stops before after taken taken_after =
    IsUntouched before after taken taken_after ⊎ HasStoppedRun input out stops before after taken taken_after
