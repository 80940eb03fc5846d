-- A stage of a run in the words of its script: how many phases are done, where the card is, and what it publishes in the next phase.
use Rattle.std.specs.Prelude.{◌≡◌, ℕ, ◌+◌, List, ◌∷◌, ◌++◌, length, Contains}
use Rattle.wav_io.specs.Sound.{Sound}
use Rattle.lab_lines.specs.declared.line.Item.{Item}
use Rattle.lab_lines.specs.declared.line.Item.TheVariants as item
use Rattle.lab_lines.specs.declared.line.Line.{Line}
use Rattle.lab_lines.specs.declared.script.Script.{Script}
use Rattle.lab_lines.specs.Limits.{IsScript}
use Rattle.lab_lines.specs.Script.{IsCardPosition, is_gone, phase_at, phases_of, position_after_phases}
use Rattle.lab_run.specs.Items.{ItemsMay, rules_of}
use Rattle.lab_run.specs.Openings.{IsSessionOf}
use Rattle.lab_run.specs.Rules.{Rules}
use Rattle.lab_run.specs.Stage.{Session, Stage, first_stage}

-- a stage that the first items of a script's body may reach, where the others come after it
pub record IsReached (script : Script) (wavs : List Sound) (session : Session)
    (done others : List Item) (stage : Stage) : Type 0 where
  pub script_is : IsScript script
  pub session_is : IsSessionOf script wavs session
  pub body : script.body ≡ done ++ others
  pub may : ItemsMay session (first_stage session) done stage

-- these items' phases are done, and the card is where the script has it after so many phases
pub record IsAfterPhases (script : Script) (done : List Item) (stage : Stage) : Type 0 where
  pub phases : stage.phases ≡ length (phases_of done)
  pub position : stage.position ≡ position_after_phases script stage.phases
  pub gone : stage.gone ≡ is_gone script (stage.phases + 1)

-- what a phase allows is what the script has of the phase of this number: its lines, the position at its end, whether the card is gone, and
-- the positions that the card publishes in it
pub record AreRulesOf (script : Script) (phase : ℕ) (lines : List Line)
    (rules : Rules) : Type 0 where
  pub lines_are : phase_at script phase ≡ lines
  pub position : rules.at.position ≡ position_after_phases script phase
  pub gone : rules.at.gone ≡ is_gone script phase
  pub published : (q : ℕ) → Contains rules.published q → IsCardPosition script phase q
  pub publishes : (q : ℕ) → IsCardPosition script phase q → Contains rules.published q

-- each stage of a run of a script
abbrev pub StagesAreOfScripts : Type 0
StagesAreOfScripts =
    (script : Script) (wavs : List Sound) (session : Session) (done others : List Item)
    (stage : Stage)
    → IsReached script wavs session done others stage → IsAfterPhases script done stage

-- each phase of a run of a script
abbrev pub PhasesAreOfScripts : Type 0
PhasesAreOfScripts =
    (script : Script) (wavs : List Sound) (session : Session) (done others : List Item)
    (lines : List Line) (stage : Stage)
    → IsReached script wavs session done (item.Phase lines ∷ others) stage
    → AreRulesOf script (stage.phases + 1) lines (rules_of session stage lines)
