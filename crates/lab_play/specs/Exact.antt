-- A run that stopped, of a script without a mixed phase, and whose gates stopped nobody: it is on the way to the one run of the script.
--     IsFirstPartOf      what it had played, recorded and answered is the first part of what an outcome has
--     HasStoppedRun      a run stopped, and what it leaves is the first part of what the script's one run leaves
use Rattle.std.specs.Prelude.{◌≡◌, ℕ, ℤ, List, [], ◌∷◌, ◌++◌, Option}
use Rattle.lab_lines.specs.declared.line.Item.{Item}
use Rattle.lab_lines.specs.declared.row.Row.{Row}
use Rattle.lab_lines.specs.declared.script.Script.{Script}
use Rattle.lab_report.specs.Text.{report_text}
use Rattle.lab_run.specs.LabRun.{Outcome, lab_text, recorded_from}
use Rattle.lab_run.specs.Phases.{AreUnmixed}
use Rattle.lab_input.specs.Input.{RunInput}
use Rattle.lab_output.specs.Going.{AreLonger}
use Rattle.lab_phase.specs.PhaseRuns.{Stops}
use Rattle.lab_shelf.specs.Files.{Files, TookPart}
use Rattle.lab_play.specs.Playing.{HasStopped}
use Rattle.lab_play.specs.Stops.{HaveNoStops}

-- The samples so far of each output, and the rows so far, are the first of those that an outcome has; where no item is left to do they are all of them.
-- What was put is the first bytes of the text of the outcome's report.
pub record IsFirstPartOf (script : Script) (others : List Item) (sounds : List (List ℤ))
    (rows : List Row) (outcome : Outcome) (taken taken_after : Option (List ℕ)) : Type 0 where
  pub samples : AreLonger sounds (outcome.played ∷ outcome.recorded)
  pub more : List Row
  pub rows_are : outcome.report.rows ≡ rows ++ more
  pub all : others ≡ [] → (sounds ≡ outcome.played ∷ outcome.recorded) × (rows ≡ outcome.report.rows)
  pub text : TookPart taken taken_after (report_text script outcome.report)

-- A run stopped. Where no phase of its script is mixed, and no gate stopped an actor, what it had played, recorded and answered is the first part of what
-- the one run of the script leaves (`lab_text`).
pub record HasStoppedRun (input : RunInput) (out : List ℕ) (stops : Stops)
    (before after : Option Files) (taken taken_after : Option (List ℕ)) : Type 0 where
  pub stopped : HasStopped input out stops before after taken taken_after
  pub exact : HaveNoStops stops → AreUnmixed input.script.body
      → IsFirstPartOf input.script stopped.others
      (stopped.played ∷ recorded_from stopped.session input.capture 0 stopped.stage.readers)
      stopped.stage.rows (lab_text stopped.session input.capture input.script.body) taken
      taken_after
