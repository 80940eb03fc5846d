-- How many segments and runs a report may have.
use Rattle.std.specs.Prelude.{◌≤◌, List, length}
use Rattle.lab_lines.specs.declared.line.Item.{Item}
use Rattle.lab_run.specs.Items.{ItemsMay}
use Rattle.lab_run.specs.LabRun.{all_runs, all_segments}
use Rattle.lab_run.specs.Stage.{Session, Stage, first_stage}

-- the report of a run that ends at a stage has no more segments than rows, and no more runs than rows
pub record IsWithinRows (stage : Stage) : Type 0 where
  pub segments : length (all_segments stage.clients) ≤ length stage.rows
  pub runs : length (all_runs stage.readers) ≤ length stage.rows

-- each stage that items may reach is such
abbrev pub StagesAreWithinRows : Type 0
StagesAreWithinRows =
    (session : Session) (done : List Item) (stage : Stage)
    → ItemsMay session (first_stage session) done stage → IsWithinRows stage
