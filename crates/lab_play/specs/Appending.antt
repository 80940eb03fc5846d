-- What an append of all outputs asks: they are behind what the lab holds.
use Rattle.std.specs.Prelude.{◌≡◌, ◌≤◌, ℤ, List, All, length, map, Option}
use Rattle.lab_run.specs.Stage.{Stage}
use Rattle.lab_phase.specs.declared.lab.Lab.{Lab}
use Rattle.lab_phase.specs.AtStage.{IsAtStage}
use Rattle.lab_output.specs.declared.outputs.Outputs.{Outputs}
use Rattle.lab_output.specs.Going.{AreLonger, AreOutputs, FitsWavFile, IsGoingOn}
use Rattle.lab_shelf.specs.Files.{Files}
use Rattle.lab_play.specs.Playing.{sounds_at}

-- the outputs of a lab, at most 65, have fewer samples than the lab, or as many, and all that it has fit into WAV files
pub record CanAppend (lab : Lab) (outputs : Outputs) (files : Option Files) : Type 0 where
  pub stage : Stage
  pub at : IsAtStage lab stage
  pub outputs_are : AreOutputs outputs
  pub number : length outputs.files.items ≡ length (sounds_at lab stage)
  pub few_outputs : length (sounds_at lab stage) ≤ 65
  pub before : Option Files
  pub sounds : List (List ℤ)
  pub longer : AreLonger sounds (sounds_at lab stage)
  pub going_on : IsGoingOn outputs.files.items outputs.samples.items sounds before files
  pub few : All FitsWavFile (map length (sounds_at lab stage))
