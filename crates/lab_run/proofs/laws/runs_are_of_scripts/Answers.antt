use Rattle.lab_run.proofs.ScriptLines.{script-have_lines}
use Rattle.lab_run.proofs.ScriptWords.{phases-of_scripts, stages-of_scripts}
use Rattle.lab_run.proofs.laws.runs_are_of_scripts.Goals as goal

pub returns : goal.returns
returns c = record { stages = stages-of_scripts; phases = phases-of_scripts; lines = script-have_lines }
