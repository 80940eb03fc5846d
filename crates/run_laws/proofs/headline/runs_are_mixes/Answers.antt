use Rattle.run_laws.proofs.Mixes.{LabRun-mix}
use Rattle.run_laws.proofs.headline.runs_are_mixes.Goals as goal

pub returns : goal.returns
returns c = LabRun-mix
