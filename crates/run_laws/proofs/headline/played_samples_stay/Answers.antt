use Rattle.run_laws.proofs.PlayedStages.{stage-stays}
use Rattle.run_laws.proofs.headline.played_samples_stay.Goals as goal

pub returns : goal.returns
returns c = stage-stays
