use Rattle.run_laws.proofs.SampleSizes.{stages-have_sizes}
use Rattle.run_laws.proofs.rows.stages_have_sizes.Goals as goal

pub returns : goal.returns
returns c = stages-have_sizes
