use Rattle.run_laws.proofs.BoundChannels.{script-bound}
use Rattle.run_laws.proofs.headline.scripts_bind_channels.Goals as goal

pub returns : goal.returns
returns c = script-bound
