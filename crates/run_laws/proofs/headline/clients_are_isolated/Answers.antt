use Rattle.run_laws.proofs.Exactly.{alone-same}
use Rattle.run_laws.proofs.headline.clients_are_isolated.Goals as goal

pub returns : goal.returns
returns c = alone-same
