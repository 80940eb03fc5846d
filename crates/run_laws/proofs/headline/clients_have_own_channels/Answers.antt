use Rattle.run_laws.proofs.Apart.{own-channels}
use Rattle.run_laws.proofs.headline.clients_have_own_channels.Goals as goal

pub returns : goal.returns
returns c session done stage = own-channels session done stage c.claims_are_of_owners.ensures
