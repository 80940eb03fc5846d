use Rattle.dmix_client.proofs.client.Client.avail_update.Goals as goal

pub returns : goal.returns
returns g c = c.ask.ensures
