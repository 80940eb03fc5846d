use Rattle.dmix_client.proofs.client.Client.delay.Goals as goal

pub returns : goal.returns
returns g c = c.ask.ensures
