use Rattle.run_laws.proofs.actors.actors_are_alone.Goals as goal
use Rattle.run_laws.proofs.OwnClients.{client-alone}
use Rattle.run_laws.proofs.OwnReaders.{reader-alone}

pub returns : goal.returns
returns c session capture body = record {
  clients = client-alone session capture body;
  readers = reader-alone session capture body;
}
