use Rattle.run_laws.proofs.ClientSums.{LabRun-clients}
use Rattle.run_laws.proofs.headline.mixes_are_of_clients.Goals as goal

pub returns : goal.returns
returns c = LabRun-clients
