use Rattle.run_laws.proofs.actors.calls_are_alike.Goals as goal
use Rattle.lab_run.proofs.CallsAlike.{calls-alike}
use Rattle.lab_run.proofs.ReadsAlike.{reads-alike}

pub returns : goal.returns
returns c = record { clients = calls-alike; readers = reads-alike }
