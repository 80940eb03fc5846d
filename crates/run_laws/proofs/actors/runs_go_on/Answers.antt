use Rattle.run_laws.proofs.actors.runs_go_on.Goals as goal
use Rattle.run_laws.proofs.RunGoesOn.{goes-on}

pub returns : goal.returns
returns c session done others stage may = goes-on session done others stage may
