use Rattle.run_laws.proofs.Exactly.{unstopped-exact}
use Rattle.run_laws.proofs.headline.runs_are_exact.Goals as goal

pub returns : goal.returns
returns c session capture body outcome = unstopped-exact session capture body outcome (c.one_run.ensures session capture body)
