use Rattle.run_laws.proofs.Runs.{outcomes-are_of_scripts}
use Rattle.run_laws.proofs.rows.outcomes_are_of_scripts.Goals as goal

pub returns : goal.returns
returns c = outcomes-are_of_scripts
