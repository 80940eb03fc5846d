use Rattle.run_laws.proofs.RowStages.{stages-are_reported}
use Rattle.run_laws.proofs.rows.stages_have_rows.Goals as goal

pub returns : goal.returns
returns c = stages-are_reported
