use Rattle.lab_run.proofs.ReportSizes.{stages-within}
use Rattle.lab_run.proofs.laws.reports_are_within_rows.Goals as goal

pub returns : goal.returns
returns c session done stage may = stages-within session done stage may
