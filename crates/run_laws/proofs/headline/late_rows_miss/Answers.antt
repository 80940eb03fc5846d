use Rattle.run_laws.proofs.Missed.{late-missed}
use Rattle.run_laws.proofs.RowLines.{LabRun-late}
use Rattle.run_laws.proofs.headline.late_rows_miss.Goals as goal

pub returns-clause-lines : goal.returns-clause-lines
returns-clause-lines c session body = late-missed session body c.late_rows_name_samples.ensures.next c.late_rows_name_samples.ensures.last

pub returns-clause-rows : goal.returns-clause-rows
returns-clause-rows c session capture body client_stops reader_stops outcome run =
    LabRun-late session capture body client_stops reader_stops outcome
    (late-missed session body c.late_rows_name_samples.ensures.next c.late_rows_name_samples.ensures.last) run
