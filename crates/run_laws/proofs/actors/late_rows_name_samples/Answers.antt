use Rattle.run_laws.proofs.LateRows.{late-rewinds, late-rows}
use Rattle.run_laws.proofs.actors.late_rows_name_samples.Goals as goal

pub returns : goal.returns
returns c = record { next = late-rows; last = late-rewinds }
