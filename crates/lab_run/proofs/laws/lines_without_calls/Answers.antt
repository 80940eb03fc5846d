use Rattle.lab_run.proofs.PartsGrow.{client-lines_without, reader-lines_without}
use Rattle.lab_run.proofs.laws.lines_without_calls.Goals as goal

pub returns : goal.returns
returns c = record { clients = client-lines_without; readers = reader-lines_without }
