use Rattle.run_laws.proofs.IdleReaders.{LabRun-unopened}
use Rattle.run_laws.proofs.headline.unopened_readers_have_no_runs.Goals as goal

pub returns : goal.returns
returns c = LabRun-unopened
