use Rattle.run_laws.proofs.CapturedRuns.{readers-capture}
use Rattle.run_laws.proofs.rows.readers_capture_frames.Goals as goal

pub returns : goal.returns
returns c = readers-capture
