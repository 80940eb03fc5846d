use Rattle.run_laws.proofs.FileLines.{LabRun-segments}
use Rattle.run_laws.proofs.headline.segments_are_of_files.Goals as goal

pub returns : goal.returns
returns c = LabRun-segments
