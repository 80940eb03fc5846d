use Rattle.run_laws.proofs.GrowthLaws.{borders-keep_frames, stages-grow}
use Rattle.run_laws.proofs.growth.stages_grow.Goals as goal

pub returns : goal.returns
returns c = record { grow = stages-grow; borders = borders-keep_frames }
