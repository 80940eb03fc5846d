use Rattle.pcm_format.specs.PlaceLaws.{HoldsRange_whole}
use Rattle.pcm_format.proofs.laws.whole_buffers_hold_every_range.Goals as goal

pub returns : goal.returns
returns c = HoldsRange_whole
