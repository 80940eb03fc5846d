use Rattle.run_laws.proofs.AtMostOne.{segment-once}
use Rattle.run_laws.proofs.headline.segments_place_once.Goals as goal

pub returns : goal.returns
returns c = segment-once
