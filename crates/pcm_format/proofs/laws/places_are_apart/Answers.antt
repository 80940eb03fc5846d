use Rattle.pcm_format.specs.PlaceLaws.{place_of-frame, place_of-channel}
use Rattle.pcm_format.proofs.laws.places_are_apart.Goals as goal

pub returns-clause-frames : goal.returns-clause-frames
returns-clause-frames c = place_of-frame

pub returns-clause-channels : goal.returns-clause-channels
returns-clause-channels c = place_of-channel
