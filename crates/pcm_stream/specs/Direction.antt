-- Which way the frames of a stream go.
use Rattle.std.specs.Prelude.{Bool, true, false}
use Rattle.pcm_stream.specs.declared.direction.Direction.{Direction}
use Rattle.pcm_stream.specs.declared.direction.Direction.TheVariants.{Capture, Playback}

-- frames are captured
abbrev pub is_capture : Direction → Bool
is_capture Playback = false
is_capture Capture = true
