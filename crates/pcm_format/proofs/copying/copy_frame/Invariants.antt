use Rattle.std.specs.Prelude.{slice_get}
use Rattle.pcm_format.specs.Places.{place_of}
use Rattle.pcm_format.proofs.Frames.{FrameHas, FrameOnly}
use Rattle.pcm_format.proofs.copying.copy_frame.Given as goal

abbrev pub invariant-loop-channel : goal.invariant-loop-channel
invariant-loop-channel l = record {
  copied : FrameHas l.to_areas l.at l.channel (λ c. slice_get l.from (place_of l.from_areas l.first c)) l.to;
  others : FrameOnly l.to_areas l.at l.channel l.initial.to l.to;
}
