use Rattle.std.specs.Prelude.{Some, pos}
use Rattle.pcm_format.proofs.Frames.{FrameHas, FrameOnly}
use Rattle.pcm_format.proofs.silencing.silence_frame.Given as goal

abbrev pub invariant-loop-channel : goal.invariant-loop-channel
invariant-loop-channel l = record {
  silent : FrameHas l.areas l.at l.channel (λ c. Some (pos 0)) l.to;
  others : FrameOnly l.areas l.at l.channel l.initial.to l.to;
}
