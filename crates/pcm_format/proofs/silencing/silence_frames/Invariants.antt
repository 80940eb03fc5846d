use Rattle.std.specs.Prelude.{Some, pos}
use Rattle.pcm_format.specs.Places.{ChangesOnly}
use Rattle.pcm_format.proofs.Frames.{RangeHas}
use Rattle.pcm_format.proofs.silencing.silence_frames.Given as goal

abbrev pub invariant-loop-i : goal.invariant-loop-i
invariant-loop-i l = record {
  silent : RangeHas l.areas l.at l.i (λ i c. Some (pos 0)) l.to;
  others : ChangesOnly l.areas l.at l.i l.initial.to l.to;
}
