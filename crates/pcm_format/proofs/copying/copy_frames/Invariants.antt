use Rattle.std.specs.Prelude.{◌+◌, slice_get}
use Rattle.pcm_format.specs.Places.{place_of, ChangesOnly}
use Rattle.pcm_format.proofs.Frames.{RangeHas}
use Rattle.pcm_format.proofs.copying.copy_frames.Given as goal

abbrev pub invariant-loop-i : goal.invariant-loop-i
invariant-loop-i l = record {
  copied : RangeHas l.to_areas l.at l.i (λ i c. slice_get l.from (place_of l.from_areas (l.first + i) c)) l.to;
  others : ChangesOnly l.to_areas l.at l.i l.initial.to l.to;
}
