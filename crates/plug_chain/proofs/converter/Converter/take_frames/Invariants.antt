use Rattle.plug_chain.specs.Prelude.{length, List, ℤ, ◌≡◌, rest_of, Extends, samples_of, IsCourse, IsRateAt, conversion_of}
use Rattle.plug_chain.proofs.Reached.{HasReached}
use Rattle.plug_chain.proofs.converter.Converter.take_frames.Given as goal

abbrev pub invariant-loop-rest : goal.invariant-loop-rest
invariant-loop-rest l = record {
  course : IsCourse l.self.rates l.self.table.outputs (samples_of l.course.last) l.course.place;
  rest : rest_of (conversion_of l.self) l.rest ≡ rest_of (conversion_of l.self) l.bytes;
  reached : (frames : List (List ℤ)) → IsRateAt l.self.rates l.self.table.outputs frames (samples_of l.fn.course.last) l.fn.course.place
      → HasReached (conversion_of l.self) frames l.bytes l.rest l.course l.fn.out.items l.out.items;
  grows : Extends l.fn.out.items l.out.items;
}

abbrev pub decreases-loop-rest : goal.decreases-loop-rest
decreases-loop-rest l = length l.rest
