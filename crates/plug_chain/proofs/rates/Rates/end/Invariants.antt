use Rattle.plug_chain.specs.Prelude.{length, List, ℤ, ◌+◌, ◌-◌, ◌<◌, Extends, samples_of, IsRateAt, IsUnderway}
use Rattle.plug_chain.proofs.rates.Rates.end.Given as goal

abbrev pub invariant-loop-place : goal.invariant-loop-place
invariant-loop-place l = record {
  near : l.place < l.self.input + l.self.output;
  underway : (frames : List (List ℤ)) → IsRateAt l.self (length (samples_of l.course.last)) frames (samples_of l.course.last) l.course.place
      → IsUnderway l.self frames (length frames) l.place l.fn.out.items l.out.items;
  grows : Extends l.fn.out.items l.out.items;
}

abbrev pub decreases-loop-place : goal.decreases-loop-place
decreases-loop-place l = l.self.output - l.place
