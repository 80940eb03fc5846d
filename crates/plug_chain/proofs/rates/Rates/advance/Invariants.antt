use Rattle.plug_chain.specs.Prelude.{length, List, ℤ, [], ◌++◌, ◌+◌, ◌-◌, ◌∷◌, ◌≡◌, ◌≤◌, Extends, samples_of, IsRateAt, IsUnderway}
use Rattle.plug_chain.proofs.rates.Rates.advance.Given as goal

abbrev pub invariant-loop-course : goal.invariant-loop-course
invariant-loop-course l = record {
  same : l.course.last ≡ l.fn.course.last;
  begun : 1 ≤ l.course.place;
  near : l.course.place ≤ l.self.input + l.self.output;
  underway : (frames : List (List ℤ)) → IsRateAt l.self (length (samples_of l.next)) frames (samples_of l.fn.course.last) l.fn.course.place
      → IsUnderway l.self (frames ++ samples_of l.next ∷ []) (length frames) l.course.place l.fn.out.items l.out.items;
  grows : Extends l.fn.out.items l.out.items;
}

abbrev pub decreases-loop-course : goal.decreases-loop-course
decreases-loop-course l = l.self.output + 1 - l.course.place
