-- The pointers lie as far apart as the counts that they represent.
use Rattle.ring_pointers.proofs.Distances.{distance-counts_alone}
use Rattle.ring_pointers.proofs.pointers.Pointers.avail_capture.Goals as goal

pub returns-clause-counts : goal.returns-clause-counts
returns-clause-counts c =
    rw (← c.self.view_is)
    (λ hw appl s near ahead.
    distance-counts_alone _ hw appl _ _ _ c.self.invariant.boundary_least near ahead s.hw_wraps s.appl_wraps c.frames_between.ensures)
