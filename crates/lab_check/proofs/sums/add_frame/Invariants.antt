use Rattle.lab_check.specs.Prelude.{ℕ, ◌+◌, pos, slice_index_or, frame_entries, IsSummed}
use Rattle.lab_check.proofs.sums.add_frame.Given as goal

abbrev pub invariant-loop-place : goal.invariant-loop-place
invariant-loop-place l = (member from : ℕ)
    → IsSummed l.channels from (frame_entries member l.bindings (λ q. slice_index_or l.samples (l.at + q) (pos 0)) l.place (from + l.row)) l.fn.sums l.sums
