use Rattle.lab_check.specs.Prelude.{length, ℕ, ◌+◌, ◌-◌, flat_map, range_with_len, sample_at, IsSummed}
use Rattle.lab_check.proofs.Summing.{frame_of_segment}
use Rattle.lab_check.proofs.sums.add_segment.Given as goal

abbrev pub invariant-loop-j : goal.invariant-loop-j
invariant-loop-j l = (member : ℕ)
    → IsSummed l.channels l.from
    (flat_map (frame_of_segment member l.bindings (λ j. sample_at l.samples (length l.bindings) (l.segment.source + j)) l.segment.card l.segment.whole l.segment.part)
    (range_with_len l.skipped (l.j - l.skipped)))
    l.fn.sums l.sums
