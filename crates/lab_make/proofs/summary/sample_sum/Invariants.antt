-- The sum of the samples so far, and limits for it.
use Rattle.std.proofs.Common.{◌≡◌, ◌*◌, take, pos, ◌+ℤ◌, neg_ℤ, ◌≤ℤ◌, fold}
use Rattle.lab_make.proofs.summary.sample_sum.Given as goal

abbrev pub invariant-loop-sample : goal.invariant-loop-sample
invariant-loop-sample l =
    (l.sum ≡ fold ◌+ℤ◌ (pos 0) (take l.sample-index l.samples)) × (neg_ℤ (pos (32768 * l.sample-index)) ≤ℤ l.sum) × (l.sum ≤ℤ pos (32768 * l.sample-index))
