use Rattle.lab_check.specs.Prelude.{length, List, ℕ, ◌++◌, ◌≡◌, range_with_len, map, pos, replicate, Entry, mixed_at, IsSummed, TotalsFit}
use Rattle.lab_check.proofs.played.push_saturated.Given as goal

abbrev pub invariant-loop-sum : goal.invariant-loop-sum
invariant-loop-sum l = (channels from : ℕ) (es : List Entry) → TotalsFit es → IsSummed channels from es (replicate (length l.sums) (pos 0)) l.sums
    → l.played.items ≡ l.fn.played.items ++ map (mixed_at channels from es) (range_with_len 0 l.sum-index)
