-- So far the box made a step, and where nothing changed, each rule so far kept it.
use Rattle.hw_space.specs.Prelude.{false, slice_index_or, ℕ, ◌<◌, ◌≡◌, Rule, KeepsBox, IsBoxStep}
use Rattle.hw_space.proofs.settle.round.Given as goal

abbrev pub invariant-loop-rule : goal.invariant-loop-rule
invariant-loop-rule l = record {
  step : IsBoxStep l.fn.ranges l.ranges l.changed;
  kept : l.changed ≡ false → (k : ℕ) (d : Rule) → k < l.rule-index → KeepsBox l.fn.ranges (slice_index_or l.rules k d);
}
