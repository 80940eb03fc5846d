use Rattle.lab_check.specs.Prelude.{◌++◌, ◌≡◌, flat_map, range_with_len, option_copied, map}
use Rattle.lab_check.specs.Samples as samples
use Rattle.lab_check.proofs.recorded.push_run.Given as goal

abbrev pub invariant-loop-index : goal.invariant-loop-index
invariant-loop-index l = l.samples.items ≡ l.fn.samples.items ++ flat_map (λ frame. map (samples.captured_by l.card (option_copied l.capture) frame) l.bindings) (range_with_len l.first l.index)
