use Rattle.lab_check.specs.Prelude.{take, ◌++◌, ◌≡◌, option_copied, map}
use Rattle.lab_check.specs.Samples as samples
use Rattle.lab_check.proofs.recorded.push_frame.Given as goal

abbrev pub invariant-loop-client : goal.invariant-loop-client
invariant-loop-client l = l.samples.items ≡ l.fn.samples.items ++ map (samples.captured_by l.card (option_copied l.capture) l.frame) (take l.client l.bindings)
