use Rattle.lab_check.specs.Prelude.{take, ◌≡◌, option_copied, unlined_runs}
use Rattle.lab_check.specs.Samples as samples
use Rattle.lab_check.proofs.recorded.recorded_runs.Given as goal

abbrev pub invariant-loop-first : goal.invariant-loop-first
invariant-loop-first l = l.samples.items ≡ samples.captured_runs l.card (option_copied l.capture) l.bindings (unlined_runs (take l.first-index l.runs))
