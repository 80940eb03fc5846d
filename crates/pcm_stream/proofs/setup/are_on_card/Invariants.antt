use Rattle.std.proofs.Common.{ℕ, ◌<◌}
use Rattle.std.specs.Prelude.{slice_index}
use Rattle.pcm_stream.proofs.setup.are_on_card.Given as goal

abbrev pub invariant-loop-client : goal.invariant-loop-client
invariant-loop-client l = (k : ℕ) → k < l.client → slice_index l.bindings k < l.channels
