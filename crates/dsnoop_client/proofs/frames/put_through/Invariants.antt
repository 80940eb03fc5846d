use Rattle.dsnoop_client.specs.Prelude.{pos, ℕ, ◌<◌, ◌≡◌, slice_index, slice_index_or}
use Rattle.dsnoop_client.proofs.frames.put_through.Given as goal

abbrev pub invariant-loop-client : goal.invariant-loop-client
invariant-loop-client l = (k : ℕ) → k < l.client → slice_index_or l.part k (pos 0) ≡ slice_index_or l.frame (slice_index l.bindings k) (pos 0)
