use Rattle.std.proofs.Common.{ℕ, ◌<◌, get_or}
use Rattle.dshare.proofs.shares.Shares.can_claim.Given as goal

abbrev pub invariant-loop-client : goal.invariant-loop-client
invariant-loop-client l = (i : ℕ) → i < l.client → get_or l.bindings i 0 < l.self.channels
