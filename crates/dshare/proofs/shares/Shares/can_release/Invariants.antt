use Rattle.std.proofs.Common.{ℕ, ◌<◌, get_or, IsTrue}
use Rattle.dshare.specs.Shared.{is_owned}
use Rattle.dshare.proofs.shares.Shares.can_release.Given as goal

abbrev pub invariant-loop-client : goal.invariant-loop-client
invariant-loop-client l = record {
  card : (i : ℕ) → i < l.client → get_or l.bindings i 0 < l.self.channels;
  owned : (i : ℕ) → i < l.client → IsTrue (is_owned l.self (get_or l.bindings i 0));
}
