use Rattle.std.proofs.Common.{◌≡◌, drop}
use Rattle.dshare.specs.Shared.{IsHeldShare, with_later_at}
use Rattle.dshare.proofs.shares.Shares.raise.Given as goal

abbrev pub invariant-loop-client : goal.invariant-loop-client
invariant-loop-client l = record {
  last : with_later_at l.frame l.self-inside.last (drop l.client l.bindings) ≡ with_later_at l.frame l.fn.self.last l.bindings;
  owned : l.self-inside.owned ≡ l.fn.self.owned;
  channels : l.self-inside.channels ≡ l.fn.self.channels;
  held : IsHeldShare (record { channels = l.self-inside.channels; owned = l.self-inside.owned; last = l.self-inside.last });
}
