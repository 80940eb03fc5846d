use Rattle.std.proofs.Common.{◌≡◌, drop}
use Rattle.dshare.specs.Shared.{IsHeldShare, with_value_at}
use Rattle.dshare.proofs.shares.Shares.mark.Given as goal

abbrev pub invariant-loop-client : goal.invariant-loop-client
invariant-loop-client l = record {
  owned : with_value_at l.owned l.self-inside.owned (drop l.client l.bindings) ≡ with_value_at l.owned l.fn.self.owned l.bindings;
  last : l.self-inside.last ≡ l.fn.self.last;
  channels : l.self-inside.channels ≡ l.fn.self.channels;
  held : IsHeldShare (record { channels = l.self-inside.channels; owned = l.self-inside.owned; last = l.self-inside.last });
}
