use Rattle.std.proofs.Common.{◌≡◌, drop}
use Rattle.std.specs.List.{list_any}
use Rattle.dshare.specs.Shared.{is_owned}
use Rattle.dshare.proofs.shares.Shares.any_owned.Given as goal

abbrev pub invariant-loop-client : goal.invariant-loop-client
invariant-loop-client l = list_any (is_owned l.self) (drop l.client l.bindings) ≡ list_any (is_owned l.self) l.bindings
