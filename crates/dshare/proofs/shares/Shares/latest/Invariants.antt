use Rattle.std.proofs.Common.{◌≡◌, drop}
use Rattle.dshare.specs.Owners.{later}
use Rattle.dshare.specs.Shared.{latest_of}
use Rattle.dshare.proofs.shares.Shares.latest.Given as goal

abbrev pub invariant-loop-client : goal.invariant-loop-client
invariant-loop-client l = later l.latest (latest_of l.self (drop l.client l.bindings)) ≡ latest_of l.self l.bindings
