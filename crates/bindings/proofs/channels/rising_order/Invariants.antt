use Rattle.bindings.proofs.Places.{IsPlaced}
use Rattle.bindings.proofs.channels.rising_order.Given as goal

abbrev pub invariant-loop-client : goal.invariant-loop-client
invariant-loop-client l = IsPlaced l.list l.order l.client
