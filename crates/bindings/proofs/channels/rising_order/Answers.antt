use Rattle.std.proofs.Common.{arith, subst, sym, ℕ, ◌+◌, set}
use Rattle.bindings.proofs.Places.{IsPlaced, IsPlaced-all, IsPlaced-more, place-within}
use Rattle.bindings.proofs.channels.rising_order.Goals as goal

pub bounds-order-count_below : goal.bounds-order-count_below
bounds-order-count_below c =
    omega (arith, c.count_below.ensures, place-within c.args.list.now c.loop-client.client c.requires c.loop-client-test.true, c.requires.most)

pub loop-client-preserved : goal.loop-client-preserved
loop-client-preserved c =
    subst (λ (at : ℕ). IsPlaced c.args.list.now (set c.loop-client.order at c.loop-client.client) (c.loop-client.client + 1)) (sym c.count_below.ensures)
    (IsPlaced-more c.args.list.now c.loop-client.order c.loop-client.client c.requires c.loop-client-test.true c.loop-client.invariant)

pub returns : goal.returns
returns c = IsPlaced-all c.args.list.now c.loop-client.order c.loop-client.client c.requires (omega arith) c.loop-client.invariant
