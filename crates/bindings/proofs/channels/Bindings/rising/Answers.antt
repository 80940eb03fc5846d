use Rattle.std.proofs.Common.{◌<◌, length, subst, sym, arith}
use Rattle.bindings.specs.Bound.{AreBindings, rising}
use Rattle.bindings.specs.RisingLaws.{length-rising, rising-within}
use Rattle.bindings.proofs.Places.{slice_index-padded}
use Rattle.bindings.proofs.channels.Bindings.rising.Goals as goal

pub returns-clause-value : goal.returns-clause-value
returns-clause-value c =
    let list = c.args.self.now in
    let bound : AreBindings list = subst AreBindings c.self.view_is c.self.invariant.bound in
    rw c.self.invariant.order_is (rw c.self.view_is (slice_index-padded (rising list) c.args.place (omega (arith, c.requires, length-rising list bound))))

pub returns-clause-within : goal.returns-clause-within
returns-clause-within c =
    let list = c.args.self.now in
    let bound : AreBindings list = subst AreBindings c.self.view_is c.self.invariant.bound in
    rw c.self.invariant.order_is (rw c.self.view_is (subst (λ n. n < length list) (sym (slice_index-padded (rising list) c.args.place (omega (arith, c.requires, length-rising list bound)))) (rising-within list c.args.place bound c.requires)))
