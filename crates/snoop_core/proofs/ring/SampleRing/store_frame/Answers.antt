use Rattle.snoop_core.specs.Prelude.{arith, get_or, length, List, pos, rules, subst, sym, take, ℤ, ◌<◌, to_z-of_z, length-take, take_more, w16, SFits}
use Rattle.snoop_core.specs.Prelude.{ArePartStored, IsSampleStored}
use Rattle.snoop_core.proofs.Storing.{ArePartStored-more}
use Rattle.snoop_core.proofs.ring.SampleRing.store_frame.Goals as goal

pub loop-sample-preserved : goal.loop-sample-preserved
loop-sample-preserved c =
    let xs : List ℤ = c.args.frame.now in
    let fits : SFits w16 (get_or xs c.loop-sample.sample-index (pos 0)) = search rules in
    let stored : IsSampleStored c.loop-sample.self c.store_sample.new.self (get_or xs c.loop-sample.sample-index (pos 0)) = simp to_z-of_z at c.store_sample.ensures in
    let few : length (take c.loop-sample.sample-index xs) < c.args.self.now.geometry.channels = omega (arith, c.loop-sample-test.true, length-take c.loop-sample.sample-index xs, c.requires.channels) in
    subst (ArePartStored c.args.self.now c.store_sample.new.self) (sym (take_more xs c.loop-sample.sample-index (pos 0) c.loop-sample-test.true))
    (ArePartStored-more c.args.self.now c.loop-sample.self c.store_sample.new.self (take c.loop-sample.sample-index xs) (get_or xs c.loop-sample.sample-index (pos 0)) few c.loop-sample.invariant stored)
