use Rattle.snoop_core.specs.Prelude.{◌+◌, ◌<◌, to_z-of_z, w16, SFits, lap, RingView, HoldsSample}
use Rattle.snoop_core.specs.contracts.ring.SampleRing.{the_view}
use Rattle.snoop_core.proofs.Storing.{IsSampleStored-stored, IsSoundRing-stored}
use Rattle.snoop_core.proofs.ring.SampleRing.store_sample.Goals as goal

pub invariant_of-self : goal.invariant_of-self
invariant_of-self c =
    let v : RingView = the_view c.self.inside in
    let sample : SFits w16 c.args.sample = c.ranges.sample in
    let fits : lap v.geometry v.next.frame < 4294967295 = rw (← c.self.view_is) at c.requires in
    let holds : HoldsSample c.snoop_word.result (lap v.geometry v.next.frame + 1) c.args.sample = rw c.lap.ensures at (simp to_z-of_z at c.snoop_word.ensures) in
    rw (c.word_index-at.ensures.value, c.behind-self-inside.ensures) (IsSoundRing-stored v c.snoop_word.result c.args.sample c.self.invariant fits holds)

pub returns : goal.returns
returns c =
    let v : RingView = the_view c.self.inside in
    let sample : SFits w16 c.args.sample = c.ranges.sample in
    let fits : lap v.geometry v.next.frame < 4294967295 = rw (← c.self.view_is) at c.requires in
    let holds : HoldsSample c.snoop_word.result (lap v.geometry v.next.frame + 1) c.args.sample = rw c.lap.ensures at (simp to_z-of_z at c.snoop_word.ensures) in
    rw (← c.self.view_is, c.word_index-at.ensures.value, c.behind-self-inside.ensures) (IsSampleStored-stored v c.snoop_word.result c.args.sample c.self.invariant fits holds)
