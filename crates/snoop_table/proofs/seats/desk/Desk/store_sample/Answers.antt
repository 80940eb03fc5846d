use Rattle.snoop_table.specs.Prelude.{ap, arith, refl, subst, sym, ◌+◌, ◌∙◌, to_z-of_z, Me, w16, SFits, Cursor, lap, HoldsSample, index_of-lt, View, IsWriter}
use Rattle.snoop_table.proofs.Writing.{has_stored, known_stored, may_store}
use Rattle.snoop_table.proofs.seats.desk.Desk.store_sample.Goals as goal

pub store-requires : goal.store-requires
store-requires c =
    let d = c.args.self.now in
    let sample : SFits w16 c.args.sample = c.ranges.sample in
    let word : HoldsSample c.snoop_word-word.result d.place.laps c.args.sample = simp to_z-of_z at c.snoop_word-word.ensures in
    let holds : HoldsSample c.snoop_word-word.result (lap d.geometry d.place.next.frame + 1) c.args.sample = subst (λ l. HoldsSample c.snoop_word-word.result l c.args.sample) d.at_next.laps_is word in
    (d.same_ring.0, omega (arith, d.same_ring.3, d.at_next.index_is, index_of-lt d.geometry d.place.next.frame d.place.next.channel d.known.next_channel), may_store d d.ring.now.table_id.slots c.snoop_word-word.result c.args.sample c.requires holds)

pub invariant_of-self : goal.invariant_of-self
invariant_of-self c =
    let d = c.args.self.now in
    record {
      same_ring = (c.store.ensures.0 ∙ d.same_ring.0, d.same_ring.1, ap (λ (x : Me (Unit {0}) View). x.1) c.store.ensures.2.2 ∙ d.same_ring.2, d.same_ring.3);
      known = subst (λ (y : Cursor). IsWriter c.store.new.seat.me.0 d.geometry y d.position d.gone) (sym c.behind-behind.ensures.next)
          (known_stored d.geometry d.place.next d.position d.gone d.ring.now.table_id.slots d.place.index c.snoop_word-word.result c.snoop_word-word.result d.seat.me c.store.new.seat.me d.known c.requires c.store.ensures.2);
      at_next = c.behind-behind.ensures.place;
    }

pub returns : goal.returns
returns c =
    let d = c.args.self.now in
    let sample : SFits w16 c.args.sample = c.ranges.sample in
    let word : HoldsSample c.snoop_word-word.result d.place.laps c.args.sample = simp to_z-of_z at c.snoop_word-word.ensures in
    let holds : HoldsSample c.snoop_word-word.result (lap d.geometry d.place.next.frame + 1) c.args.sample = subst (λ l. HoldsSample c.snoop_word-word.result l c.args.sample) d.at_next.laps_is word in
    has_stored d _ d.ring.now.table_id.slots d.place.index c.snoop_word-word.result c.snoop_word-word.result c.args.sample c.store.ensures.0 refl c.behind-behind.ensures.next refl refl holds c.store.ensures.2
