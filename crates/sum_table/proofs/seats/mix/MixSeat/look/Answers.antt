use Rattle.sum_table.specs.Prelude.{ap, refl, subst, sym, ◌∙◌, step, none, index_of, word_load}
use Rattle.sum_table.proofs.Places.{spot_within}
use Rattle.sum_table.proofs.Seated.{has_noted, known_looked, ring_spot_looks, ring_spot_room}
use Rattle.sum_table.proofs.seats.mix.MixSeat.look.Goals as goal

pub load-requires : goal.load-requires
load-requires g c =
    let s = c.args.self.now in (
      sym c.requires.spot.table,
      spot_within s.key.geometry c.args.frame c.args.channel _ c.requires.spot.spot c.requires.channel (ring_spot_room s c.args.frame c.args.channel c.args.ring_spot c.requires.spot),
      ring_spot_looks s c.args.ring_spot c.args.frame c.args.channel c.requires.channel c.requires.spot,
    )

pub invariant_of-self : goal.invariant_of-self
invariant_of-self g c =
    let s = c.args.self.now in
    record {
      same_ring = (c.load.ensures.0 ∙ s.same_ring.0, s.same_ring.1, ap (λ (x : Rattle.atomic_table.specs.Table.Me _ _). x.1) c.load.ensures.2.1.1 ∙ s.same_ring.2, s.same_ring.3);
      known = known_looked s.key s.places s.reach.marks s.seen s.reach.last c.args.ring_spot.ring.now.table_id.slots c.args.ring_spot.spot.index c.load.result s.seat.me c.load.new.seat.me s.known c.load.ensures.2;
      one_geometry = s.one_geometry;
      lap_start = s.lap_start;
    }

pub returns-clause-noted : goal.returns-clause-noted
returns-clause-noted g c =
    let s = c.args.self.now in
    let told : word_load (step c.args.ring_spot.ring.now.table_id.slots (index_of s.key.geometry c.args.frame c.args.channel) 0 0 none) s.seat.me c.load.result c.load.new.seat.me =
    subst (λ i. word_load (step c.args.ring_spot.ring.now.table_id.slots i 0 0 none) s.seat.me c.load.result c.load.new.seat.me) c.requires.spot.spot.index_is c.load.ensures.2 in
    has_noted s _ c.args.frame c.args.channel c.load.result (record { ring = c.load.ensures.0; key = refl; member = refl; places = refl; seen = refl }) refl refl c.requires.channel told.0 told.1
