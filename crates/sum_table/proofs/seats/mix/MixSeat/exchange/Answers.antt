use Rattle.sum_table.specs.Prelude.{ap, of_z, refl, Some, subst, sym, to_z, ℤ, ◌<◌, ◌∙◌, ◌≡◌, ◌≢◌, to_z-of_z, Me, w16, Geometry, Entry, marks_with, View}
use Rattle.sum_table.specs.Prelude.{Extent, greater, IsKnown, entry_by}
use Rattle.sum_table.proofs.Places.{spot_within}
use Rattle.sum_table.proofs.Seated.{MayExchange, has_laid, has_lost, known_looked, known_won, lay_facts, lost_notes, may_lay, ring_spot_exchanges, ring_spot_room, room_there, won_lays}
use Rattle.sum_table.proofs.seats.mix.MixSeat.exchange.Goals as goal

pub changed-new-requires : goal.changed-new-requires
changed-new-requires g c =
    let s = c.args.self.now in
    let z : ℤ = to_z w16 (of_z w16 c.args.sample) in
    let may : MayExchange s c.args.kind c.args.frame c.args.channel c.args.old z = may_lay s c.args.kind c.args.frame c.args.channel c.args.old c.args.sample c.ranges.sample c.requires.may c.requires.noted c.requires.of_lap in
    let room = room_there s c.args.kind c.args.frame c.args.channel c.args.old z may in
    record { room = room.count; low = room.low; high = room.high }

pub compare_exchange_with-found-requires : goal.compare_exchange_with-found-requires
compare_exchange_with-found-requires g c =
    let s = c.args.self.now in
    let z : ℤ = to_z w16 (of_z w16 c.args.sample) in
    let may : MayExchange s c.args.kind c.args.frame c.args.channel c.args.old z = may_lay s c.args.kind c.args.frame c.args.channel c.args.old c.args.sample c.ranges.sample c.requires.may c.requires.noted c.requires.of_lap in (
      sym c.requires.spot.table,
      spot_within s.key.geometry c.args.frame c.args.channel _ c.requires.spot.spot (lay_facts s c.args.kind c.args.frame c.args.channel c.args.sample c.requires.may).channel (ring_spot_room s c.args.frame c.args.channel c.args.ring_spot c.requires.spot),
      ring_spot_exchanges s c.args.ring_spot c.args.kind c.args.frame c.args.channel c.args.old c.changed-new.result z c.requires.spot may c.changed-new.ensures,
    )

pub invariant_of-self : goal.invariant_of-self
invariant_of-self g c =
    let s = c.args.self.now in
    let e : Entry = entry_by s c.args.kind c.args.frame c.args.channel (to_z w16 (of_z w16 c.args.sample)) in
    let other : c.compare_exchange_with-found.result ≢ c.args.old = c.if-found-old.true in
    let lost = lost_notes c.args.ring_spot.ring.now.table_id.slots c.args.ring_spot.spot.index c.args.old c.changed-new.result c.compare_exchange_with-found.result e s.seat.me c.compare_exchange_with-found.new.seat.me other c.compare_exchange_with-found.ensures.2 in
    record {
      same_ring = (c.compare_exchange_with-found.ensures.0 ∙ s.same_ring.0, s.same_ring.1, ap (λ (x : Me Entry View). x.1) lost.1.1 ∙ s.same_ring.2, s.same_ring.3);
      known = known_looked s.key s.places s.reach.marks s.seen s.reach.last c.args.ring_spot.ring.now.table_id.slots c.args.ring_spot.spot.index c.compare_exchange_with-found.result s.seat.me c.compare_exchange_with-found.new.seat.me s.known lost;
      one_geometry = s.one_geometry;
      lap_start = s.lap_start;
    }

pub returns-then-found-old-clause-err : goal.returns-then-found-old-clause-err
returns-then-found-old-clause-err g c =
    let s = c.args.self.now in
    let e : Entry = entry_by s c.args.kind c.args.frame c.args.channel (to_z w16 (of_z w16 c.args.sample)) in
    let other : c.compare_exchange_with-found.result ≢ c.args.old = c.if-found-old.true in
    has_lost s _ c.args.ring_spot.ring.now.table_id.slots c.args.ring_spot.spot.index c.args.frame c.args.channel c.args.old c.changed-new.result c.compare_exchange_with-found.result e
    (record { ring = c.compare_exchange_with-found.ensures.0; key = refl; member = refl; places = refl; seen = refl }) refl refl
    (lay_facts s c.args.kind c.args.frame c.args.channel c.args.sample c.requires.may).channel c.requires.noted c.requires.spot.spot.index_is other c.compare_exchange_with-found.ensures.2

pub lay-requires-clause-channel : goal.lay-requires-clause-channel
lay-requires-clause-channel g c =
    subst (λ (x : Geometry). c.args.channel < x.channels) (sym c.args.self.now.one_geometry) (lay_facts c.args.self.now c.args.kind c.args.frame c.args.channel c.args.sample c.requires.may).channel

pub invariant_of-self-2 : goal.invariant_of-self-2
invariant_of-self-2 g c =
    let s = c.args.self.now in
    let z : ℤ = to_z w16 (of_z w16 c.args.sample) in
    let same : c.compare_exchange_with-found.result ≡ c.args.old = c.if-found-old.false in
    let e : Entry = entry_by s c.args.kind c.args.frame c.args.channel z in
    let lays = won_lays c.args.ring_spot.ring.now.table_id.slots c.args.ring_spot.spot.index c.args.old c.changed-new.result c.compare_exchange_with-found.result e s.seat.me c.compare_exchange_with-found.new.seat.me same c.compare_exchange_with-found.ensures.2 in
    let may : MayExchange s c.args.kind c.args.frame c.args.channel c.args.old z = may_lay s c.args.kind c.args.frame c.args.channel c.args.old c.args.sample c.ranges.sample c.requires.may c.requires.noted c.requires.of_lap in
    let known = known_won s.key s.places s.reach.marks s.seen s.reach.last c.args.ring_spot.ring.now.table_id.slots c.args.ring_spot.spot.index c.args.old c.changed-new.result c.compare_exchange_with-found.result e s.seat.me c.compare_exchange_with-found.new.seat.me s.known may.may same c.compare_exchange_with-found.ensures.2 in
    record {
      same_ring = (c.compare_exchange_with-found.ensures.0 ∙ s.same_ring.0, s.same_ring.1, ap (λ (x : Me Entry View). x.1) lays.1 ∙ s.same_ring.2, s.same_ring.3);
      known = subst (λ (x : Extent). IsKnown c.compare_exchange_with-found.new.seat.me.0 s.key s.places x.marks s.seen x.last) (sym c.lay.ensures)
          (subst (λ (x : Geometry). IsKnown c.compare_exchange_with-found.new.seat.me.0 s.key s.places (marks_with c.args.kind x s.reach.marks c.args.frame c.args.channel) s.seen (greater s.reach.last (Some c.args.frame))) (sym s.one_geometry) known);
      one_geometry = ap (λ (x : Extent). x.geometry) c.lay.ensures ∙ s.one_geometry;
      lap_start = s.lap_start;
    }

pub returns-clause-ok : goal.returns-clause-ok
returns-clause-ok g c =
    let s = c.args.self.now in
    let z : ℤ = to_z w16 (of_z w16 c.args.sample) in
    let same : c.compare_exchange_with-found.result ≡ c.args.old = c.if-found-old.false in
    let e : Entry = entry_by s c.args.kind c.args.frame c.args.channel z in
    let lays = won_lays c.args.ring_spot.ring.now.table_id.slots c.args.ring_spot.spot.index c.args.old c.changed-new.result c.compare_exchange_with-found.result e s.seat.me c.compare_exchange_with-found.new.seat.me same c.compare_exchange_with-found.ensures.2 in
    rw (← to_z-of_z w16 c.args.sample c.ranges.sample) (has_laid s _ e
    (record { ring = c.compare_exchange_with-found.ensures.0; key = refl; member = refl; places = refl; seen = refl })
    (ap (λ (x : Extent). x.marks) c.lay.ensures ∙ ap (λ (x : Geometry). marks_with c.args.kind x s.reach.marks c.args.frame c.args.channel) s.one_geometry) (ap (λ (x : Extent). x.last) c.lay.ensures) lays)
