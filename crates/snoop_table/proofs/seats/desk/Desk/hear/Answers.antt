use Rattle.snoop_table.specs.Prelude.{ap, arith, refl, subst, ◌∙◌, Me, Geometry, View, IsReader}
use Rattle.snoop_table.proofs.Cuts.{joins, has_heard, known_heard, learns_both}
use Rattle.snoop_table.proofs.seats.desk.Desk.hear.Goals as goal

pub join_seat-requires : goal.join_seat-requires
join_seat-requires c =
    let d = c.args.self.now in
    let o = c.args.other in
    (d.same_ring.0, c.requires.0 ∙ d.same_ring.0, o.same_ring.2, omega (arith, d.same_ring.3), joins d.ring.now.key d.seat.id d.seat.me.0 o.seat.id o.seat.me.0)

pub load-requires : goal.load-requires
load-requires c =
    let d = c.args.self.now in
    (c.join_seat.ensures.0 ∙ d.same_ring.0, omega (arith, d.same_ring.3), learns_both _ _ _ d.seat.me.0 c.args.other.seat.me.0 _ _ c.join_seat.ensures.2 (d.known.same_geometry ∙ d.same_ring.1))

pub invariant_of-self : goal.invariant_of-self
invariant_of-self c =
    let d = c.args.self.now in
    let o = c.args.other in
    let both = ap (λ (m : Me (Unit {0}) View). m.0) c.join_seat.ensures.2 in
    let met : IsReader o.seat.me.0 d.geometry o.seen = subst (λ (g : Geometry). IsReader o.seat.me.0 g o.seen) c.requires.1 o.known in
    record {
      same_ring = (
        c.load.ensures.0 ∙ (c.join_seat.ensures.0 ∙ d.same_ring.0),
        d.same_ring.1,
        ap (λ (m : Me (Unit {0}) View). m.1) c.load.ensures.2.0 ∙ (ap (λ (m : Me (Unit {0}) View). m.1) c.join_seat.ensures.2 ∙ d.same_ring.2),
        d.same_ring.3,
      );
      known = known_heard d.geometry d.place.next d.position d.gone o.seen d.seat.me.0 o.seat.me.0 d.ring.now.table_id.slots c.load.result c.join_seat.new.seat.me c.load.new.seat.me d.known met both c.load.ensures.2;
      at_next = d.at_next;
    }

pub returns : goal.returns
returns c =
    let d = c.args.self.now in
    has_heard d _ c.args.other d.ring.now.table_id.slots c.load.result c.join_seat.new.seat.me (c.load.ensures.0 ∙ c.join_seat.ensures.0) refl refl refl refl (ap (λ (m : Me (Unit {0}) View). m.0) c.join_seat.ensures.2) c.load.ensures.2
