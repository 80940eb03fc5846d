use Rattle.sum_table.specs.Prelude.{ap, arith, refl, subst, ◌∙◌, Me, Entry, View, IsKnown}
use Rattle.sum_table.specs.declared.view.Key.{Key}
use Rattle.sum_table.proofs.Cuts.{joins, has_heard, known_heard, learns_both}
use Rattle.sum_table.proofs.seats.player.PlayerSeat.meet.Goals as goal

pub join_seat-requires : goal.join_seat-requires
join_seat-requires c =
    let p = c.args.self.now in
    let o = c.args.note.seat in
    (p.same_ring.0, c.requires.0 ∙ p.same_ring.0, o.same_ring.2, omega (arith, p.same_ring.3), joins p.ring.now.key p.seat.id p.seat.me.0 o.seat.id o.seat.me.0)

pub load-requires : goal.load-requires
load-requires c =
    let p = c.args.self.now in
    (c.join_seat.ensures.0 ∙ p.same_ring.0, omega (arith, p.same_ring.3), learns_both _ _ _ p.seat.me.0 c.args.note.seat.seat.me.0 _ _ c.join_seat.ensures.2 (p.known.same_key ∙ p.same_ring.1) p.known.lasts)

pub invariant_of-self : goal.invariant_of-self
invariant_of-self c =
    let p = c.args.self.now in
    let n = c.args.note in
    let o = n.seat in
    let both = ap (λ (m : Me Entry View). m.0) c.join_seat.ensures.2 in
    let met : IsKnown o.seat.me.0 p.key o.places o.reach.marks o.seen o.reach.last = subst (λ (k : Key). IsKnown o.seat.me.0 k o.places o.reach.marks o.seen o.reach.last) c.requires.1 o.known in
    record {
      same_ring = (
        c.load.ensures.0 ∙ (c.join_seat.ensures.0 ∙ p.same_ring.0),
        p.same_ring.1,
        ap (λ (m : Me Entry View). m.1) c.load.ensures.2.1 ∙ (ap (λ (m : Me Entry View). m.1) c.join_seat.ensures.2 ∙ p.same_ring.2),
        p.same_ring.3,
      );
      known = known_heard p.key p.next p.position p.gone o.places o.reach.marks o.seen o.reach.last p.seat.me.0 o.seat.me.0 p.ring.now.table_id.slots c.load.result c.join_seat.new.seat.me c.load.new.seat.me p.known met n.no_places n.laid_nothing both c.load.ensures.2;
      lap_start = p.lap_start;
    }

pub returns : goal.returns
returns c =
    let p = c.args.self.now in
    has_heard p _ c.args.note p.ring.now.table_id.slots c.load.result c.join_seat.new.seat.me (c.load.ensures.0 ∙ c.join_seat.ensures.0) refl refl refl refl (ap (λ (m : Me Entry View). m.0) c.join_seat.ensures.2) c.load.ensures.2
