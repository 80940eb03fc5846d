use Rattle.sum_table.specs.Prelude.{ap, arith, max, subst, ◌+◌, ◌∙◌, Me, Entry, View, joined_marks, Extent, greater, IsKnown}
use Rattle.sum_table.specs.declared.view.Key.{Key}
use Rattle.sum_table.proofs.Cuts.{joins, known_joined, learns_both}
use Rattle.sum_table.proofs.seats.mix.MixSeat.join.Goals as goal

pub join_seat-requires : goal.join_seat-requires
join_seat-requires c =
    let s = c.args.self.now in
    let o = c.args.other in
    (s.same_ring.0, c.requires.0 ∙ s.same_ring.0, o.same_ring.2, omega (arith, s.same_ring.3), joins s.ring.now.key s.seat.id s.seat.me.0 o.seat.id o.seat.me.0)

pub load-self-requires : goal.load-self-requires
load-self-requires c =
    let s = c.args.self.now in
    (c.join_seat.ensures.0 ∙ s.same_ring.0, omega (arith, s.same_ring.3), learns_both _ _ _ s.seat.me.0 c.args.other.seat.me.0 _ _ c.join_seat.ensures.2 (s.known.same_key ∙ s.same_ring.1) s.known.lasts)

pub invariant_of-self : goal.invariant_of-self
invariant_of-self c =
    let s = c.args.self.now in
    let o = c.args.other in
    let both = ap (λ (m : Me Entry View). m.0) c.join_seat.ensures.2 in
    let other_known : IsKnown o.seat.me.0 s.key o.places o.reach.marks o.seen o.reach.last = subst (λ (k : Key). IsKnown o.seat.me.0 k o.places o.reach.marks o.seen o.reach.last) c.requires.1 o.known in
    let known : IsKnown c.load-self.new.seat.me.0 s.key (s.places + o.places) (joined_marks s.reach.marks o.reach.marks o.places) (max s.seen o.seen) (greater s.reach.last o.reach.last) =
    known_joined s.key s.places o.places s.reach.marks o.reach.marks s.seen o.seen s.reach.last o.reach.last s.seat.me.0 o.seat.me.0 s.ring.now.table_id.slots c.load-self.result c.join_seat.new.seat.me c.load-self.new.seat.me s.known other_known both c.load-self.ensures.2 in
    record {
      same_ring = (
        c.load-self.ensures.0 ∙ (c.join_seat.ensures.0 ∙ s.same_ring.0),
        s.same_ring.1,
        ap (λ (m : Me Entry View). m.1) c.load-self.ensures.2.1 ∙ (ap (λ (m : Me Entry View). m.1) c.join_seat.ensures.2 ∙ s.same_ring.2),
        s.same_ring.3,
      );
      known = rw (c.join.ensures, c.max-self.ensures) known;
      one_geometry = ap (λ (x : Extent). x.geometry) c.join.ensures ∙ s.one_geometry;
      lap_start = s.lap_start;
    }
