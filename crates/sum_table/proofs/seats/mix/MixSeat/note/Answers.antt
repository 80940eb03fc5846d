use Rattle.sum_table.specs.Prelude.{ap, arith, refl, subst, sym, ◌∙◌, Me, Entry, View, part_of, Extent, IsKnown}
use Rattle.sum_table.proofs.Cuts.{known_part, may_note, known_as}
use Rattle.sum_table.proofs.seats.mix.MixSeat.note.Goals as goal

pub split_seat-seat-requires : goal.split_seat-seat-requires
split_seat-seat-requires c =
    let s = c.args.self.now in
    (s.same_ring.0, omega (arith, s.same_ring.3), may_note s.ring.now.key s.seat.id s.seat.me.0 (s.known.same_key ∙ s.same_ring.1))

pub invariant_of-result : goal.invariant_of-result
invariant_of-result c =
    let s = c.args.self.now in
    let me = c.split_seat-seat.ensures.4 in
    record {
      same_ring = (c.split_seat-seat.ensures.3 ∙ s.same_ring.0, s.same_ring.1, ap (λ (m : Me Entry View). m.1) me, s.same_ring.3);
      known = known_as s.key 0 _ s.seen _ _ c.split_seat-seat.result.me me
          (subst (λ (x : Extent). IsKnown (part_of s.seat.me.0 0) s.key 0 x.marks s.seen x.last) (sym c.start.ensures) (known_part s.key s.seat.me.0 0 0 s.seen s.known.same_key s.known.same_seen s.known.noted s.known.seen_within refl (omega arith)));
      one_geometry = ap (λ (x : Extent). x.geometry) c.start.ensures;
      lap_start = s.lap_start;
    }
