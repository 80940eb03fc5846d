use Rattle.sum_table.specs.Prelude.{ap, arith, refl, subst, sym, ◌∙◌, Me, Entry, View, part_of, Extent, IsKnown}
use Rattle.sum_table.proofs.Cuts.{has_player_note, known_part, may_note, known_as}
use Rattle.sum_table.proofs.seats.player.PlayerSeat.note.Goals as goal

pub split_seat-seat-requires : goal.split_seat-seat-requires
split_seat-seat-requires c =
    let p = c.args.self.now in
    (p.same_ring.0, omega (arith, p.same_ring.3), may_note p.ring.now.key p.seat.id p.seat.me.0 (p.known.same_key ∙ p.same_ring.1))

pub invariant_of-result : goal.invariant_of-result
invariant_of-result c =
    let p = c.args.self.now in
    let me = c.split_seat-seat.ensures.4 in
    record {
      same_ring = (c.split_seat-seat.ensures.3 ∙ p.same_ring.0, p.same_ring.1, ap (λ (m : Me Entry View). m.1) me, p.same_ring.3);
      known = known_as p.key 0 _ p.position _ _ c.split_seat-seat.result.me me
          (subst (λ (x : Extent). IsKnown (part_of p.seat.me.0 0) p.key 0 x.marks p.position x.last) (sym c.start.ensures) (known_part p.key p.seat.me.0 0 0 p.position p.known.same_key p.known.same_seen p.known.noted p.known.position_within refl (omega arith)));
      one_geometry = ap (λ (x : Extent). x.geometry) c.start.ensures;
      lap_start = c.first.ensures;
    }

pub returns : goal.returns
returns c =
    has_player_note c.args.self.now _ _ c.split_seat-seat.ensures.0 refl (ap (λ (m : Me Entry View). m.0) c.split_seat-seat.ensures.2) refl refl refl c.split_seat-seat.ensures.3 refl (ap (λ (m : Me Entry View). m.0) c.split_seat-seat.ensures.4) refl
