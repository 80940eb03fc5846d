use Rattle.sum_table.specs.Prelude.{ap, arith, inl, subst, sym, ◌-◌, ◌∙◌, Me, Entry, View, part_of, Extent, IsKnown}
use Rattle.sum_table.proofs.Cuts.{known_part, known_without, splits, known_as}
use Rattle.sum_table.proofs.seats.mix.MixSeat.cut.Goals as goal

pub split_seat-seat-requires : goal.split_seat-seat-requires
split_seat-seat-requires g c =
    let s = c.args.self.now in
    let v = s.seat.me.0 in (
      s.same_ring.0,
      omega (arith, s.same_ring.3),
      splits s.ring.now.key s.seat.id v (v.places - g.B.Amount.amount) g.B.Amount.amount (s.known.same_key ∙ s.same_ring.1)
          (omega (arith, c.requires.amount, c.requires.places, s.known.same_places)) (inl c.requires.laid_nothing),
    )

pub invariant_of-self : goal.invariant_of-self
invariant_of-self g c =
    let s = c.args.self.now in
    let me = c.split_seat-seat.ensures.2 in
    record {
      same_ring = (c.split_seat-seat.ensures.0 ∙ s.same_ring.0, s.same_ring.1, ap (λ (m : Me Entry View). m.1) me ∙ s.same_ring.2, s.same_ring.3);
      known = subst (λ (x : Me Entry View). IsKnown x.0 s.key (s.places - c.args.places) s.reach.marks s.seen s.reach.last) (sym me)
          (known_without s.key s.places s.reach.marks s.seen s.reach.last s.seat.me.0 g.B.Amount.amount c.args.places s.known c.requires.amount c.requires.places c.requires.laid_nothing);
      one_geometry = s.one_geometry;
      lap_start = s.lap_start;
    }

pub invariant_of-result : goal.invariant_of-result
invariant_of-result g c =
    let s = c.args.self.now in
    let me = c.split_seat-seat.ensures.4 in
    record {
      same_ring = (c.split_seat-seat.ensures.3 ∙ s.same_ring.0, s.same_ring.1, ap (λ (m : Me Entry View). m.1) me, s.same_ring.3);
      known = known_as s.key c.args.places _ s.seen _ _ c.split_seat-seat.result.me me
          (subst (λ (x : Extent). IsKnown (part_of s.seat.me.0 g.B.Amount.amount) s.key c.args.places x.marks s.seen x.last) (sym c.start.ensures) (known_part s.key s.seat.me.0 g.B.Amount.amount c.args.places s.seen s.known.same_key s.known.same_seen s.known.noted s.known.seen_within c.requires.amount (omega (arith, c.requires.places, s.known.places_most))));
      one_geometry = ap (λ (x : Extent). x.geometry) c.start.ensures;
      lap_start = s.lap_start;
    }
