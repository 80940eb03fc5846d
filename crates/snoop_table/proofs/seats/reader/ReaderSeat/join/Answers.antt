use Rattle.snoop_table.specs.Prelude.{ap, arith, max, subst, sym, ◌∙◌, ◌≡◌, Me, Geometry, View, both_of, IsReader}
use Rattle.snoop_table.proofs.Cuts.{joins, known_joined}
use Rattle.snoop_table.proofs.seats.reader.ReaderSeat.join.Goals as goal

pub join_seat-requires : goal.join_seat-requires
join_seat-requires c =
    let s = c.args.self.now in
    let o = c.args.other in
    (s.same_ring.0, c.requires.0 ∙ s.same_ring.0, o.same_ring.2, omega (arith, s.same_ring.3), joins s.ring.now.key s.seat.id s.seat.me.0 o.seat.id o.seat.me.0)

pub invariant_of-self : goal.invariant_of-self
invariant_of-self c =
    let s = c.args.self.now in
    let o = c.args.other in
    let both : c.join_seat.new.seat.me.0 ≡ both_of s.seat.me.0 o.seat.me.0 = ap (λ (m : Me (Unit {0}) View). m.0) c.join_seat.ensures.2 in
    let met : IsReader o.seat.me.0 s.geometry o.seen = subst (λ (g : Geometry). IsReader o.seat.me.0 g o.seen) c.requires.1 o.known in
    record {
      same_ring = (c.join_seat.ensures.0 ∙ s.same_ring.0, s.same_ring.1, ap (λ (m : Me (Unit {0}) View). m.1) c.join_seat.ensures.2 ∙ s.same_ring.2, s.same_ring.3);
      known = subst (λ n. IsReader c.join_seat.new.seat.me.0 s.geometry n) (sym c.max-self.ensures)
          (subst (λ (v : View). IsReader v s.geometry (max s.seen o.seen)) (sym both) (known_joined s.geometry s.seen o.seen s.seat.me.0 o.seat.me.0 s.known met));
      lap_start = s.lap_start;
    }
