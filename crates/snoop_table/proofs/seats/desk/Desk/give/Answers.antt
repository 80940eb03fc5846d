use Rattle.snoop_table.specs.Prelude.{ap, arith, refl, Me, View}
use Rattle.snoop_table.proofs.Cuts.{splits, has_given}
use Rattle.snoop_table.proofs.seats.desk.Desk.give.Goals as goal

pub split_seat-seat-requires : goal.split_seat-seat-requires
split_seat-seat-requires c =
    let d = c.args.self.now in
    (d.same_ring.0, omega (arith, d.same_ring.3), splits d.ring.now.key d.seat.id d.seat.me.0)

pub returns : goal.returns
returns c =
    has_given c.args.self.now _ _ c.split_seat-seat.ensures.0 refl (ap (λ (m : Me (Unit {0}) View). m.0) c.split_seat-seat.ensures.2) refl refl refl c.split_seat-seat.ensures.3 refl (ap (λ (m : Me (Unit {0}) View). m.0) c.split_seat-seat.ensures.4) refl
