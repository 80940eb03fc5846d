use Rattle.sum_table.specs.Prelude.{ap, arith, ◌∙◌, Me, Entry, View}
use Rattle.sum_table.proofs.Playing.{known_unplugged, may_unplug}
use Rattle.sum_table.proofs.seats.player.PlayerSeat.unplug.Goals as goal

pub store-requires : goal.store-requires
store-requires c =
    let p = c.args.self.now in
    (p.same_ring.0, omega (arith, p.same_ring.3), may_unplug p p.ring.now.table_id.slots c.position_word-word.result c.position_word-word.ensures)

pub invariant_of-self : goal.invariant_of-self
invariant_of-self c =
    let p = c.args.self.now in
    record {
      same_ring = (c.store.ensures.0 ∙ p.same_ring.0, p.same_ring.1, ap (λ (x : Me Entry View). x.1) c.store.ensures.2.3 ∙ p.same_ring.2, p.same_ring.3);
      known = known_unplugged p.key p.next p.position p.gone p.ring.now.table_id.slots c.position_word-word.result c.position_word-word.result p.seat.me c.store.new.seat.me p.known c.store.ensures.2;
      lap_start = p.lap_start;
    }
