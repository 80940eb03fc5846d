use Rattle.snoop_table.specs.Prelude.{ap, arith, refl, ◌∙◌, Me, View}
use Rattle.snoop_table.proofs.Writing.{has_published, known_published, may_publish}
use Rattle.snoop_table.proofs.seats.desk.Desk.publish.Goals as goal

pub store-requires : goal.store-requires
store-requires c =
    let d = c.args.self.now in
    (d.same_ring.0, omega (arith, d.same_ring.3), may_publish d d.ring.now.table_id.slots c.position_word-word.result c.position_word-word.ensures)

pub invariant_of-self : goal.invariant_of-self
invariant_of-self c =
    let d = c.args.self.now in
    record {
      same_ring = (c.store.ensures.0 ∙ d.same_ring.0, d.same_ring.1, ap (λ (x : Me (Unit {0}) View). x.1) c.store.ensures.2.2 ∙ d.same_ring.2, d.same_ring.3);
      known = known_published d.geometry d.place.next d.position d.gone d.ring.now.table_id.slots c.position_word-word.result c.position_word-word.result d.seat.me c.store.new.seat.me d.known c.store.ensures.2;
      at_next = d.at_next;
    }

pub returns : goal.returns
returns c =
    let d = c.args.self.now in
    has_published d _ d.ring.now.table_id.slots c.position_word-word.result c.position_word-word.result c.store.ensures.0 refl refl refl refl c.store.ensures.2
