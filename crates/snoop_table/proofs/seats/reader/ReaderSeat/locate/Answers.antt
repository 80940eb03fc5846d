use Rattle.snoop_table.specs.Prelude.{ap, arith, refl, subst, sym, ◌∙◌, Me, View, IsReader}
use Rattle.snoop_table.proofs.Keeps.{locates}
use Rattle.snoop_table.proofs.Reading.{has_located, known_located}
use Rattle.snoop_table.proofs.seats.reader.ReaderSeat.locate.Goals as goal

pub load-word-requires : goal.load-word-requires
load-word-requires c =
    let s = c.args.self.now in
    (s.same_ring.0, omega (arith, s.same_ring.3), rw (← s.same_ring.1, ← s.known.same_geometry) (locates _ s.seat.id s.seat.me))

pub invariant_of-self : goal.invariant_of-self
invariant_of-self c =
    let s = c.args.self.now in
    record {
      same_ring = (c.load-word.ensures.0 ∙ s.same_ring.0, s.same_ring.1, ap (λ (x : Me (Unit {0}) View). x.1) c.load-word.ensures.2.2 ∙ s.same_ring.2, s.same_ring.3);
      known = subst (λ p. IsReader c.load-word.new.seat.me.0 s.geometry p) (sym c.position_of.ensures)
          (known_located s.geometry s.seen s.ring.now.table_id.slots c.load-word.result s.seat.me c.load-word.new.seat.me s.known c.load-word.ensures.2);
      lap_start = s.lap_start;
    }

pub returns : goal.returns
returns c =
    let s = c.args.self.now in
    has_located s _ s.ring.now.table_id.slots c.load-word.result _ c.load-word.ensures.0 refl refl c.position_of.ensures c.gone_of.ensures c.load-word.ensures.2
