use Rattle.sum_table.specs.Prelude.{arith, refl, subst, sym, ◌∙◌, IsKnown}
use Rattle.sum_table.proofs.Keeps.{locates}
use Rattle.sum_table.proofs.Seated.{has_located, known_located}
use Rattle.sum_table.proofs.seats.mix.MixSeat.locate.Goals as goal

pub load-word-requires : goal.load-word-requires
load-word-requires c =
    let s = c.args.self.now in (
      s.same_ring.0,
      omega (arith, s.same_ring.3),
      rw (← (s.known.same_key ∙ s.same_ring.1)) (locates _ s.seat.id s.seat.me s.known.lasts),
    )

pub invariant_of-self : goal.invariant_of-self
invariant_of-self c =
    let s = c.args.self.now in
    record {
      same_ring = search;
      known = subst (λ p. IsKnown c.load-word.new.seat.me.0 s.key s.places s.reach.marks p s.reach.last) (sym c.position_of.ensures)
          (known_located s.key s.places s.reach.marks s.seen s.reach.last s.ring.now.table_id.slots c.load-word.result s.seat.me c.load-word.new.seat.me s.known c.load-word.ensures.2);
      one_geometry = s.one_geometry;
      lap_start = s.lap_start;
    }

pub returns : goal.returns
returns c =
    let s = c.args.self.now in
    has_located s _ s.ring.now.table_id.slots c.load-word.result _ c.load-word.ensures.0 refl refl refl refl refl refl c.position_of.ensures c.gone_of.ensures c.load-word.ensures.2
