use Rattle.dmix_c.specs.Prelude.{ap, arith, length, length-append, List, refl, subst, sym, [], ◌∷◌, None, Option, Global, Consumer, MixSeat, OnePlace, AreNone}
use Rattle.dmix_c.proofs.Ringed.{AreNone-more}
use Rattle.dmix_c.proofs.way.no_ways.Goals as goal

abbrev Ways : Type 0
Ways = List (Option (Consumer MixSeat Global OnePlace))

pub loop-place-init : goal.loop-place-init
loop-place-init c = record {
  none = subst (λ (ways : Ways). AreNone ways) (sym c.in_ok-ways.ensures.items) (λ place. refl);
  count = ap length c.in_ok-ways.ensures.items;
}

pub loop-place-preserved : goal.loop-place-preserved
loop-place-preserved c =
    let more = c.in_ok-push.ensures.items in
    record {
      none = subst (λ (ways : Ways). AreNone ways) (sym more) (AreNone-more c.loop-place.ways.items c.loop-place.invariant.none);
      count = omega (arith, ap length more, length-append c.loop-place.ways.items (None ∷ []), c.loop-place.invariant.count);
    }

pub returns-clause-count : goal.returns-clause-count
returns-clause-count c = omega (arith, c.loop-place.invariant.count)
