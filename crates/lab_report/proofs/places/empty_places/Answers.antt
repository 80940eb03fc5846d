use Rattle.lab_report.specs.Prelude.{ap, arith, List, refl, slice_index_or, subst, sym, ℕ, [], ◌++◌, ◌∙◌, ◌∷◌, ◌≡◌, Request}
use Rattle.lab_report.proofs.Sorting.{none-push}
use Rattle.lab_report.proofs.places.empty_places.Goals as goal

abbrev HaveNone : List (List Request) → Type 0
HaveNone places = (k : ℕ) → slice_index_or places k [] ≡ []

pub loop-place-init : goal.loop-place-init
loop-place-init c = record {
  none = subst (λ (places : List (List Request)). HaveNone places) (sym c.in_ok-places.ensures.items) (λ k. refl);
  count = omega (arith, c.in_ok-places.ensures.len);
}

pub loop-place-preserved : goal.loop-place-preserved
loop-place-preserved c =
    let places = c.loop-place.places.items in
    let more = c.in_ok-push.ensures.items ∙ ap (λ (own : List Request). places ++ own ∷ []) c.new.ensures in
    record {
      none = subst (λ (all : List (List Request)). HaveNone all) (sym more) (none-push places c.loop-place.invariant.none);
      count = omega (arith, c.in_ok-push.ensures.len, c.loop-place.invariant.count);
    }
