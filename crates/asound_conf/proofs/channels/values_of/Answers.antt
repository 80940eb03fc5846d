use Rattle.asound_conf.specs.Prelude.{ap, arith, length, List, None, refl, Some, sym, take, ℕ, [], ◌<◌, ◌∙◌, ◌∷◌, ◌≡◌, length-set, decimal, option_map}
use Rattle.asound_conf.specs.Prelude.{count_of_names, number_of_node, entries_in, get}
use Rattle.asound_conf.proofs.NumberedValues.{AreFirst-none, AreFirst-kept, AreFirst-more, numbered_values-None}
use Rattle.asound_conf.proofs.channels.values_of.Goals.{then-place-lt9, else-place-lt9}
use Rattle.asound_conf.proofs.channels.values_of.Goals as goal

pub loop-place-init : goal.loop-place-init
loop-place-init c = (AreFirst-none (entries_in c.args.group) (0 ∷ 0 ∷ 0 ∷ 0 ∷ 0 ∷ 0 ∷ 0 ∷ 0 ∷ 0 ∷ []), refl)

pub returns-in_err-value-clause-values : goal.returns-in_err-value-clause-values
returns-in_err-value-clause-values c =
    let g = entries_in c.args.group in
    let none : number_of_node (get (decimal c.loop-place.place) g) ≡ None = ap number_of_node (sym c.get_number.ensures) ∙ sym c.in_err-value.ensures in
    let below : c.loop-place.place < count_of_names g = omega (arith, c.count_of-count.ensures) in
    let nothing = numbered_values-None g c.loop-place.place (count_of_names g) none below in
    ap (option_map (λ (v : List ℕ × ℕ). take v.1 v.0)) c.from_residual.ensures ∙ sym (ap (option_map (λ (list : List ℕ). take 9 list)) nothing)

pub loop-place-preserved : goal.loop-place-preserved
loop-place-preserved c =
    let g = entries_in c.args.group in
    let n = c.loop-place.place in
    let kept = c.loop-place.values in
    let value = c.in_ok-value.value in
    let is : number_of_node (get (decimal n) g) ≡ Some value = ap number_of_node (sym c.get_number.ensures) ∙ sym c.in_ok-value.ensures in
    elim c.if-place-lt9.branch [
      | then-place-lt9 w ↦
          (rw w.values-is (AreFirst-kept g n value kept c.loop-place.invariant.0 is w.if-place-lt9.true c.loop-place.invariant.1), ap length w.values-is ∙ length-set kept n value ∙ c.loop-place.invariant.1)
      | else-place-lt9 w ↦ (rw w.values-is (AreFirst-more g n value kept c.loop-place.invariant.0 is w.if-place-lt9.false), ap length w.values-is ∙ c.loop-place.invariant.1)
    ]
