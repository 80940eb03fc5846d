-- The next multiple of a period.
use Rattle.std.proofs.Common.{◌≡◌, ℕ, ◌+◌, ◌-◌, ◌*◌, ◌/◌, ◌%◌, ◌<◌, ◌≤◌, ◌==◌, true, false, ap, ◌∙◌, arith, inl, inr}
use Rattle.std.proofs.Math.Nat.{add-mod_right, add-mul-mod_self_left, div-add-mod, mod-lt, mod_self, mul-le-mul_left}
use Rattle.std.proofs.lemmas.Bool.{cases_lt, ne_eqb}
use Rattle.card_player.specs.Plays.{IsDue, is_multiple}

-- from the frame past a frame on
pub IsDue-next : (period frame : ℕ) → 1 ≤ period → IsDue period (frame + 1) (frame + (period - frame % period))
IsDue-next period frame some =
    let is : period * (frame / period) + frame % period ≡ frame = div-add-mod frame period in
    let low : frame % period < period = mod-lt frame some in
    let sum : frame + (period - frame % period) ≡ period + period * (frame / period) = omega (arith, is, low) in
    record {
      least = omega (arith, low);
      near = omega (arith, low);
      multiple = ap (λ (k : ℕ). k % period) sum ∙ (add-mul-mod_self_left period period (frame / period) ∙ mod_self period);
    }

-- it is reached, and the next one is due
pub IsDue-past : (period frame due : ℕ) → 1 ≤ period → IsDue period frame due → frame ≡ due → IsDue period (frame + 1) (due + period)
IsDue-past period frame due some is at = record {
  least = omega (arith, at, some);
  near = omega (arith, at);
  multiple = add-mod_right due period ∙ is.multiple;
}

-- the frame that is due is a multiple, and none before it is one
pub is_multiple-due : (period frame due : ℕ) → IsDue period frame due → frame ≡ due → is_multiple period frame ≡ true
is_multiple-due period frame due is at = ap (λ (k : ℕ). k % period == 0) at ∙ ap (λ (k : ℕ). k == 0) is.multiple

pub is_multiple-before : (period frame due : ℕ) → IsDue period frame due → (frame ≡ due → ⊥) → is_multiple period frame ≡ false
is_multiple-before period frame due is other = ne_eqb (frame % period) 0 (λ (zero : frame % period ≡ 0).
    let from : period * (frame / period) + frame % period ≡ frame = div-add-mod frame period in
    let to : period * (due / period) + due % period ≡ due = div-add-mod due period in
    elim (cases_lt (frame / period) (due / period)) [
      | inl below ↦
          let product : period * (frame / period + 1) ≤ period * (due / period) = mul-le-mul_left period (omega (arith, below)) in
          omega (arith, product, from, to, zero, is.multiple, is.near)
      | inr not_below ↦
          let product : period * (due / period) ≤ period * (frame / period) = mul-le-mul_left period (omega (arith, not_below)) in
          omega (arith, product, from, to, zero, is.multiple, is.least, other)
    ])
