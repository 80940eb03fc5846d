-- Laws of masks: within is an order, and a refinement leaves the greatest mask within both.
use Rattle.std.specs.Prelude.{◌≡◌, ◌≢◌, ℕ, zero, suc, ◌/◌, ◌%◌, ◌<◌, ◌≤◌, min}
use Rattle.std.specs.Int.{bit_at}
use Rattle.std.proofs.Common.{arith, ap, sym, subst, inl, inr, ◌∙◌}
use Rattle.std.proofs.lemmas.Bool.{cases_eq, cases_lt}
use Rattle.std.proofs.lemmas.Nat.{and_le_l}
use Rattle.std.proofs.lemmas.Nat.Bits.{bit_at_and, bit_at-lt, bit_at-suc, bit_at-zero, bit_at_lowest, same_from_bits}
use Rattle.pcm_interval.specs.declared.mask.Mask.{Mask}
use Rattle.pcm_interval.specs.Masks.{HasNumber, IsMaskWithin, common_mask}

pub IsMaskWithin-refl : (a : Mask) → IsMaskWithin a a
IsMaskWithin-refl a = record { numbers = λ n h. h }

pub IsMaskWithin-trans : (a b c : Mask) → IsMaskWithin a b → IsMaskWithin b c → IsMaskWithin a c
IsMaskWithin-trans a b c h g = record { numbers = λ n has. g.numbers n (h.numbers n has) }

-- a number is set in both exactly where it is set in what they have in common
min-one : (x y : ℕ) → x < 2 → y < 2 → min x y ≡ 1 → (x ≡ 1) × (y ≡ 1)
min-one x y x_bit y_bit h = (omega arith, omega arith)

same_bit : (x y : ℕ) → x < 2 → y < 2 → (x ≡ 1 → y ≡ 1) → (y ≡ 1 → x ≡ 1) → x ≡ y
same_bit x y x_bit y_bit h g =
    elim (cases_eq x 1) [
      | inl set ↦ omega (arith, h set)
      | inr clear ↦ elim (cases_eq y 1) [
        | inl set ↦ omega (arith, g set)
        | inr too ↦ omega arith
      ]
    ]

same_masks : (a b : Mask) → a.bits ≡ b.bits → a ≡ b
same_masks a b e = ap (λ (v : ℕ). record a { bits = v }) e

pub IsMaskWithin-antisym : (a b : Mask) → IsMaskWithin a b → IsMaskWithin b a → a ≡ b
IsMaskWithin-antisym a b h g = same_masks a b (same_from_bits a.bits b.bits
    (λ n. same_bit (bit_at a.bits n) (bit_at b.bits n) (bit_at-lt a.bits n) (bit_at-lt b.bits n) (h.numbers n) (g.numbers n)))

-- what two masks have in common has exactly the numbers that both have
pub common_mask-HasNumber_left : (a b : Mask) (n : ℕ) → HasNumber (common_mask a b) n → HasNumber a n
unfolding common_mask
common_mask-HasNumber_left a b n h =
    (min-one (bit_at a.bits n) (bit_at b.bits n) (bit_at-lt a.bits n) (bit_at-lt b.bits n) (sym (bit_at_and a.bits b.bits n) ∙ h)).0

pub common_mask-HasNumber_right : (a b : Mask) (n : ℕ) → HasNumber (common_mask a b) n → HasNumber b n
unfolding common_mask
common_mask-HasNumber_right a b n h =
    (min-one (bit_at a.bits n) (bit_at b.bits n) (bit_at-lt a.bits n) (bit_at-lt b.bits n) (sym (bit_at_and a.bits b.bits n) ∙ h)).1

pub common_mask-HasNumber : (a b : Mask) (n : ℕ) → HasNumber a n → HasNumber b n → HasNumber (common_mask a b) n
unfolding common_mask
common_mask-HasNumber a b n in_a in_b = omega (arith, bit_at_and a.bits b.bits n, in_a, in_b)

-- it lies within both
pub common_mask-IsMaskWithin_left : (a b : Mask) → IsMaskWithin (common_mask a b) a
common_mask-IsMaskWithin_left a b = record { numbers = common_mask-HasNumber_left a b }

pub common_mask-IsMaskWithin_right : (a b : Mask) → IsMaskWithin (common_mask a b) b
common_mask-IsMaskWithin_right a b = record { numbers = common_mask-HasNumber_right a b }

-- and every mask that lies within both lies within it
pub common_mask-greatest : (s a b : Mask) → IsMaskWithin s a → IsMaskWithin s b → IsMaskWithin s (common_mask a b)
common_mask-greatest s a b in_a in_b = record { numbers = λ n h. common_mask-HasNumber a b n (in_a.numbers n h) (in_b.numbers n h) }

-- a refinement changes nothing exactly where a mask lies within the other
pub common_mask-same : (s x : Mask) → IsMaskWithin s x → common_mask s x ≡ s
common_mask-same s x within = IsMaskWithin-antisym (common_mask s x) s (common_mask-IsMaskWithin_left s x) (common_mask-greatest s s x (IsMaskWithin-refl s) within)

pub IsMaskWithin-from_same : (s x : Mask) → common_mask s x ≡ s → IsMaskWithin s x
IsMaskWithin-from_same s x same = subst (λ (m : Mask). IsMaskWithin m x) same (common_mask-IsMaskWithin_right s x)

-- a number that is not 0 has a bit: its lowest is 1, or one of its half
has_bit : (fuel v : ℕ) → v ≤ fuel → 0 < v → (n : ℕ) × (bit_at v n ≡ 1)
has_bit zero v low positive = absurd (omega arith)
has_bit (suc fuel) v low positive =
    elim (cases_eq (v % 2) 1) [
      | inl odd ↦ (0, bit_at_lowest v ∙ odd)
      | inr even ↦
          let half = has_bit fuel (v / 2) (omega arith) (omega arith) in
          (suc half.0, bit_at-suc v half.0 ∙ half.1)
    ]

-- a mask that is not 0 has a number, and one that has a number is not 0
pub has_number : (m : Mask) → m.bits ≢ 0 → (n : ℕ) × HasNumber m n
has_number m filled = has_bit m.bits m.bits (omega arith) (omega arith)

pub HasNumber-bits : (m : Mask) (n : ℕ) → HasNumber m n → m.bits ≢ 0
HasNumber-bits m n h = λ none. absurd (omega (arith, sym (ap (λ (v : ℕ). bit_at v n) none) ∙ h, bit_at-zero n))

-- so what holds a mask that is not 0 is not 0
pub IsMaskWithin-bits : (a b : Mask) → IsMaskWithin a b → a.bits ≢ 0 → b.bits ≢ 0
IsMaskWithin-bits a b within filled = let some = has_number a filled in HasNumber-bits b some.0 (within.numbers some.0 some.1)

-- a change makes the number of the bits smaller
pub bits-common_mask : (a b : Mask) → common_mask a b ≢ a → (common_mask a b).bits < a.bits
unfolding common_mask
bits-common_mask a b changed =
    elim (cases_lt (common_mask a b).bits a.bits) [
      | inl less ↦ less
      | inr same ↦ absurd (changed (same_masks (common_mask a b) a (omega (arith, and_le_l a.bits b.bits))))
    ]
