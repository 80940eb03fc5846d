-- Masks: which numbers they have, which lies within which, and what a refinement leaves.
use Rattle.std.specs.Prelude.{◌≡◌, ℕ, ◌%◌, ◌/◌, ◌^◌, bit_and}
use Rattle.pcm_interval.specs.declared.mask.Mask.{Mask}

-- a number is in a mask where the bit of that number is set
abbrev pub HasNumber : Mask → ℕ → Type 0
HasNumber m n = m.bits / 2 ^ n % 2 ≡ 1

-- one mask lies within another where it is a subset
pub record IsMaskWithin (a b : Mask) : Type 0 where
  pub numbers : (n : ℕ) → HasNumber a n → HasNumber b n

-- what two masks have in common
unfoldable pub common_mask : Mask → Mask → Mask
common_mask a b = record { bits = bit_and a.bits b.bits }
