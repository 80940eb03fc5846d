-- The high part of a sample, through the casts that it is made by, and bytes of a format.
use Rattle.std.proofs.Common.{◌≡◌, ℕ, ◌+◌, ◌-◌, ◌/◌, ◌<◌, ◌∙◌, List, [], ◌∷◌, length, slice_set, ℤ, pos, negsuc, ◌+ℤ◌, Fits, FitsSigned, refl, sym, ap, subst, arith}
use Rattle.std.proofs.lemmas.Int.{ints, to_z-of_z}
use Rattle.std.proofs.lemmas.Nat.{div_below}
use Rattle.std.specs.Int.{w8, w16}
use mir.Val.{to_z, of_z}
use lib.Dec.{T}
use lib.IntN.{nat_abs}
use lib.Signed.{non_neg, shr_z}
use Rattle.pcm_format.specs.declared.format.Format.{Format}
use Rattle.pcm_format.specs.declared.format.Format.TheVariants.{S8, U8}
use Rattle.pcm_format.specs.Samples.{bytes_of, bytes_of_sample, high_part}

-- a shift rounds down
shr_z-256 : (s : ℤ) → shr_z s 256 ≡ high_part s
shr_z-256 (pos n) = refl
shr_z-256 (negsuc n) = refl

high-below : (n : ℕ) → n < 32768 → n / 256 < 128
high-below n low = div_below n 256 128 (omega arith) (omega (arith, low))

pub FitsSigned-high : (s : ℤ) → FitsSigned w16 s → FitsSigned w8 (high_part s)
FitsSigned-high (pos n) fits = record { sfits = high-below n fits.sfits }
FitsSigned-high (negsuc n) fits = record { sfits = high-below n fits.sfits }

FitsSigned-wide : (z : ℤ) → FitsSigned w8 z → FitsSigned w16 z
FitsSigned-wide (pos n) fits = record { sfits = let low = fits.sfits in omega (arith, low) }
FitsSigned-wide (negsuc n) fits = record { sfits = let low = fits.sfits in omega (arith, low) }

-- a sample that is shifted, through its casts
abbrev pub shifted : ℤ → ℤ
shifted s = to_z w16 (of_z w16 (shr_z (to_z w16 (of_z w16 s)) 256))

pub shifted-is : (s : ℤ) → FitsSigned w16 s → shifted s ≡ high_part s
shifted-is s fits =
    ap (λ (z : ℤ). to_z w16 (of_z w16 (shr_z z 256))) (to_z-of_z w16 s fits) ∙ ap (λ (z : ℤ). to_z w16 (of_z w16 z)) (shr_z-256 s)
    ∙ to_z-of_z w16 (high_part s) (FitsSigned-wide (high_part s) (FitsSigned-high s fits))

pub FitsSigned-shifted : (s : ℤ) → FitsSigned w16 s → FitsSigned w8 (shifted s)
FitsSigned-shifted s fits = subst (λ (z : ℤ). FitsSigned w8 z) (sym (shifted-is s fits)) (FitsSigned-high s fits)

-- and with 128 added to it
pub record IsByte (z : ℤ) : Type 0 where
  pub byte : ℕ
  pub same : z ≡ pos byte
  pub low : byte < 256

above : (z : ℤ) → FitsSigned w8 z → IsByte (z +ℤ pos 128)
above (pos n) fits = let low = fits.sfits in record { byte = n + 128; same = refl; low = omega (arith, low) }
above (negsuc n) fits = let low = fits.sfits in record { byte = 127 - n; same = omega (arith, ints, low); low = omega (arith, low) }

abbrev pub shifted_above : ℤ → ℤ
shifted_above s = to_z w16 (of_z w16 (shifted s +ℤ pos 128))

pub FitsSigned-above : (s : ℤ) → FitsSigned w16 s → FitsSigned w16 (shifted s +ℤ pos 128)
FitsSigned-above s fits = let at = above (shifted s) (FitsSigned-shifted s fits) in
    subst (λ (z : ℤ). FitsSigned w16 z) (sym at.same) (record { sfits = let low = at.low in omega (arith, low) })

shifted_above-is : (s : ℤ) → FitsSigned w16 s → shifted_above s ≡ shifted s +ℤ pos 128
shifted_above-is s fits = to_z-of_z w16 (shifted s +ℤ pos 128) (FitsSigned-above s fits)

byte-cast : (z : ℤ) → IsByte z → T (non_neg z) × Fits w8 (nat_abs z)
byte-cast z at = subst (λ (y : ℤ). T (non_neg y) × Fits w8 (nat_abs y)) (sym at.same) (tt, record { fits = at.low })

byte-same : (z : ℤ) → IsByte z → nat_abs z ≡ of_z w8 z
byte-same z at = ap nat_abs at.same ∙ ap (of_z w8) (sym at.same)

pub shifted_above-cast : (s : ℤ) → FitsSigned w16 s → T (non_neg (shifted_above s)) × Fits w8 (nat_abs (shifted_above s))
shifted_above-cast s fits =
    subst (λ (z : ℤ). T (non_neg z) × Fits w8 (nat_abs z)) (sym (shifted_above-is s fits)) (byte-cast (shifted s +ℤ pos 128) (above (shifted s) (FitsSigned-shifted s fits)))

-- a byte that is set is all of one byte
set-one : (bytes : List ℕ) (v : ℕ) → length bytes ≡ 1 → slice_set bytes 0 v ≡ v ∷ []
set-one [] v one = absurd (omega (arith, one))
set-one (b ∷ []) v one = refl
set-one (b ∷ c ∷ bs) v one = absurd (omega (arith, one))

pub printed-S8 : (format : Format) (bytes : List ℕ) (s : ℤ) (v : ℕ) → format ≡ S8 → length bytes ≡ bytes_of format → FitsSigned w16 s → v ≡ of_z w8 (to_z w8 (of_z w8 (shifted s)))
    → slice_set bytes 0 v ≡ bytes_of_sample format s
printed-S8 format bytes s v is size fits value =
    set-one bytes v (size ∙ ap bytes_of is) ∙ ap (λ (n : ℕ). n ∷ []) (value ∙ ap (of_z w8) (to_z-of_z w8 (shifted s) (FitsSigned-shifted s fits) ∙ shifted-is s fits))
    ∙ ap (λ (f : Format). bytes_of_sample f s) (sym is)

pub printed-U8 : (format : Format) (bytes : List ℕ) (s : ℤ) → format ≡ U8 → length bytes ≡ bytes_of format → FitsSigned w16 s → slice_set bytes 0 (nat_abs (shifted_above s)) ≡ bytes_of_sample format s
printed-U8 format bytes s is size fits =
    set-one bytes (nat_abs (shifted_above s)) (size ∙ ap bytes_of is)
    ∙ ap (λ (n : ℕ). n ∷ []) (ap nat_abs (shifted_above-is s fits) ∙ byte-same (shifted s +ℤ pos 128) (above (shifted s) (FitsSigned-shifted s fits)) ∙ ap (λ (z : ℤ). of_z w8 (z +ℤ pos 128)) (shifted-is s fits))
    ∙ ap (λ (f : Format). bytes_of_sample f s) (sym is)
