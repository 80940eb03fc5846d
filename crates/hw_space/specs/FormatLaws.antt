-- Laws of formats and their bits: a smaller mask leaves a smaller interval, and a smaller interval a smaller mask.
use Rattle.std.specs.Prelude.{◌≡◌, ℕ, ◌*◌, ◌<◌, ◌≤◌, Bool, true, false, ◌||◌, IsTrue, refl}
use Rattle.std.proofs.Common.{arith, zero, suc, inl, inr}
use Rattle.std.proofs.lemmas.Bool.Decides.{nat_tests}
use Rattle.std.proofs.Math.Nat.{le_of_mul-le-mul_right, lt_of_mul-lt-mul_right, mul-mod_left}
use Rattle.pcm_interval.specs.declared.interval.Interval.{Interval}
use Rattle.pcm_interval.specs.declared.mask.Mask.{Mask}
use Rattle.pcm_interval.specs.Intervals.{IsIntervalWithin, IsLowerWithin, IsUpperWithin, IsMember}
use Rattle.pcm_interval.specs.Masks.{HasNumber, IsMaskWithin, common_mask}
use Rattle.pcm_interval.specs.MaskLaws.{IsMaskWithin-from_same}
use Rattle.hw_space.specs.Formats.{bits_of_format, contains, includes, bits_among, bits_of_formats, formats_among, formats_of_bits}

-- ---- what a smaller mask leaves

contains-IsMaskWithin : (a b : Mask) (n : ℕ) → IsMaskWithin a b → contains a n ≡ true → contains b n ≡ true
contains-IsMaskWithin a b n h has = let g = h.numbers n in grind (arith, nat_tests)

or-true : (a b c d : Bool) → (a ≡ true → c ≡ true) → (b ≡ true → d ≡ true) → (a || b) ≡ true → (c || d) ≡ true
or-true a b c d h g either = grind arith

lower-bits_among : (e s f t : Bool) → (e ≡ true → f ≡ true) → IsLowerWithin (bits_among e s) (bits_among f t)
lower-bits_among true s true t h = inr (refl, λ x. x)
lower-bits_among true s false t h = let e : false ≡ true = h refl in absurd (cc)
lower-bits_among false s true t h = inl (omega arith)
lower-bits_among false s false t h = inr (refl, λ x. x)

upper-bits_among : (e s f t : Bool) → (s ≡ true → t ≡ true) → IsUpperWithin (bits_among e s) (bits_among f t)
upper-bits_among e true f true h = inr (refl, λ x. x)
upper-bits_among e true f false h = let e : false ≡ true = h refl in absurd (cc)
upper-bits_among e false f true h = inl (omega arith)
upper-bits_among e false f false h = inr (refl, λ x. x)

bits_among-IsIntervalWithin : (e s f t : Bool) → (e ≡ true → f ≡ true) → (s ≡ true → t ≡ true) → IsIntervalWithin (bits_among e s) (bits_among f t)
bits_among-IsIntervalWithin e s f t eight sixteen = record {
  lower = lower-bits_among e s f t eight;
  upper = upper-bits_among e s f t sixteen;
  integer = λ whole. refl;
}

pub bits_of_formats-IsIntervalWithin : (a b : Mask) → IsMaskWithin a b → IsIntervalWithin (bits_of_formats a) (bits_of_formats b)
unfolding bits_of_formats
bits_of_formats-IsIntervalWithin a b h =
    bits_among-IsIntervalWithin (contains a 0 || contains a 1) (contains a 2 || contains a 3) (contains b 0 || contains b 1) (contains b 2 || contains b 3)
    (or-true (contains a 0) (contains a 1) (contains b 0) (contains b 1) (contains-IsMaskWithin a b 0 h) (contains-IsMaskWithin a b 1 h))
    (or-true (contains a 2) (contains a 3) (contains b 2) (contains b 3) (contains-IsMaskWithin a b 2 h) (contains-IsMaskWithin a b 3 h))

pub max-bits_of_formats : (m : Mask) → (bits_of_formats m).max ≤ 16
unfolding bits_of_formats
max-bits_of_formats m = grind (arith, nat_tests)

-- ---- what a smaller interval leaves

pub includes-IsIntervalWithin : (a b : Interval) (n : ℕ) → IsIntervalWithin a b → IsTrue (includes a n) → IsTrue (includes b n)
includes-IsIntervalWithin a b n h has = grind (arith, nat_tests)

formats_among-IsMaskWithin : (e s f t : Bool) → (IsTrue e → IsTrue f) → (IsTrue s → IsTrue t) → IsMaskWithin (formats_among e s) (formats_among f t)
unfolding common_mask
formats_among-IsMaskWithin false false false false h g = IsMaskWithin-from_same (formats_among false false) (formats_among false false) refl
formats_among-IsMaskWithin false false false true h g = IsMaskWithin-from_same (formats_among false false) (formats_among false true) refl
formats_among-IsMaskWithin false false true false h g = IsMaskWithin-from_same (formats_among false false) (formats_among true false) refl
formats_among-IsMaskWithin false false true true h g = IsMaskWithin-from_same (formats_among false false) (formats_among true true) refl
formats_among-IsMaskWithin false true false false h g = let x : false ≡ true = g refl in absurd (cc)
formats_among-IsMaskWithin false true false true h g = IsMaskWithin-from_same (formats_among false true) (formats_among false true) refl
formats_among-IsMaskWithin false true true false h g = let x : false ≡ true = g refl in absurd (cc)
formats_among-IsMaskWithin false true true true h g = IsMaskWithin-from_same (formats_among false true) (formats_among true true) refl
formats_among-IsMaskWithin true false false false h g = let x : false ≡ true = h refl in absurd (cc)
formats_among-IsMaskWithin true false false true h g = let x : false ≡ true = h refl in absurd (cc)
formats_among-IsMaskWithin true false true false h g = IsMaskWithin-from_same (formats_among true false) (formats_among true false) refl
formats_among-IsMaskWithin true false true true h g = IsMaskWithin-from_same (formats_among true false) (formats_among true true) refl
formats_among-IsMaskWithin true true false false h g = let x : false ≡ true = h refl in absurd (cc)
formats_among-IsMaskWithin true true false true h g = let x : false ≡ true = h refl in absurd (cc)
formats_among-IsMaskWithin true true true false h g = let x : false ≡ true = g refl in absurd (cc)
formats_among-IsMaskWithin true true true true h g = IsMaskWithin-from_same (formats_among true true) (formats_among true true) refl

pub formats_of_bits-IsMaskWithin : (a b : Interval) → IsIntervalWithin a b → IsMaskWithin (formats_of_bits a) (formats_of_bits b)
unfolding formats_of_bits
formats_of_bits-IsMaskWithin a b h =
    formats_among-IsMaskWithin (includes a 8) (includes a 16) (includes b 8) (includes b 16)
    (includes-IsIntervalWithin a b 8 h) (includes-IsIntervalWithin a b 16 h)

-- ---- the bits of one format

-- a multiple of 8 or 16 lies among the bits of formats that have so many
bits_among-IsMember_8 : (e s : Bool) (n d : ℕ) → e ≡ true → 0 < d → n ≡ 8 * d → IsMember (bits_among e s) n d
bits_among-IsMember_8 true true n d has positive bits = record {
  positive = positive;
  lower = omega arith;
  above = λ x. absurd (cc);
  upper = omega arith;
  below = λ x. absurd (cc);
  whole = λ x. rw bits (mul-mod_left 8 d);
}
bits_among-IsMember_8 true false n d has positive bits = record {
  positive = positive;
  lower = omega arith;
  above = λ x. absurd (cc);
  upper = omega arith;
  below = λ x. absurd (cc);
  whole = λ x. rw bits (mul-mod_left 8 d);
}
bits_among-IsMember_8 false s n d has positive bits = absurd (cc)

bits_among-IsMember_16 : (e s : Bool) (n d : ℕ) → s ≡ true → 0 < d → n ≡ 16 * d → IsMember (bits_among e s) n d
bits_among-IsMember_16 true true n d has positive bits = record {
  positive = positive;
  lower = omega arith;
  above = λ x. absurd (cc);
  upper = omega arith;
  below = λ x. absurd (cc);
  whole = λ x. rw bits (mul-mod_left 16 d);
}
bits_among-IsMember_16 false true n d has positive bits = record {
  positive = positive;
  lower = omega arith;
  above = λ x. absurd (cc);
  upper = omega arith;
  below = λ x. absurd (cc);
  whole = λ x. rw bits (mul-mod_left 16 d);
}
bits_among-IsMember_16 e false n d has positive bits = absurd (cc)

contains-HasNumber : (m : Mask) (n : ℕ) → HasNumber m n → contains m n ≡ true
contains-HasNumber m n has = grind (arith, nat_tests)

or_left : (a b : Bool) → a ≡ true → (a || b) ≡ true
or_left a b h = grind arith

or_right : (a b : Bool) → b ≡ true → (a || b) ≡ true
or_right a b h = grind arith

pub bits_of_formats-IsMember : (m : Mask) (format n d : ℕ) → HasNumber m format → format < 4 → 0 < d
    → n ≡ bits_of_format format * d → IsMember (bits_of_formats m) n d
unfolding bits_of_formats
bits_of_formats-IsMember m zero n d has known positive bits =
    bits_among-IsMember_8 (contains m 0 || contains m 1) (contains m 2 || contains m 3) n d
    (or_left (contains m 0) (contains m 1) (contains-HasNumber m 0 has)) positive bits
bits_of_formats-IsMember m (suc zero) n d has known positive bits =
    bits_among-IsMember_8 (contains m 0 || contains m 1) (contains m 2 || contains m 3) n d
    (or_right (contains m 0) (contains m 1) (contains-HasNumber m 1 has)) positive bits
bits_of_formats-IsMember m (suc (suc zero)) n d has known positive bits =
    bits_among-IsMember_16 (contains m 0 || contains m 1) (contains m 2 || contains m 3) n d
    (or_left (contains m 2) (contains m 3) (contains-HasNumber m 2 has)) positive bits
bits_of_formats-IsMember m (suc (suc (suc zero))) n d has known positive bits =
    bits_among-IsMember_16 (contains m 0 || contains m 1) (contains m 2 || contains m 3) n d
    (or_right (contains m 2) (contains m 3) (contains-HasNumber m 3 has)) positive bits
bits_of_formats-IsMember m (suc (suc (suc (suc k)))) n d has known positive bits = absurd (omega arith)

-- a whole number that is a member lies between the ends
lower-IsMember : (i : Interval) (k n d : ℕ) → IsMember i n d → n ≡ k * d → i.min ≤ k
lower-IsMember i k n d member whole = let low : i.min * d ≤ k * d = omega (arith, member.lower) in le_of_mul-le-mul_right low member.positive

above-IsMember : (i : Interval) (k n d : ℕ) → IsMember i n d → n ≡ k * d → IsTrue i.openmin → i.min < k
above-IsMember i k n d member whole is_open = let low : i.min * d < k * d = omega (arith, member.above is_open) in lt_of_mul-lt-mul_right d low

upper-IsMember : (i : Interval) (k n d : ℕ) → IsMember i n d → n ≡ k * d → k ≤ i.max
upper-IsMember i k n d member whole = let high : k * d ≤ i.max * d = omega (arith, member.upper) in le_of_mul-le-mul_right high member.positive

below-IsMember : (i : Interval) (k n d : ℕ) → IsMember i n d → n ≡ k * d → IsTrue i.openmax → k < i.max
below-IsMember i k n d member whole is_open = let high : k * d < i.max * d = omega (arith, member.below is_open) in lt_of_mul-lt-mul_right d high

includes-IsMember : (i : Interval) (k n d : ℕ) → IsMember i n d → n ≡ k * d → includes i k ≡ true
includes-IsMember i k n d member whole =
    let low = lower-IsMember i k n d member whole in
    let above = above-IsMember i k n d member whole in
    let high = upper-IsMember i k n d member whole in
    let below = below-IsMember i k n d member whole in
    grind (arith, nat_tests)

formats_among-HasNumber_8 : (e s : Bool) → e ≡ true → HasNumber (formats_among e s) 0 × HasNumber (formats_among e s) 1
formats_among-HasNumber_8 true true has = (refl, refl)
formats_among-HasNumber_8 true false has = (refl, refl)
formats_among-HasNumber_8 false s has = absurd (cc)

formats_among-HasNumber_16 : (e s : Bool) → s ≡ true → HasNumber (formats_among e s) 2 × HasNumber (formats_among e s) 3
formats_among-HasNumber_16 true true has = (refl, refl)
formats_among-HasNumber_16 false true has = (refl, refl)
formats_among-HasNumber_16 e false has = absurd (cc)

pub formats_of_bits-HasNumber : (i : Interval) (format n d : ℕ) → IsMember i n d → format < 4
    → n ≡ bits_of_format format * d → HasNumber (formats_of_bits i) format
unfolding formats_of_bits
formats_of_bits-HasNumber i zero n d member known bits =
    (formats_among-HasNumber_8 (includes i 8) (includes i 16) (includes-IsMember i 8 n d member bits)).0
formats_of_bits-HasNumber i (suc zero) n d member known bits =
    (formats_among-HasNumber_8 (includes i 8) (includes i 16) (includes-IsMember i 8 n d member bits)).1
formats_of_bits-HasNumber i (suc (suc zero)) n d member known bits =
    (formats_among-HasNumber_16 (includes i 8) (includes i 16) (includes-IsMember i 16 n d member bits)).0
formats_of_bits-HasNumber i (suc (suc (suc zero))) n d member known bits =
    (formats_among-HasNumber_16 (includes i 8) (includes i 16) (includes-IsMember i 16 n d member bits)).1
formats_of_bits-HasNumber i (suc (suc (suc (suc k)))) n d member known bits = absurd (omega arith)
