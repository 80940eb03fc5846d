-- Numbers on a line between two samples, and frames on it.
use Rattle.plug_chain.specs.Prelude.{ap, append_assoc, arith, drop, FitsSigned, get_or, length, List, negsuc, pos, refl, subst, suc, sym, zero, ℕ, ℤ, [], ◌*◌}
use Rattle.plug_chain.specs.Prelude.{◌++◌, ◌+◌, ◌-◌, ◌/◌, ◌<◌, ◌∙◌, ◌∷◌, ◌≡◌, ◌≤◌, mul-le-mul, mul-le-mul_left, drop-cons, nat_tests, ints, to_z-of_z}
use Rattle.plug_chain.specs.Prelude.{div_below, div_ceil, int_div_euclid, w16, w64, unsigned_abs, ◌*ℤ◌, ◌+ℤ◌, ◌-ℤ◌, ◌<ℤ◌, ◌≤ℤ◌, to_z, frame_between, IsRise}
use Rattle.plug_chain.specs.Prelude.{on_line}
use lib.IntN.{neg_ℤ}

-- a part of a number is at most the number
part_of-le : (n part parts : ℕ) → 1 ≤ parts → part ≤ parts → n * part / parts ≤ n
part_of-le n part parts some within = grind (arith, nat_tests)

-- nothing divided
div_euclid-zero : (parts : ℕ) → 1 ≤ parts → int_div_euclid (pos 0) (pos parts) ≡ pos 0
div_euclid-zero parts some = let none : 0 / parts < 1 = div_below 0 parts 1 some (omega arith) in ap pos (let e : 0 / parts ≡ 0 = omega arith in e)

-- a negative number divided, rounded down
div_euclid-negative : (n k parts : ℕ) → n ≡ suc k → int_div_euclid (neg_ℤ (pos n)) (pos parts) ≡ negsuc (k / parts)
div_euclid-negative n k parts is = ap (λ (m : ℕ). int_div_euclid (neg_ℤ (pos m)) (pos parts)) is

mul-zero : (z : ℤ) → z *ℤ pos 0 ≡ pos 0
mul-zero (pos n) = ap pos (let e : n * 0 ≡ 0 = omega arith in e)
mul-zero (negsuc n) = ap (λ (m : ℕ). neg_ℤ (pos m)) (let e : suc n * 0 ≡ 0 = omega arith in e)

-- a part of a rise lies between 0 and the rise
pub record IsPartOf (rise part : ℤ) : Type 0 where
  pub up_low : pos 0 ≤ℤ rise → pos 0 ≤ℤ part
  pub up_high : pos 0 ≤ℤ rise → part ≤ℤ rise
  pub down_low : rise ≤ℤ pos 0 → rise ≤ℤ part
  pub down_high : rise ≤ℤ pos 0 → part ≤ℤ pos 0

IsPartOf-is : (rise v w : ℤ) → v ≡ w → IsPartOf rise w → IsPartOf rise v
IsPartOf-is rise v w same part = subst (λ z. IsPartOf rise z) (sym same) part

IsPartOf-none : (n : ℕ) → IsPartOf (negsuc n) (pos 0)
IsPartOf-none n = record { up_low = λ up. omega (arith, ints); up_high = λ up. absurd (omega (arith, ints)); down_low = λ down. omega (arith, ints); down_high = λ down. omega (arith, ints) }

IsPartOf-negative : (n q : ℕ) → q ≤ n → IsPartOf (negsuc n) (negsuc q)
IsPartOf-negative n q below = record { up_low = λ up. absurd (omega (arith, ints)); up_high = λ up. absurd (omega (arith, ints)); down_low = λ down. omega (arith, ints); down_high = λ down. omega (arith, ints) }

IsPartOf-positive : (n q : ℕ) → q ≤ n → IsPartOf (pos n) (pos q)
IsPartOf-positive n q below = record { up_low = λ up. omega (arith, ints); up_high = λ up. omega (arith, ints); down_low = λ down. omega (arith, ints); down_high = λ down. omega (arith, ints) }

pub IsPartOf-div_euclid : (rise : ℤ) (part parts : ℕ) → 1 ≤ parts → part ≤ parts → IsPartOf rise (int_div_euclid (rise *ℤ pos part) (pos parts))
IsPartOf-div_euclid (pos n) part parts some within = IsPartOf-positive n (n * part / parts) (part_of-le n part parts some within)
IsPartOf-div_euclid (negsuc n) zero parts some within =
    IsPartOf-is (negsuc n) (int_div_euclid (negsuc n *ℤ pos 0) (pos parts)) (pos 0) (ap (λ z. int_div_euclid z (pos parts)) (mul-zero (negsuc n)) ∙ div_euclid-zero parts some) (IsPartOf-none n)
IsPartOf-div_euclid (negsuc n) (suc p) parts some within =
    let k : ℕ = suc n * suc p - 1 in
    let whole : suc n * suc p ≡ suc (suc n * suc p - 1) = omega arith in
    let h : suc n * suc p ≤ suc n * parts = mul-le-mul_left (suc n) within in
    let low : suc n * suc p - 1 < suc n * parts = omega (arith, h) in
    let below : (suc n * suc p - 1) / parts < suc n = div_below (suc n * suc p - 1) parts (suc n) some low in
    IsPartOf-is (negsuc n) (int_div_euclid (negsuc n *ℤ pos (suc p)) (pos parts)) (negsuc ((suc n * suc p - 1) / parts)) (div_euclid-negative (suc n * suc p) (suc n * suc p - 1) parts whole)
    (IsPartOf-negative n ((suc n * suc p - 1) / parts) (omega arith))

-- no part of the way is the beginning
pub on_line-none : (parts : ℕ) (x y : ℤ) → 1 ≤ parts → on_line 0 parts x y ≡ x
on_line-none parts x y some = ap (λ z. x +ℤ int_div_euclid z (pos parts)) (mul-zero (y -ℤ x)) ∙ ap (λ z. x +ℤ z) (div_euclid-zero parts some) ∙ omega (arith, ints)

-- between two numbers that are one there is no other
pub on_line-same : (part parts : ℕ) (x : ℤ) → 1 ≤ parts → on_line part parts x x ≡ x
on_line-same part parts x some = grind (arith, nat_tests)

-- the whole of a rise
div_euclid-whole : (rise : ℤ) (parts : ℕ) → 1 ≤ parts → int_div_euclid (rise *ℤ pos parts) (pos parts) ≡ rise
div_euclid-whole rise parts some = grind (arith, nat_tests)

-- the whole way is the end
pub on_line-whole : (parts : ℕ) (x y : ℤ) → 1 ≤ parts → on_line parts parts x y ≡ y
on_line-whole parts x y some = ap (λ z. x +ℤ z) (div_euclid-whole (y -ℤ x) parts some) ∙ omega (arith, ints)

pub between-none : (parts : ℕ) (xs ys : List ℤ) → 1 ≤ parts → frame_between 0 parts xs ys ≡ xs
between-none parts [] ys some = refl
between-none parts (x ∷ xs) [] some = ap (λ z. z ∷ frame_between 0 parts xs []) (on_line-none parts x (pos 0) some) ∙ ap (λ zs. x ∷ zs) (between-none parts xs [] some)
between-none parts (x ∷ xs) (y ∷ ys) some = ap (λ z. z ∷ frame_between 0 parts xs ys) (on_line-none parts x y some) ∙ ap (λ zs. x ∷ zs) (between-none parts xs ys some)

pub between-same : (part parts : ℕ) (xs : List ℤ) → 1 ≤ parts → frame_between part parts xs xs ≡ xs
between-same part parts [] some = refl
between-same part parts (x ∷ xs) some = ap (λ z. z ∷ frame_between part parts xs xs) (on_line-same part parts x some) ∙ ap (λ zs. x ∷ zs) (between-same part parts xs some)

pub between-whole : (parts : ℕ) (xs ys : List ℤ) → 1 ≤ parts → length xs ≡ length ys → frame_between parts parts xs ys ≡ ys
between-whole parts [] [] some same = refl
between-whole parts [] (y ∷ ys) some same = absurd (omega arith)
between-whole parts (x ∷ xs) [] some same = absurd (omega arith)
between-whole parts (x ∷ xs) (y ∷ ys) some same = ap (λ z. z ∷ frame_between parts parts xs ys) (on_line-whole parts x y some) ∙ ap (λ zs. y ∷ zs) (between-whole parts xs ys some (omega arith))

-- the numbers on a line, one more
pub between-step : (part parts i : ℕ) (xs ys out all : List ℤ) (z : ℤ) → i < length xs → length xs ≡ length ys
    → z ≡ on_line part parts (get_or xs i (pos 0)) (get_or ys i (pos 0)) → out ++ frame_between part parts (drop i xs) (drop i ys) ≡ all
    → (out ++ z ∷ []) ++ frame_between part parts (drop (i + 1) xs) (drop (i + 1) ys) ≡ all
between-step part parts i xs ys out all z within same is so_far =
    let within_too : i < length ys = omega arith in
    let next : i + 1 ≡ suc i = omega arith in
    rw (append_assoc out (z ∷ []) (frame_between part parts (drop (i + 1) xs) (drop (i + 1) ys)), next, is)
    (rw (drop-cons xs i (pos 0) within, drop-cons ys i (pos 0) within_too) at so_far)

-- a number between two samples is one
pub FitsSigned-part : (x y q : ℤ) → FitsSigned w16 x → FitsSigned w16 y → IsPartOf (y -ℤ x) q → FitsSigned w16 (x +ℤ q)
FitsSigned-part x y q x_fits y_fits part = grind (arith, nat_tests)

-- a size that is rounded up
div_ceil-more : (k parts : ℕ) → 1 ≤ parts → div_ceil (suc k) parts ≡ suc (k / parts)
div_ceil-more k parts some = grind (arith, nat_tests)

div_ceil-none : (parts : ℕ) → 1 ≤ parts → div_ceil 0 parts ≡ 0
div_ceil-none parts some = grind (arith, nat_tests)

-- a negative number is divided by its size, rounded up
div_euclid-ceil : (m parts : ℕ) → 1 ≤ parts → neg_ℤ (pos (div_ceil m parts)) ≡ int_div_euclid (neg_ℤ (pos m)) (pos parts)
div_euclid-ceil zero parts some = ap (λ (n : ℕ). neg_ℤ (pos n)) (div_ceil-none parts some) ∙ sym (div_euclid-zero parts some)
div_euclid-ceil (suc k) parts some = ap (λ (n : ℕ). neg_ℤ (pos n)) (div_ceil-more k parts some)

-- a fall is divided by its size, rounded up
pub div_euclid-fall : (rise : ℤ) (part parts q : ℕ) → rise <ℤ pos 0 → 1 ≤ parts → q ≡ div_ceil (unsigned_abs rise * part) parts
    → pos 0 -ℤ pos q ≡ int_div_euclid (rise *ℤ pos part) (pos parts)
div_euclid-fall (pos n) part parts q falls some is = absurd (omega (arith, ints))
div_euclid-fall (negsuc n) part parts q falls some is =
    let zero_less : pos 0 -ℤ pos q ≡ neg_ℤ (pos q) = omega (arith, ints) in
    zero_less ∙ (ap (λ (m : ℕ). neg_ℤ (pos m)) is ∙ div_euclid-ceil (suc n * part) parts some)

rise-most : (rise : ℤ) → IsRise rise → unsigned_abs rise ≤ 65535
rise-most (pos n) is = let high = is.high in omega (arith, ints, high)
rise-most (negsuc n) is = let low = is.low in omega (arith, ints, low)

-- the size of a part of a rise, before it is divided
pub size-most : (rise : ℤ) (a b part : ℕ) → IsRise rise → a ≡ unsigned_abs rise → b ≡ part → part ≤ 4294967296 → a * b ≤ 65535 * 4294967296
size-most rise a b part is first second within = mul-le-mul (subst (λ (n : ℕ). n ≤ 65535) (sym first) (rise-most rise is)) (subst (λ (n : ℕ). n ≤ 4294967296) (sym second) within)

-- a rise that isn't negative is divided by its size
pub div_euclid-rise : (rise : ℤ) (part parts q : ℕ) → pos 0 ≤ℤ rise → q < 9223372036854775808 → q ≡ unsigned_abs rise * part / parts → to_z w64 q ≡ int_div_euclid (rise *ℤ pos part) (pos parts)
div_euclid-rise (pos n) part parts q rises low is = to_z-of_z w64 (pos q) (record { sfits = low }) ∙ ap pos is
div_euclid-rise (negsuc n) part parts q rises low is = absurd (omega (arith, ints))
