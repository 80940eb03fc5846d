-- Laws of intervals: within is an order, and a refinement leaves the greatest interval of normal form within both.
use Rattle.std.specs.Prelude.{◌≡◌, ◌≢◌, ℕ, ◌+◌, ◌-◌, ◌*◌, ◌/◌, ◌%◌, ◌<◌, ◌≤◌, ◌⊎◌, min, max, Bool, true, false, not, ◌||◌, ◌==◌, nat_lt, if◌then◌else◌, IsTrue, IsFalse, refl}
use Rattle.std.proofs.Common.{arith, inl, inr, ap, sym, subst, ◌∙◌, ⊎_elim}
use Rattle.std.proofs.Math.Nat.{div-add-mod', mul-mod_left, mul-le-mul_right, le_of_mul-le-mul_right, lt_of_mul-lt-mul_right}
use Rattle.std.proofs.lemmas.Bool.{or_left, or_right, or_cases, cond-true, cond-false, cases_Bool, cases_lt, cases_order, cond_both, both_ways, false_from_ne_true, false≢true}
use Rattle.std.proofs.lemmas.Bool.Decides.{nat_tests}
use Rattle.pcm_interval.specs.declared.interval.Interval.{Interval}
use Rattle.pcm_interval.specs.Intervals.{IsEmpty, IsNonEmpty, IsIntervalWithin, IsMember, IsNormal, is_empty, is_point, with_ends_closed, refinement, common_part, normal_form, lower_place, upper_place, bit_of, size_of}

-- ---- places

-- an interval is not empty where its lower end lies below its upper end
pub IsNonEmpty-places : (i : Interval) → IsNonEmpty i → lower_place i < upper_place i
IsNonEmpty-places i h = grind (arith, nat_tests)

pub IsNonEmpty-from_places : (i : Interval) → lower_place i < upper_place i → IsNonEmpty i
IsNonEmpty-from_places i h = grind (arith, nat_tests)

-- one interval lies within another where its ends lie there
pub IsIntervalWithin-lower_place : (a b : Interval) → IsIntervalWithin a b → lower_place b ≤ lower_place a
IsIntervalWithin-lower_place a b h = grind (arith, nat_tests)

pub IsIntervalWithin-upper_place : (a b : Interval) → IsIntervalWithin a b → upper_place a ≤ upper_place b
IsIntervalWithin-upper_place a b h = grind (arith, nat_tests)

pub IsIntervalWithin-from_places : (a b : Interval) → lower_place b ≤ lower_place a → upper_place a ≤ upper_place b
    → (IsTrue b.integer → IsTrue a.integer) → IsIntervalWithin a b
IsIntervalWithin-from_places a b lower upper integer = record { lower = grind (arith, nat_tests); upper = grind (arith, nat_tests); integer = integer }

-- ---- within is an order

pub IsIntervalWithin-refl : (a : Interval) → IsIntervalWithin a a
IsIntervalWithin-refl a = record { lower = inr (refl, λ h. h); upper = inr (refl, λ h. h); integer = λ h. h }

pub IsIntervalWithin-trans : (a b c : Interval) → IsIntervalWithin a b → IsIntervalWithin b c → IsIntervalWithin a c
IsIntervalWithin-trans a b c h g = IsIntervalWithin-from_places a c
    (omega (arith, IsIntervalWithin-lower_place a b h, IsIntervalWithin-lower_place b c g))
    (omega (arith, IsIntervalWithin-upper_place a b h, IsIntervalWithin-upper_place b c g))
    (λ e. h.integer (g.integer e))

-- an end's place gives its number and whether it is open
same_lower : (m n : ℕ) (o p : Bool) → 2 * m + bit_of o ≡ 2 * n + bit_of p → (m ≡ n) × (o ≡ p)
same_lower m n true true h = (omega arith, refl)
same_lower m n true false h = absurd (omega arith)
same_lower m n false true h = absurd (omega arith)
same_lower m n false false h = (omega arith, refl)

same_upper : (m n : ℕ) (o p : Bool) → 2 * m + bit_of (not o) ≡ 2 * n + bit_of (not p) → (m ≡ n) × (o ≡ p)
same_upper m n true true h = (omega arith, refl)
same_upper m n true false h = absurd (omega arith)
same_upper m n false true h = absurd (omega arith)
same_upper m n false false h = (omega arith, refl)

same_flag : (x y : Bool) → (IsTrue x → IsTrue y) → (IsTrue y → IsTrue x) → x ≡ y
same_flag true y h g = sym (h refl)
same_flag false true h g = g refl
same_flag false false h g = refl

same_fields : (a b : Interval) → a.min ≡ b.min → a.max ≡ b.max → a.openmin ≡ b.openmin → a.openmax ≡ b.openmax
    → a.integer ≡ b.integer → a ≡ b
same_fields a b p q r s t =
    ap (λ (v : ℕ). record a { min = v }) p
    ∙ ap (λ (v : ℕ). record a { min = b.min; max = v }) q
    ∙ ap (λ (v : Bool). record a { min = b.min; max = b.max; openmin = v }) r
    ∙ ap (λ (v : Bool). record a { min = b.min; max = b.max; openmin = b.openmin; openmax = v }) s
    ∙ ap (λ (v : Bool). record b { integer = v }) t

-- its places and whether it is integer determine an interval
same_from_places : (a b : Interval) → lower_place a ≡ lower_place b → upper_place a ≡ upper_place b → a.integer ≡ b.integer → a ≡ b
same_from_places a b lower upper integer =
    let low = same_lower a.min b.min a.openmin b.openmin lower in
    let high = same_upper a.max b.max a.openmax b.openmax upper in
    same_fields a b low.0 high.0 low.1 high.1 integer

pub IsIntervalWithin-antisym : (a b : Interval) → IsIntervalWithin a b → IsIntervalWithin b a → a ≡ b
IsIntervalWithin-antisym a b h g = same_from_places a b
    (omega (arith, IsIntervalWithin-lower_place a b h, IsIntervalWithin-lower_place b a g))
    (omega (arith, IsIntervalWithin-upper_place a b h, IsIntervalWithin-upper_place b a g))
    (same_flag a.integer b.integer g.integer h.integer)

-- its numbers too
pub IsIntervalWithin-min : (a b : Interval) → IsIntervalWithin a b → b.min ≤ a.min
IsIntervalWithin-min a b h = grind (arith, nat_tests)

pub IsIntervalWithin-max : (a b : Interval) → IsIntervalWithin a b → a.max ≤ b.max
IsIntervalWithin-max a b h = grind (arith, nat_tests)

-- what holds an interval that is not empty is not empty
pub IsNonEmpty-IsIntervalWithin : (a b : Interval) → IsIntervalWithin a b → IsNonEmpty a → IsNonEmpty b
IsNonEmpty-IsIntervalWithin a b h filled = IsNonEmpty-from_places b
    (omega (arith, IsNonEmpty-places a filled, IsIntervalWithin-lower_place a b h, IsIntervalWithin-upper_place a b h))

-- the lower end of an interval that is not empty is at most its upper end
pub IsNonEmpty-le : (i : Interval) → IsNonEmpty i → i.min ≤ i.max
IsNonEmpty-le i filled = grind (arith, nat_tests)

-- ---- what a refinement leaves

common_part-lower_place : (a b : Interval) → lower_place (common_part a b) ≡ max (lower_place a) (lower_place b)
unfolding common_part
common_part-lower_place a b = grind (arith, nat_tests)

common_part-upper_place : (a b : Interval) → upper_place (common_part a b) ≡ min (upper_place a) (upper_place b)
unfolding common_part
common_part-upper_place a b = grind (arith, nat_tests)

common_part-integer_left : (a b : Interval) → IsTrue a.integer → IsTrue (common_part a b).integer
unfolding common_part
common_part-integer_left a b h = or_left a.integer b.integer h

common_part-integer_right : (a b : Interval) → IsTrue b.integer → IsTrue (common_part a b).integer
unfolding common_part
common_part-integer_right a b h = or_right a.integer b.integer h

common_part-integer : (a b : Interval) → IsTrue (common_part a b).integer → IsTrue a.integer ⊎ IsTrue b.integer
unfolding common_part
common_part-integer a b h = or_cases a.integer b.integer h

common_part-IsWithin_left : (a b : Interval) → IsIntervalWithin (common_part a b) a
common_part-IsWithin_left a b = IsIntervalWithin-from_places (common_part a b) a
    (omega (arith, common_part-lower_place a b)) (omega (arith, common_part-upper_place a b)) (common_part-integer_left a b)

common_part-IsWithin_right : (a b : Interval) → IsIntervalWithin (common_part a b) b
common_part-IsWithin_right a b = IsIntervalWithin-from_places (common_part a b) b
    (omega (arith, common_part-lower_place a b)) (omega (arith, common_part-upper_place a b)) (common_part-integer_right a b)

common_part-greatest : (s a b : Interval) → IsIntervalWithin s a → IsIntervalWithin s b → IsIntervalWithin s (common_part a b)
common_part-greatest s a b in_a in_b = IsIntervalWithin-from_places s (common_part a b)
    (omega (arith, common_part-lower_place a b, IsIntervalWithin-lower_place s a in_a, IsIntervalWithin-lower_place s b in_b))
    (omega (arith, common_part-upper_place a b, IsIntervalWithin-upper_place s a in_a, IsIntervalWithin-upper_place s b in_b))
    (λ h. ⊎_elim in_a.integer in_b.integer (common_part-integer a b h))

-- the normal form, case by case
pub normal_form-empty : (i : Interval) → IsEmpty i → normal_form i ≡ i
unfolding normal_form
normal_form-empty i h = cond-true (is_empty i) _ _ h

pub normal_form-integer : (i : Interval) → IsNonEmpty i → IsTrue i.integer → normal_form i ≡ with_ends_closed i
unfolding normal_form
normal_form-integer i h integer = cond-false (is_empty i) _ _ h ∙ cond-true i.integer _ _ integer

pub normal_form-fraction : (i : Interval) → IsNonEmpty i → IsFalse i.integer → normal_form i ≡ record i { integer = is_point i }
unfolding normal_form
normal_form-fraction i h integer = cond-false (is_empty i) _ _ h ∙ cond-false i.integer _ _ integer

-- one that is not empty is a point where its ends are one number
pub is_point-ends : (i : Interval) → IsNonEmpty i → is_point i ≡ (i.min == i.max)
is_point-ends i filled = grind (arith, nat_tests)

-- what holds in each case holds
normal_form-cases : (i : Interval) (P : Interval → Type 0) → (IsEmpty i → P i) → (IsNonEmpty i → IsTrue i.integer → P (with_ends_closed i))
    → (IsNonEmpty i → IsFalse i.integer → P (record i { integer = is_point i })) → P (normal_form i)
normal_form-cases i P at_empty at_integer at_fraction =
    elim (cases_Bool (is_empty i)) [
      | inl empty ↦ subst P (sym (normal_form-empty i empty)) (at_empty empty)
      | inr filled ↦ elim (cases_Bool i.integer) [
        | inl integer ↦ subst P (sym (normal_form-integer i filled integer)) (at_integer filled integer)
        | inr fraction ↦ subst P (sym (normal_form-fraction i filled fraction)) (at_fraction filled fraction)
      ]
    ]

-- with its ends closed an interval lies within itself
with_ends_closed-IsIntervalWithin : (i : Interval) → IsNonEmpty i → IsIntervalWithin (with_ends_closed i) i
with_ends_closed-IsIntervalWithin i filled =
    IsIntervalWithin-from_places (with_ends_closed i) i (grind (arith, nat_tests)) (grind (arith, nat_tests)) (λ h. h)

-- and what is integer with closed ends lies within it
with_ends_closed-greatest : (s i : Interval) → IsNonEmpty i → IsTrue i.integer → IsNormal s → IsIntervalWithin s i → IsIntervalWithin s (with_ends_closed i)
with_ends_closed-greatest s i filled integer normal within =
    let open_low = normal.lower (within.integer integer) in
    let open_high = normal.upper (within.integer integer) in
    let low = IsIntervalWithin-lower_place s i within in
    let high = IsIntervalWithin-upper_place s i within in
    IsIntervalWithin-from_places s (with_ends_closed i) (grind (arith, nat_tests)) (grind (arith, nat_tests)) (λ h. within.integer integer)

-- a point is integer
point-integer : (s i : Interval) → IsNonEmpty s → IsNormal s → IsIntervalWithin s i → IsTrue (is_point i) → IsTrue s.integer
point-integer s i filled normal within point =
    let low = IsIntervalWithin-lower_place s i within in
    let high = IsIntervalWithin-upper_place s i within in
    let room = IsNonEmpty-places s filled in
    normal.point (grind (arith, nat_tests))

-- the normal form lies within
normal_form-IsIntervalWithin : (i : Interval) → IsIntervalWithin (normal_form i) i
normal_form-IsIntervalWithin i = normal_form-cases i (λ n. IsIntervalWithin n i)
    (λ empty. IsIntervalWithin-refl i)
    (λ filled integer. with_ends_closed-IsIntervalWithin i filled)
    (λ filled fraction. IsIntervalWithin-from_places (record i { integer = is_point i }) i (omega arith) (omega arith) (λ h. absurd (both_ways i.integer fraction h)))

normal_form-IsNormal : (i : Interval) → IsNonEmpty (normal_form i) → IsNormal (normal_form i)
normal_form-IsNormal i = normal_form-cases i (λ n. IsNonEmpty n → IsNormal n)
    (λ empty filled. absurd (both_ways (is_empty i) filled empty))
    (λ before integer filled. record { lower = λ h. refl; upper = λ h. refl; point = λ h. integer })
    (λ before fraction filled. record { lower = grind (arith, nat_tests); upper = grind (arith, nat_tests); point = grind (arith, nat_tests) })

normal_form-greatest : (s i : Interval) → IsNonEmpty s → IsNormal s → IsIntervalWithin s i → IsIntervalWithin s (normal_form i)
normal_form-greatest s i filled normal within = normal_form-cases i (λ n. IsIntervalWithin s n)
    (λ empty. within)
    (λ before integer. with_ends_closed-greatest s i before integer normal within)
    (λ before fraction. IsIntervalWithin-from_places s (record i { integer = is_point i })
    (IsIntervalWithin-lower_place s i within) (IsIntervalWithin-upper_place s i within) (point-integer s i filled normal within))

-- of an empty common part nothing is left
pub refined-empty : (a b : Interval) → IsEmpty (common_part a b) → IsEmpty (refinement a b)
unfolding refinement
refined-empty a b h = subst IsEmpty (sym (normal_form-empty (common_part a b) h)) h

-- it lies within both
pub refined-IsWithin_left : (a b : Interval) → IsIntervalWithin (refinement a b) a
unfolding refinement
refined-IsWithin_left a b = IsIntervalWithin-trans (normal_form (common_part a b)) (common_part a b) a (normal_form-IsIntervalWithin (common_part a b)) (common_part-IsWithin_left a b)

pub refined-IsWithin_right : (a b : Interval) → IsIntervalWithin (refinement a b) b
unfolding refinement
refined-IsWithin_right a b = IsIntervalWithin-trans (normal_form (common_part a b)) (common_part a b) b (normal_form-IsIntervalWithin (common_part a b)) (common_part-IsWithin_right a b)

-- it has the normal form
pub refined-IsNormal : (a b : Interval) → IsNonEmpty (refinement a b) → IsNormal (refinement a b)
unfolding refinement
refined-IsNormal a b filled = normal_form-IsNormal (common_part a b) filled

-- and every interval of normal form that lies within both lies within it
pub refined-greatest : (s a b : Interval) → IsNonEmpty s → IsNormal s → IsIntervalWithin s a → IsIntervalWithin s b → IsIntervalWithin s (refinement a b)
unfolding refinement
refined-greatest s a b filled normal in_a in_b = normal_form-greatest s (common_part a b) filled normal (common_part-greatest s a b in_a in_b)

-- so it is not empty
pub refined-IsNonEmpty : (s a b : Interval) → IsNonEmpty s → IsNormal s → IsIntervalWithin s a → IsIntervalWithin s b → IsNonEmpty (refinement a b)
refined-IsNonEmpty s a b filled normal in_a in_b =
    IsNonEmpty-IsIntervalWithin s (refinement a b) (refined-greatest s a b filled normal in_a in_b) filled

-- smaller ones leave a smaller one
pub refined-IsIntervalWithin : (a b c d : Interval) → IsNonEmpty (refinement a b) → IsIntervalWithin a c → IsIntervalWithin b d → IsIntervalWithin (refinement a b) (refinement c d)
refined-IsIntervalWithin a b c d filled in_c in_d =
    refined-greatest (refinement a b) c d filled (refined-IsNormal a b filled)
    (IsIntervalWithin-trans (refinement a b) a c (refined-IsWithin_left a b) in_c)
    (IsIntervalWithin-trans (refinement a b) b d (refined-IsWithin_right a b) in_d)

-- a refinement changes nothing exactly where an interval has the normal form and lies within the other
pub refined-same : (s x : Interval) → IsNonEmpty s → IsNormal s → IsIntervalWithin s x → refinement s x ≡ s
refined-same s x filled normal within = IsIntervalWithin-antisym (refinement s x) s (refined-IsWithin_left s x) (refined-greatest s s x filled normal (IsIntervalWithin-refl s) within)

pub IsIntervalWithin-from_same : (s x : Interval) → refinement s x ≡ s → IsIntervalWithin s x
IsIntervalWithin-from_same s x same = subst (λ (r : Interval). IsIntervalWithin r x) same (refined-IsWithin_right s x)

pub IsNormal-from_same : (s x : Interval) → IsNonEmpty s → refinement s x ≡ s → IsNormal s
IsNormal-from_same s x filled same =
    subst IsNormal same (refined-IsNormal s x (subst IsNonEmpty (sym same) filled))

-- a fraction n / d between two lower ends and two upper ends lies between the larger and the smaller
larger_lower_below : (x y d n : ℕ) (o p : Bool) → x * d ≤ n → (IsTrue o → x * d < n) → y * d ≤ n → (IsTrue p → y * d < n)
    → (max x y * d ≤ n) × (IsTrue (if nat_lt x y then p else (if nat_lt y x then o else (o || p))) → max x y * d < n)
larger_lower_below x y d n o p x_low x_open y_low y_open =
    elim (cases_order x y) [
      | inl same ↦
          let left : max x y ≡ x = omega arith in
          let e : max x y * d ≡ x * d = ap (λ (v : ℕ). v * d) left in
          let f : x * d ≡ y * d = ap (λ (v : ℕ). v * d) same in
          (omega arith, grind (arith, nat_tests))
      | inr apart ↦ elim apart [
        | inl below ↦
            let right : max x y ≡ y = omega arith in
            let e : max x y * d ≡ y * d = ap (λ (v : ℕ). v * d) right in
            (omega arith, grind (arith, nat_tests))
        | inr above ↦
            let left : max x y ≡ x = omega arith in
            let e : max x y * d ≡ x * d = ap (λ (v : ℕ). v * d) left in
            (omega arith, grind (arith, nat_tests))
      ]
    ]

smaller_upper_above : (x y d n : ℕ) (o p : Bool) → n ≤ x * d → (IsTrue o → n < x * d) → n ≤ y * d → (IsTrue p → n < y * d)
    → (n ≤ min x y * d) × (IsTrue (if nat_lt x y then o else (if nat_lt y x then p else (o || p))) → n < min x y * d)
smaller_upper_above x y d n o p x_high x_open y_high y_open =
    elim (cases_order x y) [
      | inl same ↦
          let left : min x y ≡ x = omega arith in
          let e : min x y * d ≡ x * d = ap (λ (v : ℕ). v * d) left in
          let f : x * d ≡ y * d = ap (λ (v : ℕ). v * d) same in
          (omega arith, grind (arith, nat_tests))
      | inr apart ↦ elim apart [
        | inl below ↦
            let left : min x y ≡ x = omega arith in
            let e : min x y * d ≡ x * d = ap (λ (v : ℕ). v * d) left in
            (omega arith, grind (arith, nat_tests))
        | inr above ↦
            let right : min x y ≡ y = omega arith in
            let e : min x y * d ≡ y * d = ap (λ (v : ℕ). v * d) right in
            (omega arith, grind (arith, nat_tests))
      ]
    ]

common_part-IsMember : (a b : Interval) (n d : ℕ) → IsMember a n d → IsMember b n d → IsMember (common_part a b) n d
unfolding common_part
common_part-IsMember a b n d in_a in_b =
    let low = larger_lower_below a.min b.min d n a.openmin b.openmin in_a.lower in_a.above in_b.lower in_b.above in
    let high = smaller_upper_above a.max b.max d n a.openmax b.openmax in_a.upper in_a.below in_b.upper in_b.below in
    record {
      positive = in_a.positive;
      lower = low.0;
      above = low.1;
      upper = high.0;
      below = high.1;
      whole = λ h. ⊎_elim in_a.whole in_b.whole (or_cases a.integer b.integer h);
    }

-- a whole number above an end that is a whole number is at least the next one
next_above : (m d n : ℕ) → 0 < d → n % d ≡ 0 → m * d < n → (m + 1) * d ≤ n
next_above m d n positive whole above =
    let q : n / d * d ≡ n = omega (arith, div-add-mod' n d) in
    let less : m * d < n / d * d = omega arith in
    let up : m < n / d = lt_of_mul-lt-mul_right d less in
    let next : m + 1 ≤ n / d = omega arith in
    omega (arith, mul-le-mul_right d next)

next_below : (m d n : ℕ) → 0 < d → n % d ≡ 0 → n < m * d → n ≤ (m - 1) * d
next_below m d n positive whole below =
    let q : n / d * d ≡ n = omega (arith, div-add-mod' n d) in
    let less : n / d * d < m * d = omega arith in
    let down : n / d < m = lt_of_mul-lt-mul_right d less in
    let next : n / d ≤ m - 1 = omega arith in
    omega (arith, mul-le-mul_right d next)

with_ends_closed-IsMember : (i : Interval) (n d : ℕ) → IsTrue i.integer → IsMember i n d → IsMember (with_ends_closed i) n d
with_ends_closed-IsMember i n d integer h = record {
  positive = h.positive;
  lower = cond_both i.openmin (i.min + 1) i.min (λ (v : ℕ). v * d ≤ n)
      (λ is_open. next_above i.min d n h.positive (h.whole integer) (h.above is_open)) (λ closed. h.lower);
  above = λ no. absurd (false≢true no);
  upper = cond_both i.openmax (i.max - 1) i.max (λ (v : ℕ). n ≤ v * d)
      (λ is_open. next_below i.max d n h.positive (h.whole integer) (h.below is_open)) (λ closed. h.upper);
  below = λ no. absurd (false≢true no);
  whole = h.whole;
}

-- the one member of a point is whole
point-whole : (m d n : ℕ) → m * d ≤ n → n ≤ m * d → n % d ≡ 0
point-whole m d n low high =
    let e : n ≡ m * d = omega arith in
    ap (λ (v : ℕ). v % d) e ∙ mul-mod_left m d

point-IsMember : (i : Interval) (n d : ℕ) → IsMember i n d → IsMember (record i { integer = is_point i }) n d
point-IsMember i n d h = record {
  positive = h.positive;
  lower = h.lower;
  above = h.above;
  upper = h.upper;
  below = h.below;
  whole = λ point.
      let same : i.min ≡ i.max = grind (arith, nat_tests) in
      let e : i.min * d ≡ i.max * d = ap (λ (v : ℕ). v * d) same in
      point-whole i.min d n h.lower (omega (arith, h.upper));
}

-- what both have it has
pub refined-IsMember : (a b : Interval) (n d : ℕ) → IsMember a n d → IsMember b n d → IsMember (refinement a b) n d
unfolding refinement
refined-IsMember a b n d in_a in_b =
    let common = common_part-IsMember a b n d in_a in_b in
    normal_form-cases (common_part a b) (λ r. IsMember r n d)
    (λ empty. common)
    (λ filled integer. with_ends_closed-IsMember (common_part a b) n d integer common)
    (λ filled fraction. point-IsMember (common_part a b) n d common)

-- an interval with a member is not empty
pub IsNonEmpty-IsMember : (i : Interval) (n d : ℕ) → IsMember i n d → IsNonEmpty i
IsNonEmpty-IsMember i n d h =
    let both : i.min * d ≤ i.max * d = omega (arith, h.lower, h.upper) in
    let le : i.min ≤ i.max = le_of_mul-le-mul_right both h.positive in
    elim (cases_lt i.min i.max) [
      | inl less ↦ IsNonEmpty-from_places i (grind (arith, nat_tests))
      | inr not_less ↦
          let same : i.min ≡ i.max = omega arith in
          let e : i.min * d ≡ i.max * d = ap (λ (v : ℕ). v * d) same in
          let low : IsFalse i.openmin = false_from_ne_true i.openmin (λ is_open. omega (arith, h.above is_open, h.upper)) in
          let high : IsFalse i.openmax = false_from_ne_true i.openmax (λ is_open. omega (arith, h.below is_open, h.lower)) in
          IsNonEmpty-from_places i (grind (arith, nat_tests))
    ]

-- of two intervals of one size, of which one lies within the other, both are the same
same_size : (a b : Interval) → lower_place b ≤ lower_place a → upper_place a ≤ upper_place b → lower_place a < upper_place a
    → (IsTrue b.integer → IsTrue a.integer) → size_of b ≤ size_of a → a ≡ b
same_size a b low high room integer same =
    elim (cases_Bool a.integer) [
      | inl whole ↦ elim (cases_Bool b.integer) [
        | inl too ↦ same_from_places a b (grind (arith, nat_tests)) (grind (arith, nat_tests)) (grind (arith, nat_tests))
        | inr fraction ↦ absurd (grind (arith, nat_tests))
      ]
      | inr fraction ↦ elim (cases_Bool b.integer) [
        | inl whole ↦ absurd (both_ways a.integer fraction (integer whole))
        | inr too ↦ same_from_places a b (grind (arith, nat_tests)) (grind (arith, nat_tests)) (grind (arith, nat_tests))
      ]
    ]

-- a change makes it smaller
pub size_of-refined : (a b : Interval) → IsNonEmpty (refinement a b) → refinement a b ≢ a → size_of (refinement a b) < size_of a
size_of-refined a b filled changed =
    let within = refined-IsWithin_left a b in
    let low = IsIntervalWithin-lower_place (refinement a b) a within in
    let high = IsIntervalWithin-upper_place (refinement a b) a within in
    let room = IsNonEmpty-places (refinement a b) filled in
    elim (cases_lt (size_of (refinement a b)) (size_of a)) [
      | inl smaller ↦ smaller
      | inr same ↦ absurd (changed (same_size (refinement a b) a low high room within.integer same))
    ]
