-- Laws of whole times: no settled box and no configuration is missed by the sizes whose time is whole.
use Rattle.hw_space.specs.Prelude.{ap, arith, inl, inr, lit<, subst, sym, ◌∙◌, cases_lt, nat_tests, Bool, false, IsTrue, nat_le, not, refl, true, ℕ, ◌%◌, ◌&&◌}
use Rattle.hw_space.specs.Prelude.{◌*◌, ◌+◌, ◌/◌, ◌<◌, ◌||◌, ◌≡◌, ◌≤◌, Interval, IsIntervalWithin-from_same, IsIntervalWithin-max, IsIntervalWithin-min}
use Rattle.hw_space.specs.Prelude.{IsNonEmpty-le, IsIntervalWithin, IsLowerWithin, IsUpperWithin, ParamBox, Quantity, Rate, IsBoxWithin, part, IsProper}
use Rattle.hw_space.specs.Prelude.{no_rule, Configuration, IsExact, IsResult, IsSettled, LiesInBox, IsSettled-IsNormal, IsSettled-max, HasNoneFrom}
use Rattle.hw_space.specs.Prelude.{HasWholeTime, size_of_span, time_of_span, whole_from_to}
use Rattle.std.proofs.Math.Nat.{mul-le-mul_right, mul-mod_left, eq_of_mul-eq-mul_right, le_of_mul-le-mul_right, mul-pos}
use Rattle.pcm_interval.specs.Arithmetic.{end_max, interval_between, is_broken, rounded_up, scaled_product_of, scaled_quotient_of}
use Rattle.hw_space.specs.declared.rule.Operation.TheVariants.{MulKDiv}
use Rattle.hw_space.specs.declared.whole_time.Span.{Span}
use Rattle.hw_space.specs.declared.whole_time.Span.TheVariants.{Period, Buffer}
use Rattle.hw_space.proofs.StepLaws.{IsMissedByNone}

-- ---- closed ends within rounded ones

open_lower : (n d : ℕ) (o : Bool) → n / d ≤ end_max → 0 < n % d → (nat_le (n / d) end_max && (o || is_broken n d)) ≡ true
open_lower n d o low broken = grind (arith, nat_tests)

open_upper : (n d : ℕ) (o : Bool) → rounded_up n d ≤ end_max → 0 < n % d → (nat_le (rounded_up n d) end_max && (o || is_broken n d)) ≡ true
open_upper n d o low broken = grind (arith, nat_tests)

rounded_up-le : (n d : ℕ) → rounded_up n d ≤ n / d + 1
rounded_up-le n d = grind (arith, nat_tests)

-- a number above a quotient is at least the fraction
above_quotient : (n d m : ℕ) → 0 < d → n / d < m → n ≤ m * d
above_quotient n d m positive above = grind (arith, nat_tests)

-- a closed lower end within that of a fraction is at least the fraction
lower-fraction : (i : Interval) (n d : ℕ) (o : Bool) (m e : ℕ) (p integer : Bool) → IsLowerWithin i (interval_between n d o m e p integer)
    → i.openmin ≡ false → 0 < d → i.min < end_max → n ≤ i.min * d
unfolding interval_between
lower-fraction i n d o m e p integer (inl above) closed positive uncut = above_quotient n d i.min positive (omega arith)
lower-fraction i n d o m e p integer (inr same) closed positive uncut =
    let whole : i.min ≡ n / d = omega (arith, same.0) in
    elim (cases_lt 0 (n % d)) [
      | inl broken ↦ let e : i.openmin ≡ true = same.1 (open_lower n d o (omega arith) broken) in absurd (cc)
      | inr exact ↦
          let parts : n ≡ d * (n / d) = omega arith in
          let value : i.min * d ≡ n / d * d = ap (λ x. x * d) whole in
          omega arith
    ]

-- a closed upper end within that of a fraction is at most the fraction
upper-fraction : (i : Interval) (n d : ℕ) (o : Bool) (m e : ℕ) (p integer : Bool) → IsUpperWithin i (interval_between m e p n d o integer)
    → i.openmax ≡ false → 0 < d → i.max < end_max → i.max * d ≤ n
unfolding interval_between
upper-fraction i n d o m e p integer is closed positive uncut = grind (arith, nat_tests)

-- ---- what the rules say of a span

size-whole : (b : ParamBox) (span : Span) → IsProper b → IsTrue (part b (size_of_span span)).integer
size-whole b Period proper = proper.whole_period_size
size-whole b Buffer proper = proper.whole_buffer_size

time-by_size : (s : ParamBox) (span : Span) → IsSettled s
    → IsIntervalWithin (part s (time_of_span span)) (scaled_quotient_of (part s (size_of_span span)) 1000000 s.rate)
time-by_size s Period settled = IsIntervalWithin-from_same s.period_time (scaled_quotient_of s.period_size 1000000 s.rate) (settled.by_rules 12 no_rule (lit< tt))
time-by_size s Buffer settled = IsIntervalWithin-from_same s.buffer_time (scaled_quotient_of s.buffer_size 1000000 s.rate) (settled.by_rules 15 no_rule (lit< tt))

size-by_time : (s : ParamBox) (span : Span) → IsSettled s
    → IsIntervalWithin (part s (size_of_span span)) (scaled_product_of (part s (time_of_span span)) s.rate 1000000)
size-by_time s Period settled = IsIntervalWithin-from_same s.period_size (scaled_product_of s.period_time s.rate 1000000) (settled.by_rules 13 no_rule (lit< tt))
size-by_time s Buffer settled = IsIntervalWithin-from_same s.buffer_size (scaled_product_of s.buffer_time s.rate 1000000) (settled.by_rules 16 no_rule (lit< tt))

time_rule : (x : Configuration) (span : Span) → IsExact x
    → IsResult (MulKDiv 1000000) (x.value (size_of_span span)) (x.value Rate) (x.value (time_of_span span))
time_rule x Period exact = exact.by_rules 12 no_rule (lit< tt)
time_rule x Buffer exact = exact.by_rules 15 no_rule (lit< tt)

-- ---- whole times of settled boxes

-- a settled box within a proper one, where the time is whole and there is one rate
module _ (b s : ParamBox) (span : Span) (proper : IsProper b) (whole : IsTrue (part b (time_of_span span)).integer)
    (one_rate : b.rate.max ≤ b.rate.min) (settled : IsSettled s) (within : IsBoxWithin s b) where
  rates : (s.rate.min ≡ b.rate.min) × (s.rate.max ≡ b.rate.min)
  rates =
      let order = IsNonEmpty-le s.rate (settled.parts Rate) in
      let low = IsIntervalWithin-min s.rate b.rate (within.parts Rate) in
      let high = IsIntervalWithin-max s.rate b.rate (within.parts Rate) in (omega (arith, order, low, high, one_rate), omega (arith, order, low, high, one_rate))

  -- the ends of a whole quantity are closed, and below the greatest number
  ends : (q : Quantity) → IsTrue (part b q).integer
      → ((part s q).openmin ≡ false) × ((part s q).openmax ≡ false) × ((part s q).min < end_max) × ((part s q).max < end_max)
  ends q is_whole =
      let normal = IsSettled-IsNormal s settled q in
      let uncut = IsSettled-max s b settled within proper q in
      let here = (within.parts q).integer is_whole in
      (normal.lower here, normal.upper here, omega (arith, uncut, IsNonEmpty-le (part s q) (settled.parts q)), uncut)

  -- so the least size, and the greatest, have a whole time
  settled-min : HasWholeTime b.rate.min (part s (size_of_span span)).min
  unfolding scaled_quotient_of scaled_product_of
  settled-min =
      let size = part s (size_of_span span) in
      let time = part s (time_of_span span) in
      let size_ends = ends (size_of_span span) (size-whole b span proper) in
      let time_ends = ends (time_of_span span) whole in
      let up = lower-fraction time (size.min * 1000000) s.rate.max (size.openmin || s.rate.openmax) (size.max * 1000000) s.rate.min
      (size.openmax || s.rate.openmin) false (time-by_size s span settled).lower time_ends.0 (omega (arith, rates.1, proper.slowest)) time_ends.2 in
      let down = lower-fraction size (time.min * s.rate.min) 1000000 (time.openmin || s.rate.openmin) (time.max * s.rate.max) 1000000
      (time.openmax || s.rate.openmax) false (size-by_time s span settled).lower size_ends.0 (lit< tt) size_ends.2 in
      let high = subst (λ (x : ℕ). size.min * 1000000 ≤ time.min * x) rates.1 up in
      let low = subst (λ (x : ℕ). time.min * x ≤ size.min * 1000000) rates.0 down in
      let equal : size.min * 1000000 ≡ time.min * b.rate.min = omega arith in
      rw equal (mul-mod_left time.min b.rate.min)

  settled-max : HasWholeTime b.rate.min (part s (size_of_span span)).max
  unfolding scaled_quotient_of scaled_product_of
  settled-max =
      let size = part s (size_of_span span) in
      let time = part s (time_of_span span) in
      let size_ends = ends (size_of_span span) (size-whole b span proper) in
      let time_ends = ends (time_of_span span) whole in
      let up = upper-fraction time (size.max * 1000000) s.rate.min (size.openmax || s.rate.openmin) (size.min * 1000000) s.rate.max
      (size.openmin || s.rate.openmax) false (time-by_size s span settled).upper time_ends.1 (omega (arith, rates.0, proper.slowest)) time_ends.3 in
      let down = upper-fraction size (time.max * s.rate.max) 1000000 (time.openmax || s.rate.openmax) (time.min * s.rate.min) 1000000
      (time.openmin || s.rate.openmin) false (size-by_time s span settled).upper size_ends.1 (lit< tt) size_ends.3 in
      let high = subst (λ (x : ℕ). time.max * x ≤ size.max * 1000000) rates.0 up in
      let low = subst (λ (x : ℕ). size.max * 1000000 ≤ time.max * x) rates.1 down in
      let equal : size.max * 1000000 ≡ time.max * b.rate.min = omega arith in
      rw equal (mul-mod_left time.max b.rate.min)

-- ---- whole times of configurations

-- a whole size, a whole time and a rate that meet exactly
whole-exact : (k w d u r e : ℕ) → 0 < d → 0 < u → 0 < e → u * w * (d * (r * e)) ≡ d * k * 1000000 * e * u → HasWholeTime r k
whole-exact k w d u r e d_pos u_pos e_pos exact =
    let scaled : k * 1000000 * (u * d * e) ≡ w * r * (u * d * e) = omega arith in
    rw (eq_of_mul-eq-mul_right (u * d * e) (mul-pos (mul-pos u_pos d_pos) e_pos) (k * 1000000) (w * r) scaled) (mul-mod_left w r)

whole-value : (n d t u p e r : ℕ) → 0 < d → 0 < u → 0 < e → n % d ≡ 0 → t % u ≡ 0 → p ≡ r * e
    → t * (d * p) ≡ n * 1000000 * e * u → HasWholeTime r (n / d)
whole-value n d t u p e r d_pos u_pos e_pos whole_n whole_t rate exact =
    let n_is : n ≡ d * (n / d) = omega arith in
    let t_is : t ≡ u * (t / u) = omega arith in
    let by_t : u * (t / u) * (d * p) ≡ n * 1000000 * e * u = rw t_is at exact in
    let by_p : u * (t / u) * (d * (r * e)) ≡ n * 1000000 * e * u = rw rate at by_t in
    whole-exact (n / d) (t / u) d u r e d_pos u_pos e_pos (rw n_is at by_p)

held-whole : (b : ParamBox) (x : Configuration) (span : Span) → IsProper b → IsExact x → LiesInBox b x
    → IsTrue (part b (time_of_span span)).integer → b.rate.max ≤ b.rate.min
    → HasWholeTime b.rate.min ((x.value (size_of_span span)).over / (x.value (size_of_span span)).under)
held-whole b x span proper exact held whole one_rate =
    let size = held.parts (size_of_span span) in
    let time = held.parts (time_of_span span) in
    let rate = held.parts Rate in
    let is_rate : (x.value Rate).over ≡ b.rate.min * (x.value Rate).under =
    omega (arith, mul-le-mul_right (x.value Rate).under one_rate, rate.lower, rate.upper) in
    whole-value (x.value (size_of_span span)).over (x.value (size_of_span span)).under
    (x.value (time_of_span span)).over (x.value (time_of_span span)).under (x.value Rate).over (x.value Rate).under b.rate.min
    size.positive time.positive rate.positive (size.whole (size-whole b span proper)) (time.whole whole) is_rate (time_rule x span exact)

-- ---- nothing is missed

-- from a least to a greatest number, where none below, and none above, is one
IsIntervalWithin-whole : (i : Interval) (least most : ℕ) → least ≤ i.min → i.max ≤ most → IsTrue i.integer → IsIntervalWithin i (whole_from_to least most)
IsIntervalWithin-whole i least most low high whole = grind (arith, nat_tests)

-- a number with a whole time is none of those below, or above
not_before : (r least below k : ℕ) → HasNoneFrom r least below → HasWholeTime r k → least ≤ k → below ≤ k
not_before r least below k none whole low =
    elim (cases_lt k below) [ inl under ↦ absurd (none.none k low under whole) | inr over ↦ over ]

not_after : (r above most k : ℕ) → HasNoneFrom r (above + 1) (most + 1) → HasWholeTime r k → k ≤ most → k ≤ above
not_after r above most k none whole high =
    elim (cases_lt above k) [ inl over ↦ absurd (none.none k (omega arith) (omega arith) whole) | inr under ↦ under ]

whole_sizes-IsMissedByNone : (b : ParamBox) (span : Span) (least greatest : ℕ) → IsProper b
    → IsTrue (part b (time_of_span span)).integer → b.rate.max ≤ b.rate.min
    → HasNoneFrom b.rate.min (part b (size_of_span span)).min least → HasNoneFrom b.rate.min (greatest + 1) ((part b (size_of_span span)).max + 1)
    → IsMissedByNone b (size_of_span span) (whole_from_to least greatest)
whole_sizes-IsMissedByNone b span least greatest proper whole one_rate none_below none_above = record {
  settled = λ s settled within.
      let q = size_of_span span in
      let at_least = not_before b.rate.min (part b q).min least (part s q).min none_below
      (settled-min b s span proper whole one_rate settled within) (IsIntervalWithin-min (part s q) (part b q) (within.parts q)) in
      let at_most = not_after b.rate.min greatest (part b q).max (part s q).max none_above
      (settled-max b s span proper whole one_rate settled within) (IsIntervalWithin-max (part s q) (part b q) (within.parts q)) in
      IsIntervalWithin-whole (part s q) least greatest at_least at_most ((within.parts q).integer (size-whole b span proper));
  configurations = λ x exact held.
      let q = size_of_span span in
      let n = (x.value q).over in
      let d = (x.value q).under in
      let member = held.parts q in
      let timed = held-whole b x span proper exact held whole one_rate in
      let rest : n % d ≡ 0 = member.whole (size-whole b span proper) in
      let parts : n ≡ n / d * d = omega (arith, member.positive, rest) in
      let from : (part b q).min ≤ n / d = le_of_mul-le-mul_right (omega (arith, member.lower, parts)) member.positive in
      let upto : n / d ≤ (part b q).max = le_of_mul-le-mul_right (omega (arith, member.upper, parts)) member.positive in
      let scaled_low : least * d ≤ n / d * d = mul-le-mul_right d (not_before b.rate.min (part b q).min least (n / d) none_below timed from) in
      let scaled_high : n / d * d ≤ greatest * d = mul-le-mul_right d (not_after b.rate.min greatest (part b q).max (n / d) none_above timed upto) in
      record {
        positive = member.positive;
        lower = omega (arith, scaled_low, parts);
        above = λ is_open. absurd (cc);
        upper = omega (arith, scaled_high, parts);
        below = λ is_open. absurd (cc);
        whole = λ is_integer. rest;
      };
}

true_from_not : (t : Bool) → not t ≡ false → IsTrue t
true_from_not true h = refl
true_from_not false h = absurd (cc)

-- the same where `time`, `size` and the interval are read
pub read-IsMissedByNone : (b : ParamBox) (span : Span) {p q v : Quantity} {time size x : Interval} {least greatest : ℕ} → IsProper b
    → p ≡ time_of_span span → time ≡ part b p → not time.integer ≡ false → b.rate.max ≤ b.rate.min
    → q ≡ size_of_span span → size ≡ part b q → x ≡ whole_from_to least greatest → v ≡ size_of_span span
    → HasNoneFrom b.rate.min size.min least → HasNoneFrom b.rate.min (greatest + 1) (size.max + 1) → IsMissedByNone b v x
read-IsMissedByNone b span {p} {q} {v} {time} {size} {x} {least} {greatest} proper p_is time_is whole one_rate q_is size_is x_is v_is below above =
    let time_part : time ≡ part b (time_of_span span) = time_is ∙ ap (part b) p_is in
    let size_part : size ≡ part b (size_of_span span) = size_is ∙ ap (part b) q_is in
    subst (λ (w : Quantity). IsMissedByNone b w x) (sym v_is) (subst (IsMissedByNone b (size_of_span span)) (sym x_is)
    (whole_sizes-IsMissedByNone b span least greatest proper
    (subst (λ (i : Interval). IsTrue i.integer) time_part (true_from_not time.integer whole)) one_rate
    (subst (λ (i : Interval). HasNoneFrom b.rate.min i.min least) size_part below)
    (subst (λ (i : Interval). HasNoneFrom b.rate.min (greatest + 1) (i.max + 1)) size_part above)))
