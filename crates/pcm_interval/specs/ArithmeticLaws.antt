-- Laws of rounded arithmetic: smaller intervals give a smaller one, and fractions of members are members.
use Rattle.std.specs.Prelude.{◌≡◌, ℕ, ◌+◌, ◌*◌, ◌/◌, ◌%◌, ◌<◌, ◌≤◌, min, Bool, false, not, ◌&&◌, ◌||◌, nat_le, IsTrue, refl}
use Rattle.std.proofs.Common.{arith, ap, sym, subst, inl, inr, ◌∙◌, ⊎_elim}
use Rattle.std.proofs.Math.Nat.{div-add-mod', div-one, div-mul-le_self, eq_of_mul-eq-mul_right, le-div_iff_mul-le, le_of_mul-le-mul_right, lt_of_mul-lt-mul_right, mod-lt, mul-le-mul_left, mul-le-mul_right, mul-lt-mul_of_pos_right, mul-lt-mul_of_pos_left, mul-mod_left, mul-one}
use Rattle.std.proofs.lemmas.Bool.{and_from, and_parts, both_ways, cases_Bool, cases_eq, cases_lt, or_cases, or_left, or_right, cond-true, cond-false, false≢true, leb-true, ltb-true, ltb-false}
use Rattle.std.proofs.lemmas.Bool.Decides.{nat_tests}
use Rattle.pcm_interval.specs.declared.interval.Interval.{Interval}
use Rattle.pcm_interval.specs.Intervals.{IsNonEmpty, IsIntervalWithin, IsMember, bit_of}
use Rattle.pcm_interval.specs.IntervalLaws.{IsNonEmpty-le, IsIntervalWithin-from_places, IsIntervalWithin-max, IsIntervalWithin-min}
use Rattle.pcm_interval.specs.Arithmetic.{interval_between, product_of, quotient_of, scaled_product_of, scaled_quotient_of, end_max, is_broken, rounded_up, lower_end_of, lower_is_open, upper_end_of, upper_is_open}

-- ---- fractions and their ends

-- of two fractions the smaller has the smaller whole part, and where the parts are equal and the greater fraction is
-- whole, both are the same
quotient_order : (n d m e : ℕ) → 0 < d → 0 < e → n * e ≤ m * d
    → (n / d ≤ m / e) × (n / d ≡ m / e → m % e ≡ 0 → (n % d ≡ 0) × (n * e ≡ m * d))
quotient_order n d m e d_pos e_pos low =
    let part : n / d * d ≤ n = div-mul-le_self n d in
    let scaled : n / d * d * e ≤ n * e = mul-le-mul_right e part in
    let turned : n / d * e * d ≤ m * d = omega arith in
    let cancelled : n / d * e ≤ m = le_of_mul-le-mul_right turned d_pos in (
      (le-div_iff_mul-le e_pos).1 cancelled,
      λ same whole.
          let left : n / d * d + n % d ≡ n = div-add-mod' n d in
          let right : m / e * e + m % e ≡ m = div-add-mod' m e in
          let m_is : m ≡ n / d * e = omega (arith, ap (λ (v : ℕ). v * e) same) in
          let n_scaled : n / d * d * e + n % d * e ≡ n * e = omega (arith, ap (λ (v : ℕ). v * e) left) in
          let m_scaled : m * d ≡ n / d * e * d = ap (λ (v : ℕ). v * d) m_is in
          let rest : n % d * e ≤ 0 * e = omega arith in
          let none : n % d ≤ 0 = le_of_mul-le-mul_right rest e_pos in
          let gone : n % d * e ≡ 0 * e = ap (λ (v : ℕ). v * e) (let z : n % d ≡ 0 = omega arith in z) in
          (omega arith, omega arith),
    )

-- a fraction that is not lower has a lower end that is not lower, if this is not clamped
lower_end-le : (n d m e : ℕ) (n_open m_open : Bool) → 0 < d → 0 < e → n * e ≤ m * d
    → (n * e ≡ m * d → IsTrue n_open → IsTrue m_open) → m / e ≤ end_max
    → 2 * lower_end_of n d + bit_of (lower_is_open n d n_open) ≤ 2 * lower_end_of m e + bit_of (lower_is_open m e m_open)
lower_end-le n d m e n_open m_open d_pos e_pos low opens unclamped =
    let order = quotient_order n d m e d_pos e_pos low in
    elim (cases_lt (n / d) (m / e)) [
      | inl less ↦ grind (arith, nat_tests)
      | inr not_less ↦
          let same : n / d ≡ m / e = omega (arith, order.0) in
          elim (cases_eq (m % e) 0) [
            | inl whole ↦
                let both = order.1 same whole in
                let both_open = opens both.1 in
                let n_whole = both.0 in
                grind (arith, nat_tests)
            | inr broken ↦ grind (arith, nat_tests)
          ]
    ]

-- a fraction that is not higher has an upper end that is not higher
upper_end-le : (m e n d : ℕ) (m_open n_open : Bool) → 0 < e → 0 < d → m * d ≤ n * e
    → (m * d ≡ n * e → IsTrue n_open → IsTrue m_open)
    → 2 * upper_end_of m e + bit_of (not (upper_is_open m e m_open)) ≤ 2 * upper_end_of n d + bit_of (not (upper_is_open n d n_open))
upper_end-le m e n d m_open n_open e_pos d_pos low opens =
    let order = quotient_order m e n d e_pos d_pos low in
    elim (cases_lt (m / e) (n / d)) [
      | inl less ↦ grind (arith, nat_tests)
      | inr not_less ↦
          let same : m / e ≡ n / d = omega (arith, order.0) in
          elim (cases_eq (n % d) 0) [
            | inl whole ↦
                let both = order.1 same whole in
                let both_open = opens both.1 in
                let m_whole = both.0 in
                grind (arith, nat_tests)
            | inr broken ↦ grind (arith, nat_tests)
          ]
    ]

-- so the interval between two fractions that are not further out lies within
between-IsIntervalWithin : (low_n low_d low_m low_e : ℕ) (low_o low_p : Bool) (high_n high_d high_m high_e : ℕ) (high_o high_p : Bool) (whole part : Bool)
    → 0 < low_d → 0 < low_e → low_n * low_e ≤ low_m * low_d → (low_n * low_e ≡ low_m * low_d → IsTrue low_o → IsTrue low_p) → low_m / low_e ≤ end_max
    → 0 < high_d → 0 < high_e → high_m * high_d ≤ high_n * high_e → (high_m * high_d ≡ high_n * high_e → IsTrue high_o → IsTrue high_p)
    → (IsTrue whole → IsTrue part)
    → IsIntervalWithin (interval_between low_m low_e low_p high_m high_e high_p part) (interval_between low_n low_d low_o high_n high_d high_o whole)
unfolding interval_between
between-IsIntervalWithin low_n low_d low_m low_e low_o low_p high_n high_d high_m high_e high_o high_p whole part ld le low lows unclamped hd he high highs integer =
    IsIntervalWithin-from_places _ _
    (lower_end-le low_n low_d low_m low_e low_o low_p ld le low lows unclamped)
    (upper_end-le high_m high_e high_n high_d high_p high_o he hd high highs)
    integer

-- ---- ends of intervals

open_lower : (a c : Interval) → IsIntervalWithin a c → c.min ≡ a.min → IsTrue c.openmin → IsTrue a.openmin
open_lower a c h same = ⊎_elim (λ (less : c.min < a.min). absurd (omega arith)) (λ (at : (a.min ≡ c.min) × (IsTrue c.openmin → IsTrue a.openmin)). at.1) h.lower

open_upper : (a c : Interval) → IsIntervalWithin a c → a.max ≡ c.max → IsTrue c.openmax → IsTrue a.openmax
open_upper a c h same = ⊎_elim (λ (less : a.max < c.max). absurd (omega arith)) (λ (at : (a.max ≡ c.max) × (IsTrue c.openmax → IsTrue a.openmax)). at.1) h.upper

either : (v w x y : Bool) → (IsTrue v → IsTrue x) → (IsTrue w → IsTrue y) → IsTrue (v || w) → IsTrue (x || y)
either v w x y left right h =
    elim (or_cases v w h) [
      | inl l ↦ or_left x y (left l)
      | inr r ↦ or_right x y (right r)
    ]

both_flags : (v w x y : Bool) → (IsTrue v → IsTrue x) → (IsTrue w → IsTrue y) → IsTrue (v && w) → IsTrue (x && y)
both_flags v w x y left right h = let parts = and_parts v w h in and_from x y (left parts.0) (right parts.1)

-- a product of smaller positive factors is smaller, and strictly where one of them is
mul-order : (x u y v : ℕ) → x ≤ u → y ≤ v → 0 < u → 0 < v → (x * y ≤ u * v) × (x < u → x * y < u * v) × (y < v → x * y < u * v)
mul-order x u y v x_low y_low u_pos v_pos =
    let first : x * y ≤ x * v = mul-le-mul_left x y_low in
    let second : x * v ≤ u * v = mul-le-mul_right v x_low in
    let other : x * y ≤ u * y = mul-le-mul_right y x_low in (
      omega arith,
      λ less. let strict : x * v < u * v = mul-lt-mul_of_pos_right less v_pos in omega arith,
      λ less. let strict : u * y < u * v = mul-lt-mul_of_pos_left less u_pos in omega arith,
    )

mul-pos : (x y : ℕ) → 0 < x → 0 < y → 0 < x * y
mul-pos x y x_pos y_pos = let more : 0 * y < x * y = mul-lt-mul_of_pos_right x_pos y_pos in omega arith

-- so equal products have equal factors
mul-same : (x u y v : ℕ) → x ≤ u → y ≤ v → 0 < u → 0 < v → x * y ≡ u * v → (x ≡ u) × (y ≡ v)
mul-same x u y v x_low y_low u_pos v_pos same =
    let order = mul-order x u y v x_low y_low u_pos v_pos in (
      elim (cases_lt x u) [
        | inl less ↦ absurd (omega (arith, order.1 less))
        | inr not_less ↦ omega arith
      ],
      elim (cases_lt y v) [
        | inl less ↦ absurd (omega (arith, order.2 less))
        | inr not_less ↦ omega arith
      ],
    )

-- the same beside a third factor, however the factors are grouped
mul-order_by : (x u y v k p q : ℕ) → x ≤ u → y ≤ v → 0 < u → 0 < v → 0 < k → p ≡ x * y * k → q ≡ u * v * k
    → (p ≤ q) × (x < u → p < q) × (y < v → p < q) × (p ≡ q → (x ≡ u) × (y ≡ v))
mul-order_by x u y v k p q x_low y_low u_pos v_pos k_pos p_is q_is =
    let order = mul-order x u y v x_low y_low u_pos v_pos in (
      omega (arith, mul-le-mul_right k order.0),
      λ less. let strict : x * y * k < u * v * k = mul-lt-mul_of_pos_right (order.1 less) k_pos in omega arith,
      λ less. let strict : x * y * k < u * v * k = mul-lt-mul_of_pos_right (order.2 less) k_pos in omega arith,
      λ same. let scaled : x * y * k ≡ u * v * k = omega arith in
          mul-same x u y v x_low y_low u_pos v_pos (eq_of_mul-eq-mul_right k k_pos (x * y) (u * v) scaled),
    )

-- an interval within one whose lower end is at least 1, and that is not empty, has positive ends
max-positive : (a : Interval) → IsNonEmpty a → 1 ≤ a.min → 0 < a.max
max-positive a filled min = omega (arith, IsNonEmpty-le a filled, min)

-- ---- smaller intervals give a smaller one, where its lower end was not clamped

-- a times b divided by k, integer as given
abbrev product_by : Interval → Interval → ℕ → Bool → Interval
product_by a b k integer = interval_between (a.min * b.min) k (a.openmin || b.openmin) (a.max * b.max) k (a.openmax || b.openmax) integer

product_by-IsIntervalWithin : (a b c d : Interval) (k : ℕ) (part whole : Bool) → IsNonEmpty a → IsNonEmpty b → IsIntervalWithin a c → IsIntervalWithin b d
    → 1 ≤ c.min → 1 ≤ d.min → 1 ≤ k → a.min * b.min / k ≤ end_max → (IsTrue whole → IsTrue part)
    → IsIntervalWithin (product_by a b k part) (product_by c d k whole)
product_by-IsIntervalWithin a b c d k part whole filled_a filled_b in_c in_d c_min d_min k_min unclamped integer =
    let a_low = IsIntervalWithin-min a c in_c in
    let b_low = IsIntervalWithin-min b d in_d in
    let a_high = IsIntervalWithin-max a c in_c in
    let b_high = IsIntervalWithin-max b d in_d in
    let a_pos : 0 < a.max = max-positive a filled_a (omega arith) in
    let b_pos : 0 < b.max = max-positive b filled_b (omega arith) in
    let low = mul-order_by c.min a.min d.min b.min k (c.min * d.min * k) (a.min * b.min * k) a_low b_low (omega arith) (omega arith) k_min refl refl in
    let high = mul-order_by a.max c.max b.max d.max k (a.max * b.max * k) (c.max * d.max * k) a_high b_high (omega arith) (omega arith) k_min refl refl in
    between-IsIntervalWithin (c.min * d.min) k (a.min * b.min) k (c.openmin || d.openmin) (a.openmin || b.openmin)
    (c.max * d.max) k (a.max * b.max) k (c.openmax || d.openmax) (a.openmax || b.openmax) whole part
    k_min k_min low.0
    (λ same. let ends = low.3 same in either c.openmin d.openmin a.openmin b.openmin (open_lower a c in_c ends.0) (open_lower b d in_d ends.1))
    unclamped
    k_min k_min high.0
    (λ same. let ends = high.3 same in either c.openmax d.openmax a.openmax b.openmax (open_upper a c in_c ends.0) (open_upper b d in_d ends.1))
    integer

pub product_of-IsIntervalWithin : (a b c d : Interval) → IsNonEmpty a → IsNonEmpty b → IsIntervalWithin a c → IsIntervalWithin b d
    → 1 ≤ c.min → 1 ≤ d.min → a.min * b.min ≤ end_max → IsIntervalWithin (product_of a b) (product_of c d)
unfolding product_of
product_of-IsIntervalWithin a b c d filled_a filled_b in_c in_d c_min d_min unclamped =
    product_by-IsIntervalWithin a b c d 1 (a.integer && b.integer) (c.integer && d.integer) filled_a filled_b in_c in_d c_min d_min (omega arith)
    (omega (arith, div-one (a.min * b.min)))
    (both_flags c.integer d.integer a.integer b.integer in_c.integer in_d.integer)

pub scaled_product_of-IsIntervalWithin : (a b c d : Interval) (k : ℕ) → IsNonEmpty a → IsNonEmpty b → IsIntervalWithin a c → IsIntervalWithin b d
    → 1 ≤ c.min → 1 ≤ d.min → 1 ≤ k → a.min * b.min / k ≤ end_max → IsIntervalWithin (scaled_product_of a b k) (scaled_product_of c d k)
unfolding scaled_product_of
scaled_product_of-IsIntervalWithin a b c d k filled_a filled_b in_c in_d c_min d_min k_min unclamped =
    product_by-IsIntervalWithin a b c d k false false filled_a filled_b in_c in_d c_min d_min k_min unclamped (λ h. h)

pub scaled_quotient_of-IsIntervalWithin : (a : Interval) (k : ℕ) (b c d : Interval) → IsNonEmpty a → IsNonEmpty b → IsIntervalWithin a c → IsIntervalWithin b d
    → 1 ≤ c.min → 1 ≤ d.min → 1 ≤ k → a.min * k / b.max ≤ end_max → IsIntervalWithin (scaled_quotient_of a k b) (scaled_quotient_of c k d)
unfolding scaled_quotient_of
scaled_quotient_of-IsIntervalWithin a k b c d filled_a filled_b in_c in_d c_min d_min k_min unclamped =
    let a_low = IsIntervalWithin-min a c in_c in
    let b_low = IsIntervalWithin-min b d in_d in
    let a_high = IsIntervalWithin-max a c in_c in
    let b_high = IsIntervalWithin-max b d in_d in
    let a_pos : 0 < a.max = max-positive a filled_a (omega arith) in
    let b_pos : 0 < b.max = max-positive b filled_b (omega arith) in
    let low = mul-order_by c.min a.min b.max d.max k (c.min * k * b.max) (a.min * k * d.max) a_low b_high (omega arith) (omega arith) k_min
    (omega arith) (omega arith) in
    let high = mul-order_by a.max c.max d.min b.min k (a.max * k * d.min) (c.max * k * b.min) a_high b_low (omega arith) (omega arith) k_min
    (omega arith) (omega arith) in
    between-IsIntervalWithin (c.min * k) d.max (a.min * k) b.max (c.openmin || d.openmax) (a.openmin || b.openmax)
    (c.max * k) d.min (a.max * k) b.min (c.openmax || d.openmin) (a.openmax || b.openmin) false false
    (omega arith) b_pos low.0
    (λ same. let ends = low.3 same in either c.openmin d.openmax a.openmin b.openmax (open_lower a c in_c ends.0) (open_upper b d in_d ends.1))
    unclamped
    d_min (omega arith) high.0
    (λ same. let ends = high.3 same in either c.openmax d.openmin a.openmax b.openmin (open_upper a c in_c ends.0) (open_lower b d in_d ends.1))
    (λ h. h)

-- a quotient is a quotient of a product with 1
quotient_of-scaled : (a b : Interval) → scaled_quotient_of a 1 b ≡ quotient_of a b
unfolding quotient_of scaled_quotient_of
quotient_of-scaled a b = simp mul-one

pub quotient_of-IsIntervalWithin : (a b c d : Interval) → IsNonEmpty a → IsNonEmpty b → IsIntervalWithin a c → IsIntervalWithin b d
    → 1 ≤ c.min → 1 ≤ d.min → a.min / b.max ≤ end_max → IsIntervalWithin (quotient_of a b) (quotient_of c d)
quotient_of-IsIntervalWithin a b c d filled_a filled_b in_c in_d c_min d_min unclamped =
    let uncut_one : a.min * 1 / b.max ≤ end_max = rw mul-one unclamped in
    let scaled = scaled_quotient_of-IsIntervalWithin a 1 b c d filled_a filled_b in_c in_d c_min d_min (omega arith) uncut_one in
    subst (λ (q : Interval). IsIntervalWithin q (quotient_of c d)) (quotient_of-scaled a b)
    (subst (λ (q : Interval). IsIntervalWithin (scaled_quotient_of a 1 b) q) (quotient_of-scaled c d) scaled)

-- ---- fractions of members are members, where they are at most the greatest number

-- a fraction that is not below another is not below its lower end
lower_end-IsMember : (n d m e : ℕ) (is_open : Bool) → 0 < d → 0 < e → n * e ≤ m * d → (IsTrue is_open → n * e < m * d)
    → (lower_end_of n d * e ≤ m) × (IsTrue (lower_is_open n d is_open) → lower_end_of n d * e < m)
lower_end-IsMember n d m e is_open d_pos e_pos low opens =
    let clamped : lower_end_of n d ≤ n / d = omega arith in
    let clamped_scaled : lower_end_of n d * e ≤ n / d * e = mul-le-mul_right e clamped in
    let parts : n / d * d + n % d ≡ n = div-add-mod' n d in
    let scaled : n / d * d * e + n % d * e ≡ n * e = omega (arith, ap (λ (v : ℕ). v * e) parts) in
    let under : n / d * e * d ≤ m * d = omega arith in
    let below : n / d * e ≤ m = le_of_mul-le-mul_right under d_pos in (
      omega arith,
      λ told.
          elim (or_cases is_open (is_broken n d) (and_parts (nat_le (n / d) end_max) (is_open || is_broken n d) told).1) [
            | inl made_open ↦
                let strict : n / d * e * d < m * d = omega (arith, opens made_open) in
                let less : n / d * e < m = lt_of_mul-lt-mul_right d strict in
                omega arith
            | inr broken ↦
                let rest : 0 < n % d = ltb-true 0 (n % d) broken in
                let rest_scaled : 0 * e < n % d * e = mul-lt-mul_of_pos_right rest e_pos in
                let strict : n / d * e * d < m * d = omega arith in
                let less : n / d * e < m = lt_of_mul-lt-mul_right d strict in
                omega arith
          ],
    )

-- what is rounded up is not above the result
rounded_up-le : (n d : ℕ) → 0 < d → (n ≤ rounded_up n d * d) × (IsTrue (is_broken n d) → n < rounded_up n d * d)
rounded_up-le n d d_pos =
    let parts : n / d * d + n % d ≡ n = div-add-mod' n d in
    let rest : n % d < d = mod-lt n d_pos in
    elim (cases_Bool (is_broken n d)) [
      | inl broken ↦
          let up : rounded_up n d ≡ n / d + 1 = cond-true (is_broken n d) (n / d + 1) (n / d) broken in
          let scaled : rounded_up n d * d ≡ (n / d + 1) * d = ap (λ (v : ℕ). v * d) up in
          (omega arith, λ told. omega arith)
      | inr whole ↦
          let none : n % d ≤ 0 = ltb-false 0 (n % d) whole in
          let up : rounded_up n d ≡ n / d = cond-false (is_broken n d) (n / d + 1) (n / d) whole in
          let scaled : rounded_up n d * d ≡ n / d * d = ap (λ (v : ℕ). v * d) up in
          (omega arith, λ told. absurd (both_ways (is_broken n d) whole told))
    ]

-- a fraction that is not above another is not above its upper end, where it is at most the greatest number
upper_end-IsMember : (n d m e : ℕ) (is_open : Bool) → 0 < d → 0 < e → m * d ≤ n * e → (IsTrue is_open → m * d < n * e) → m ≤ end_max * e
    → (m ≤ upper_end_of n d * e) × (IsTrue (upper_is_open n d is_open) → m < upper_end_of n d * e)
upper_end-IsMember n d m e is_open d_pos e_pos high opens low =
    let up = rounded_up-le n d d_pos in
    let scaled : n * e ≤ rounded_up n d * d * e = mul-le-mul_right e up.0 in
    let under : m * d ≤ rounded_up n d * e * d = omega arith in
    let below : m ≤ rounded_up n d * e = le_of_mul-le-mul_right under d_pos in (
      elim (cases_lt end_max (rounded_up n d)) [
        | inl above ↦
            let clamped : upper_end_of n d ≡ end_max = omega arith in
            omega (arith, ap (λ (v : ℕ). v * e) clamped)
        | inr fits ↦
            let unclamped : upper_end_of n d ≡ rounded_up n d = omega arith in
            omega (arith, ap (λ (v : ℕ). v * e) unclamped)
      ],
      λ told.
          let parts = and_parts (nat_le (rounded_up n d) end_max) (is_open || is_broken n d) told in
          let fits : rounded_up n d ≤ end_max = leb-true (rounded_up n d) end_max parts.0 in
          let unclamped : upper_end_of n d ≡ rounded_up n d = omega arith in
          let end_scaled : upper_end_of n d * e ≡ rounded_up n d * e = ap (λ (v : ℕ). v * e) unclamped in
          elim (or_cases is_open (is_broken n d) parts.1) [
            | inl made_open ↦
                let strict : m * d < rounded_up n d * e * d = omega (arith, opens made_open) in
                let less : m < rounded_up n d * e = lt_of_mul-lt-mul_right d strict in
                omega arith
            | inr broken ↦
                let more : n * e < rounded_up n d * d * e = mul-lt-mul_of_pos_right (up.1 broken) e_pos in
                let strict : m * d < rounded_up n d * e * d = omega arith in
                let less : m < rounded_up n d * e = lt_of_mul-lt-mul_right d strict in
                omega arith
          ],
    )

-- so a fraction between two fractions is a member of the interval between them
between-IsMember : (low_n low_d high_n high_d n d : ℕ) (low_o high_o whole : Bool) → 0 < low_d → 0 < high_d → 0 < d
    → low_n * d ≤ n * low_d → (IsTrue low_o → low_n * d < n * low_d) → n * high_d ≤ high_n * d → (IsTrue high_o → n * high_d < high_n * d)
    → n ≤ end_max * d → (IsTrue whole → n % d ≡ 0) → IsMember (interval_between low_n low_d low_o high_n high_d high_o whole) n d
unfolding interval_between
between-IsMember low_n low_d high_n high_d n d low_o high_o whole ld hd pos low lows high highs fits integer =
    let lower = lower_end-IsMember low_n low_d n d low_o ld pos low lows in
    let upper = upper_end-IsMember high_n high_d n d high_o hd pos high highs fits in
    record { positive = pos; lower = lower.0; above = lower.1; upper = upper.0; below = upper.1; whole = integer }

-- a member of an interval whose lower end is at least 1 is positive
IsMember-positive : (a : Interval) (n d : ℕ) → 1 ≤ a.min → IsMember a n d → 0 < n
IsMember-positive a n d min h =
    let scaled : 1 * d ≤ a.min * d = mul-le-mul_right d min in
    omega (arith, h.lower, h.positive)

IsMember-max : (b : Interval) (m e : ℕ) → 0 < m → IsMember b m e → 0 < b.max
IsMember-max b m e positive h =
    elim (cases_eq b.max 0) [
      | inl none ↦ absurd (omega (arith, ap (λ (v : ℕ). v * e) none, h.upper))
      | inr some ↦ omega arith
    ]

-- products of whole numbers are whole
whole-mul : (n d m e : ℕ) → n % d ≡ 0 → m % e ≡ 0 → n * m % (d * e) ≡ 0
whole-mul n d m e left right =
    let n_is : n / d * d ≡ n = omega (arith, div-add-mod' n d) in
    let m_is : m / e * e ≡ m = omega (arith, div-add-mod' m e) in
    let first : n * m ≡ n / d * d * m = ap (λ (v : ℕ). v * m) (sym n_is) in
    let second : n / d * d * m ≡ n / d * d * (m / e * e) = ap (λ (v : ℕ). n / d * d * v) (sym m_is) in
    let product : n * m ≡ n / d * (m / e) * (d * e) = omega arith in
    ap (λ (v : ℕ). v % (d * e)) product ∙ mul-mod_left (n / d * (m / e)) (d * e)

product_by-IsMember : (a b : Interval) (k : ℕ) (whole : Bool) (n d m e : ℕ) → 1 ≤ a.min → 1 ≤ b.min → 1 ≤ k → IsMember a n d → IsMember b m e
    → n * m ≤ end_max * (d * e * k) → (IsTrue whole → n * m % (d * e * k) ≡ 0) → IsMember (product_by a b k whole) (n * m) (d * e * k)
product_by-IsMember a b k whole n d m e a_min b_min k_min in_a in_b fits integer =
    let n_pos = IsMember-positive a n d a_min in_a in
    let m_pos = IsMember-positive b m e b_min in_b in
    let d_pos = in_a.positive in
    let e_pos = in_b.positive in
    let n_high = in_a.upper in
    let m_high = in_b.upper in
    let low = mul-order_by (a.min * d) n (b.min * e) m k (a.min * b.min * (d * e * k)) (n * m * k) in_a.lower in_b.lower n_pos m_pos k_min
    (omega arith) refl in
    let high = mul-order_by n (a.max * d) m (b.max * e) k (n * m * k) (a.max * b.max * (d * e * k)) n_high m_high (omega arith) (omega arith) k_min
    refl (omega arith) in
    between-IsMember (a.min * b.min) k (a.max * b.max) k (n * m) (d * e * k) (a.openmin || b.openmin) (a.openmax || b.openmax) whole k_min k_min
    (mul-pos (d * e) k (mul-pos d e d_pos e_pos) k_min)
    low.0 (λ told. ⊎_elim (λ o. low.1 (in_a.above o)) (λ o. low.2 (in_b.above o)) (or_cases a.openmin b.openmin told))
    high.0 (λ told. ⊎_elim (λ o. high.1 (in_a.below o)) (λ o. high.2 (in_b.below o)) (or_cases a.openmax b.openmax told))
    fits integer

pub product_of-IsMember : (a b : Interval) (n d m e : ℕ) → 1 ≤ a.min → 1 ≤ b.min → IsMember a n d → IsMember b m e
    → n * m ≤ end_max * (d * e) → IsMember (product_of a b) (n * m) (d * e)
unfolding product_of
product_of-IsMember a b n d m e a_min b_min in_a in_b low =
    let one : d * e * 1 ≡ d * e = omega arith in
    let scaled = product_by-IsMember a b 1 (a.integer && b.integer) n d m e a_min b_min (omega arith) in_a in_b (omega arith)
    (λ told. let flags = and_parts a.integer b.integer told in
    ap (λ (v : ℕ). n * m % v) one ∙ whole-mul n d m e (in_a.whole flags.0) (in_b.whole flags.1)) in
    subst (λ (v : ℕ). IsMember (product_by a b 1 (a.integer && b.integer)) (n * m) v) one scaled

pub scaled_product_of-IsMember : (a b : Interval) (k n d m e : ℕ) → 1 ≤ a.min → 1 ≤ b.min → 1 ≤ k → IsMember a n d → IsMember b m e
    → n * m ≤ end_max * (d * e * k) → IsMember (scaled_product_of a b k) (n * m) (d * e * k)
unfolding scaled_product_of
scaled_product_of-IsMember a b k n d m e a_min b_min k_min in_a in_b low = product_by-IsMember a b k false n d m e a_min b_min k_min in_a in_b low (λ no. absurd (false≢true no))

pub scaled_quotient_of-IsMember : (a : Interval) (k : ℕ) (b : Interval) (n d m e : ℕ) → 1 ≤ a.min → 1 ≤ b.min → 1 ≤ k
    → IsMember a n d → IsMember b m e → n * k * e ≤ end_max * (d * m) → IsMember (scaled_quotient_of a k b) (n * k * e) (d * m)
unfolding scaled_quotient_of
scaled_quotient_of-IsMember a k b n d m e a_min b_min k_min in_a in_b low =
    let n_pos = IsMember-positive a n d a_min in_a in
    let m_pos = IsMember-positive b m e b_min in_b in
    let d_pos = in_a.positive in
    let e_pos = in_b.positive in
    let n_high = in_a.upper in
    let m_high = in_b.upper in
    let b_max : 0 < b.max = IsMember-max b m e m_pos in_b in
    let low_side = mul-order_by (a.min * d) n m (b.max * e) k (a.min * k * (d * m)) (n * k * e * b.max) in_a.lower m_high n_pos (omega arith) k_min
    (omega arith) (omega arith) in
    let high_side = mul-order_by n (a.max * d) (b.min * e) m k (n * k * e * b.min) (a.max * k * (d * m)) n_high in_b.lower (omega arith) m_pos k_min
    (omega arith) (omega arith) in
    between-IsMember (a.min * k) b.max (a.max * k) b.min (n * k * e) (d * m) (a.openmin || b.openmax) (a.openmax || b.openmin) false b_max b_min
    (mul-pos d m d_pos m_pos)
    low_side.0 (λ told. ⊎_elim (λ o. low_side.1 (in_a.above o)) (λ o. low_side.2 (in_b.below o)) (or_cases a.openmin b.openmax told))
    high_side.0 (λ told. ⊎_elim (λ o. high_side.1 (in_a.below o)) (λ o. high_side.2 (in_b.above o)) (or_cases a.openmax b.openmin told))
    low (λ no. absurd (false≢true no))

pub quotient_of-IsMember : (a b : Interval) (n d m e : ℕ) → 1 ≤ a.min → 1 ≤ b.min → IsMember a n d → IsMember b m e
    → n * e ≤ end_max * (d * m) → IsMember (quotient_of a b) (n * e) (d * m)
quotient_of-IsMember a b n d m e a_min b_min in_a in_b low =
    let one : n * 1 * e ≡ n * e = omega arith in
    let fits : n * 1 * e ≤ end_max * (d * m) = omega arith in
    let scaled = scaled_quotient_of-IsMember a 1 b n d m e a_min b_min (omega arith) in_a in_b fits in
    subst (λ (q : Interval). IsMember q (n * e) (d * m)) (quotient_of-scaled a b)
    (subst (λ (v : ℕ). IsMember (scaled_quotient_of a 1 b) v (d * m)) one scaled)
