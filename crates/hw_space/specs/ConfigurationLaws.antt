-- Laws of configurations: what a rule computes holds the exact number.
use Rattle.std.specs.Prelude.{◌≡◌, ℕ, ◌*◌, ◌/◌, ◌<◌, ◌≤◌}
use Rattle.std.proofs.Common.{arith, ap}
use Rattle.std.proofs.Math.Nat.{le_of_mul-le-mul_right, lt_of_mul-lt-mul_right, eq_of_mul-eq-mul_right, mul-mod_left, mul-le-mul_right, mul-lt-mul_of_pos_right}
use Rattle.pcm_interval.specs.declared.interval.Interval.{Interval}
use Rattle.pcm_interval.specs.Intervals.{IsMember}
use Rattle.pcm_interval.specs.Arithmetic.{end_max, product_of, quotient_of, scaled_product_of, scaled_quotient_of}
use Rattle.pcm_interval.specs.ArithmeticLaws.{product_of-IsMember, quotient_of-IsMember, scaled_product_of-IsMember, scaled_quotient_of-IsMember}
use Rattle.hw_space.specs.declared.param_box.ParamBox.{ParamBox}
use Rattle.hw_space.specs.declared.rule.Operation.{Operation}
use Rattle.hw_space.specs.declared.rule.Operation.TheVariants.{Mul, Div, MulDivK, MulKDiv}
use Rattle.hw_space.specs.declared.rule.Rule.{Rule}
use Rattle.hw_space.specs.Boxes.{part}
use Rattle.hw_space.specs.Rules.{computed_by, HasScale}
use Rattle.hw_space.specs.Settled.{Fraction, Configuration, IsResult, LiesInBox, result_of_rule}
use Rattle.hw_space.specs.Proper.{IsProper}

-- equal fractions are members alike
IsMember-equal : (i : Interval) (n d m e : ℕ) → IsMember i n d → 0 < e → m * d ≡ n * e → IsMember i m e
IsMember-equal i n d m e h positive same = record {
  positive = positive;
  lower =
      let scaled : i.min * d * e ≤ n * e = mul-le-mul_right e h.lower in
      let low : i.min * e * d ≤ m * d = omega arith in le_of_mul-le-mul_right low h.positive;
  above = λ is_open.
      let scaled : i.min * d * e < n * e = mul-lt-mul_of_pos_right (h.above is_open) positive in
      let low : i.min * e * d < m * d = omega arith in lt_of_mul-lt-mul_right d low;
  upper =
      let scaled : n * e ≤ i.max * d * e = mul-le-mul_right e h.upper in
      let high : m * d ≤ i.max * e * d = omega arith in le_of_mul-le-mul_right high h.positive;
  below = λ is_open.
      let scaled : n * e < i.max * d * e = mul-lt-mul_of_pos_right (h.below is_open) positive in
      let high : m * d < i.max * e * d = omega arith in lt_of_mul-lt-mul_right d high;
  whole = λ is_integer.
      let parts : n ≡ d * (n / d) = omega (arith, h.whole is_integer, h.positive) in
      let scaled : n * e ≡ d * (n / d) * e = ap (λ w. w * e) parts in
      let equal : m * d ≡ n / d * e * d = omega arith in
      let value : m ≡ n / d * e = eq_of_mul-eq-mul_right d h.positive m (n / d * e) equal in
      rw value (mul-mod_left (n / d) e);
}

-- a fraction that equals one below the greatest number is below it
below_greatest : (n d m e : ℕ) → m ≤ end_max * e → 0 < e → m * d ≡ n * e → n ≤ end_max * d
below_greatest n d m e low positive same =
    let scaled : m * d ≤ end_max * e * d = mul-le-mul_right d low in
    let high : n * e ≤ end_max * d * e = omega arith in
    le_of_mul-le-mul_right high positive

-- a member of an interval is at most the greatest number
below_end : (i : Interval) (z : Fraction) → i.max ≤ end_max → IsMember i z.over z.under → z.over ≤ end_max * z.under
below_end i z capped h = let high : i.max * z.under ≤ end_max * z.under = mul-le-mul_right z.under capped in omega (arith, h.upper, high)

-- what an operation computes holds the exact result
computed_by-IsMember : (o : Operation) (a b c : Interval) (x y z : Fraction) → HasScale o → 1 ≤ a.min → 1 ≤ b.min → c.max ≤ end_max
    → IsMember a x.over x.under → IsMember b y.over y.under → IsMember c z.over z.under → IsResult o x y z
    → IsMember (computed_by o a b) z.over z.under
computed_by-IsMember Mul a b c x y z scale a_min b_min capped in_a in_b in_c exact =
    let low : z.over ≤ end_max * z.under = below_end c z capped in_c in
    IsMember-equal (product_of a b) (x.over * y.over) (x.under * y.under) z.over z.under
    (product_of-IsMember a b x.over x.under y.over y.under a_min b_min in_a in_b
    (below_greatest (x.over * y.over) (x.under * y.under) z.over z.under low in_c.positive exact))
    in_c.positive exact
computed_by-IsMember Div a b c x y z scale a_min b_min capped in_a in_b in_c exact =
    let low : z.over ≤ end_max * z.under = below_end c z capped in_c in
    IsMember-equal (quotient_of a b) (x.over * y.under) (x.under * y.over) z.over z.under
    (quotient_of-IsMember a b x.over x.under y.over y.under a_min b_min in_a in_b
    (below_greatest (x.over * y.under) (x.under * y.over) z.over z.under low in_c.positive exact))
    in_c.positive exact
computed_by-IsMember (MulDivK k) a b c x y z scale a_min b_min capped in_a in_b in_c exact =
    let low : z.over ≤ end_max * z.under = below_end c z capped in_c in
    IsMember-equal (scaled_product_of a b k) (x.over * y.over) (x.under * y.under * k) z.over z.under
    (scaled_product_of-IsMember a b k x.over x.under y.over y.under a_min b_min scale in_a in_b
    (below_greatest (x.over * y.over) (x.under * y.under * k) z.over z.under low in_c.positive exact))
    in_c.positive exact
computed_by-IsMember (MulKDiv k) a b c x y z scale a_min b_min capped in_a in_b in_c exact =
    let low : z.over ≤ end_max * z.under = below_end c z capped in_c in
    IsMember-equal (scaled_quotient_of a k b) (x.over * k * y.under) (x.under * y.over) z.over z.under
    (scaled_quotient_of-IsMember a k b x.over x.under y.over y.under a_min b_min scale in_a in_b
    (below_greatest (x.over * k * y.under) (x.under * y.over) z.over z.under low in_c.positive exact))
    in_c.positive exact

-- so what a rule computes from a box holds the number of its target, where the box holds the configuration
pub computed-IsMember : (b : ParamBox) (r : Rule) (x : Configuration) → IsProper b → HasScale r.operation → LiesInBox b x
    → IsResult r.operation (x.value r.first) (x.value r.second) (x.value r.target)
    → IsMember (result_of_rule r b) (x.value r.target).over (x.value r.target).under
computed-IsMember b r x proper scale held exact =
    computed_by-IsMember r.operation (part b r.first) (part b r.second) (part b r.target) (x.value r.first) (x.value r.second) (x.value r.target)
    scale (proper.positive r.first) (proper.positive r.second) (proper.capped r.target)
    (held.parts r.first) (held.parts r.second) (held.parts r.target) exact
