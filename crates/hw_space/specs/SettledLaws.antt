-- Laws of settled boxes: there is one greatest at most, its parts have the normal form, and their ends are far below the
-- greatest number.
use Rattle.std.specs.Prelude.{◌≡◌, ℕ, ◌+◌, ◌*◌, ◌/◌, ◌<◌, ◌≤◌, slice_index_or}
use Rattle.std.proofs.Common.{arith, lit<}
use Rattle.std.proofs.lemmas.Bool.Decides.{nat_tests}
use Rattle.std.proofs.lemmas.Nat.{mul-le}
use Rattle.std.proofs.Math.Nat.{div-le_of_le-mul, div-one}
use Rattle.pcm_interval.specs.declared.interval.Interval.{Interval}
use Rattle.pcm_interval.specs.Intervals.{IsNonEmpty, IsIntervalWithin, IsNormal, refinement}
use Rattle.pcm_interval.specs.IntervalLaws.{IsIntervalWithin-from_same, IsNormal-from_same, IsIntervalWithin-min, IsIntervalWithin-max, IsNonEmpty-le}
use Rattle.pcm_interval.specs.Arithmetic.{end_max, upper_end_of, interval_between, product_of, quotient_of, scaled_product_of, scaled_quotient_of}
use Rattle.pcm_interval.specs.ArithmeticLaws.{product_of-IsIntervalWithin, quotient_of-IsIntervalWithin, scaled_product_of-IsIntervalWithin, scaled_quotient_of-IsIntervalWithin}
use Rattle.hw_space.specs.declared.param_box.ParamBox.{ParamBox}
use Rattle.hw_space.specs.declared.quantity.Quantity.{Quantity}
use Rattle.hw_space.specs.declared.quantity.Quantity.TheVariants.{SampleBits, FrameBits, Channels, Rate, PeriodTime, PeriodSize, PeriodBytes, Periods, BufferTime, BufferSize, BufferBytes}
use Rattle.hw_space.specs.declared.rule.Operation.{Operation}
use Rattle.hw_space.specs.declared.rule.Operation.TheVariants.{Mul, Div, MulDivK, MulKDiv}
use Rattle.hw_space.specs.declared.rule.Rule.{Rule}
use Rattle.hw_space.specs.Boxes.{part, IsBoxWithin}
use Rattle.hw_space.specs.BoxLaws.{IsBoxWithin-antisym}
use Rattle.hw_space.specs.Formats.{bits_of_formats}
use Rattle.hw_space.specs.FormatLaws.{max-bits_of_formats}
use Rattle.hw_space.specs.Rules.{rules, no_rule, computed_by, HasScale}
use Rattle.hw_space.specs.Settled.{IsSettled, IsGreatest, KeepsBox, result_of_rule}
use Rattle.hw_space.specs.Proper.{IsProper}

-- ---- one at most

-- a box has one greatest settled box at most
pub IsGreatest-unique : (b g h : ParamBox) → IsGreatest b g → IsGreatest b h → g ≡ h
IsGreatest-unique b g h one other =
    IsBoxWithin-antisym g h (other.greatest g one.settled one.within) (one.greatest h other.settled other.within)

-- ---- parts of a settled box

-- the rule at a place of the table changes nothing
by_rule : (s : ParamBox) → IsSettled s → (k : ℕ) → k < 18 → KeepsBox s (slice_index_or rules k no_rule)
by_rule s h k below = h.by_rules k no_rule below

-- each part is the target of a rule that changes nothing
data IsTarget (s : ParamBox) (q : Quantity) : Type 0 where
  target : (x : Interval) → refinement (part s q) x ≡ part s q → IsTarget s q

targets : (s : ParamBox) → IsSettled s → (q : Quantity) → IsTarget s q
targets s h SampleBits = target _ (by_rule s h 1 (lit< tt))
targets s h FrameBits = target _ (by_rule s h 0 (lit< tt))
targets s h Channels = target _ (by_rule s h 2 (lit< tt))
targets s h Rate = target _ (by_rule s h 14 (lit< tt))
targets s h PeriodTime = target _ (by_rule s h 12 (lit< tt))
targets s h PeriodSize = target _ (by_rule s h 4 (lit< tt))
targets s h PeriodBytes = target _ (by_rule s h 6 (lit< tt))
targets s h Periods = target _ (by_rule s h 5 (lit< tt))
targets s h BufferTime = target _ (by_rule s h 15 (lit< tt))
targets s h BufferSize = target _ (by_rule s h 3 (lit< tt))
targets s h BufferBytes = target _ (by_rule s h 9 (lit< tt))

IsTarget-IsNormal : (s : ParamBox) (q : Quantity) → IsNonEmpty (part s q) → IsTarget s q → IsNormal (part s q)
IsTarget-IsNormal s q filled (target x same) = IsNormal-from_same (part s q) x filled same

-- so each part has the normal form
pub IsSettled-IsNormal : (s : ParamBox) → IsSettled s → (q : Quantity) → IsNormal (part s q)
IsSettled-IsNormal s h q = IsTarget-IsNormal s q (h.parts q) (targets s h q)

-- ---- the ends of a settled box

upper-end : (n d m : ℕ) → n ≤ d * m → upper_end_of n d ≤ m + 1
upper-end n d m low = let whole : n / d ≤ m = div-le_of_le-mul d low in grind (arith, nat_tests)

max-product_of : (a b : Interval) (m : ℕ) → a.max * b.max ≤ m → (product_of a b).max ≤ m + 1
unfolding product_of interval_between
max-product_of a b m low = upper-end (a.max * b.max) 1 m (omega arith)

max-scaled_product_of : (a b : Interval) (k m : ℕ) → a.max * b.max ≤ k * m → (scaled_product_of a b k).max ≤ m + 1
unfolding scaled_product_of interval_between
max-scaled_product_of a b k m low = upper-end (a.max * b.max) k m low

max-scaled_quotient_of : (a : Interval) (k : ℕ) (b : Interval) (m : ℕ) → a.max * k ≤ b.min * m → (scaled_quotient_of a k b).max ≤ m + 1
unfolding scaled_quotient_of interval_between
max-scaled_quotient_of a k b m low = upper-end (a.max * k) b.min m low

-- smaller intervals give a smaller one, where its lower end is below the greatest number
computed_by-IsIntervalWithin : (o : Operation) (a b c d : Interval) → HasScale o → IsNonEmpty a → IsNonEmpty b → IsIntervalWithin a c → IsIntervalWithin b d
    → 1 ≤ c.min → 1 ≤ d.min → (computed_by o a b).min < end_max → IsIntervalWithin (computed_by o a b) (computed_by o c d)
unfolding product_of quotient_of scaled_product_of scaled_quotient_of interval_between
computed_by-IsIntervalWithin Mul a b c d scale filled_a filled_b in_c in_d c_min d_min uncut =
    product_of-IsIntervalWithin a b c d filled_a filled_b in_c in_d c_min d_min (omega (arith, div-one (a.min * b.min)))
computed_by-IsIntervalWithin Div a b c d scale filled_a filled_b in_c in_d c_min d_min uncut =
    quotient_of-IsIntervalWithin a b c d filled_a filled_b in_c in_d c_min d_min (omega arith)
computed_by-IsIntervalWithin (MulDivK k) a b c d scale filled_a filled_b in_c in_d c_min d_min uncut =
    scaled_product_of-IsIntervalWithin a b c d k filled_a filled_b in_c in_d c_min d_min scale (omega arith)
computed_by-IsIntervalWithin (MulKDiv k) a b c d scale filled_a filled_b in_c in_d c_min d_min uncut =
    scaled_quotient_of-IsIntervalWithin a k b c d filled_a filled_b in_c in_d c_min d_min scale (omega arith)

module _ (s b : ParamBox) (settled : IsSettled s) (within : IsBoxWithin s b) (proper : IsProper b) where
  -- what a rule computes bounds its target
  max-target : (r : Rule) (m : ℕ) → KeepsBox s r → (result_of_rule r s).max ≤ m → (part s r.target).max ≤ m
  max-target r m same low = omega (arith, low, IsIntervalWithin-max (part s r.target) (result_of_rule r s) (IsIntervalWithin-from_same (part s r.target) (result_of_rule r s) same))

  max-sample_bits : s.sample_bits.max ≤ 16
  max-sample_bits =
      omega (arith, max-bits_of_formats s.format, IsIntervalWithin-max s.sample_bits (bits_of_formats s.format) (IsIntervalWithin-from_same s.sample_bits (bits_of_formats s.format) settled.by_formats))

  max-channels : s.channels.max ≤ 8
  max-channels = omega (arith, proper.channels, IsIntervalWithin-max s.channels b.channels (within.parts Channels))

  max-period_size : s.period_size.max ≤ 8192
  max-period_size = omega (arith, proper.period_size, IsIntervalWithin-max s.period_size b.period_size (within.parts PeriodSize))

  max-periods : s.periods.max ≤ 1024
  max-periods = omega (arith, proper.periods, IsIntervalWithin-max s.periods b.periods (within.parts Periods))

  max-buffer_size : s.buffer_size.max ≤ 16384
  max-buffer_size = omega (arith, proper.buffer_size, IsIntervalWithin-max s.buffer_size b.buffer_size (within.parts BufferSize))

  max-rate : s.rate.max ≤ 192000
  max-rate = omega (arith, proper.fastest, IsIntervalWithin-max s.rate b.rate (within.parts Rate))

  min-rate : 4000 ≤ s.rate.min
  min-rate = omega (arith, proper.slowest, IsIntervalWithin-min s.rate b.rate (within.parts Rate))

  max-frame_bits : s.frame_bits.max ≤ 129
  max-frame_bits =
      max-target (slice_index_or rules 0 no_rule) 129 (by_rule s settled 0 (lit< tt))
      (max-product_of s.sample_bits s.channels 128 (mul-le s.sample_bits.max s.channels.max 16 8 max-sample_bits max-channels))

  max-period_bytes : s.period_bytes.max ≤ 1056769
  max-period_bytes =
      max-target (slice_index_or rules 6 no_rule) 1056769 (by_rule s settled 6 (lit< tt))
      (max-scaled_product_of s.period_size s.frame_bits 8 1056768
      (omega (arith, mul-le s.period_size.max s.frame_bits.max 8192 129 max-period_size max-frame_bits)))

  max-buffer_bytes : s.buffer_bytes.max ≤ 2113537
  max-buffer_bytes =
      max-target (slice_index_or rules 9 no_rule) 2113537 (by_rule s settled 9 (lit< tt))
      (max-scaled_product_of s.buffer_size s.frame_bits 8 2113536
      (omega (arith, mul-le s.buffer_size.max s.frame_bits.max 16384 129 max-buffer_size max-frame_bits)))

  max-period_time : s.period_time.max ≤ 2048001
  max-period_time =
      max-target (slice_index_or rules 12 no_rule) 2048001 (by_rule s settled 12 (lit< tt))
      (max-scaled_quotient_of s.period_size 1000000 s.rate 2048000 (omega (arith, max-period_size, min-rate)))

  max-buffer_time : s.buffer_time.max ≤ 4096001
  max-buffer_time =
      max-target (slice_index_or rules 15 no_rule) 4096001 (by_rule s settled 15 (lit< tt))
      (max-scaled_quotient_of s.buffer_size 1000000 s.rate 4096000 (omega (arith, max-buffer_size, min-rate)))

  -- no end of a settled box within a proper one reaches the greatest number
  pub IsSettled-max : (q : Quantity) → (part s q).max < end_max
  IsSettled-max SampleBits = omega (arith, max-sample_bits)
  IsSettled-max FrameBits = omega (arith, max-frame_bits)
  IsSettled-max Channels = omega (arith, max-channels)
  IsSettled-max Rate = omega (arith, max-rate)
  IsSettled-max PeriodTime = omega (arith, max-period_time)
  IsSettled-max PeriodSize = omega (arith, max-period_size)
  IsSettled-max PeriodBytes = omega (arith, max-period_bytes)
  IsSettled-max Periods = omega (arith, max-periods)
  IsSettled-max BufferTime = omega (arith, max-buffer_time)
  IsSettled-max BufferSize = omega (arith, max-buffer_size)
  IsSettled-max BufferBytes = omega (arith, max-buffer_bytes)

  -- ---- a rule computes less from a settled box within a proper one

  min-target : (r : Rule) → KeepsBox s r → (result_of_rule r s).min < end_max
  min-target r same =
      let high = IsSettled-max r.target in
      let low = IsIntervalWithin-min (part s r.target) (result_of_rule r s) (IsIntervalWithin-from_same (part s r.target) (result_of_rule r s) same) in
      let order = IsNonEmpty-le (part s r.target) (settled.parts r.target) in
      omega (arith, high, low, order)

  pub computed-IsIntervalWithin : (r : Rule) → HasScale r.operation → KeepsBox s r → IsIntervalWithin (result_of_rule r s) (result_of_rule r b)
  computed-IsIntervalWithin r scale same =
      computed_by-IsIntervalWithin r.operation (part s r.first) (part s r.second) (part b r.first) (part b r.second) scale
      (settled.parts r.first) (settled.parts r.second) (within.parts r.first) (within.parts r.second)
      (proper.positive r.first) (proper.positive r.second) (min-target r same)
