-- The rules that tie the quantities of a configuration to one another.
use Rattle.std.specs.Prelude.{◌≡◌, ℕ, ◌<◌, ◌≤◌, List, [], ◌∷◌, slice_index_or}
use Rattle.pcm_interval.specs.declared.interval.Interval.{Interval}
use Rattle.pcm_interval.specs.Arithmetic.{product_of, quotient_of, scaled_product_of, scaled_quotient_of}
use Rattle.hw_space.specs.declared.quantity.Quantity.{Quantity}
use Rattle.hw_space.specs.declared.quantity.Quantity.TheVariants.{SampleBits, FrameBits, Channels, Rate, PeriodTime, PeriodSize, PeriodBytes, Periods, BufferTime, BufferSize, BufferBytes}
use Rattle.hw_space.specs.declared.rule.Operation.{Operation}
use Rattle.hw_space.specs.declared.rule.Operation.TheVariants.{Mul, Div, MulDivK, MulKDiv}
use Rattle.hw_space.specs.declared.rule.Rule.{Rule}

-- a rule: a quantity, and how it follows from two others
abbrev pub rule_for : Quantity → Operation → Quantity → Quantity → Rule
rule_for target operation first second = record {
  target = target;
  operation = operation;
  first = first;
  second = second;
}

-- the rules; times are in microseconds
abbrev pub rules : List Rule
rules =
    rule_for FrameBits Mul SampleBits Channels
    ∷ rule_for SampleBits Div FrameBits Channels
    ∷ rule_for Channels Div FrameBits SampleBits
    ∷ rule_for BufferSize Mul PeriodSize Periods
    ∷ rule_for PeriodSize Div BufferSize Periods
    ∷ rule_for Periods Div BufferSize PeriodSize
    ∷ rule_for PeriodBytes (MulDivK 8) PeriodSize FrameBits
    ∷ rule_for PeriodSize (MulKDiv 8) PeriodBytes FrameBits
    ∷ rule_for FrameBits (MulKDiv 8) PeriodBytes PeriodSize
    ∷ rule_for BufferBytes (MulDivK 8) BufferSize FrameBits
    ∷ rule_for BufferSize (MulKDiv 8) BufferBytes FrameBits
    ∷ rule_for FrameBits (MulKDiv 8) BufferBytes BufferSize
    ∷ rule_for PeriodTime (MulKDiv 1000000) PeriodSize Rate
    ∷ rule_for PeriodSize (MulDivK 1000000) PeriodTime Rate
    ∷ rule_for Rate (MulKDiv 1000000) PeriodSize PeriodTime
    ∷ rule_for BufferTime (MulKDiv 1000000) BufferSize Rate
    ∷ rule_for BufferSize (MulDivK 1000000) BufferTime Rate
    ∷ rule_for Rate (MulKDiv 1000000) BufferSize BufferTime
    ∷ []

-- what the intervals of two quantities leave for a third
abbrev pub computed_by : Operation → Interval → Interval → Interval
computed_by Mul a b = product_of a b
computed_by Div a b = quotient_of a b
computed_by (MulDivK k) a b = scaled_product_of a b k
computed_by (MulKDiv k) a b = scaled_quotient_of a k b

-- the number of an operation, if it has one, is at least 1
abbrev pub HasScale : Operation → Type 0
HasScale (MulDivK k) = 1 ≤ k
HasScale (MulKDiv k) = 1 ≤ k
HasScale other = Unit {0}

-- any rule, where one is asked for past the end of the table
abbrev pub no_rule : Rule
no_rule = rule_for SampleBits Mul SampleBits SampleBits

-- a rule is one of the table
pub record IsListed (r : Rule) : Type 0 where
  pub place : ℕ
  pub below : place < 18
  pub found : slice_index_or rules place no_rule ≡ r
