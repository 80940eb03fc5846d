-- Settled boxes, the greatest of them, and the configurations that a box holds.
use Rattle.std.specs.Prelude.{◌≡◌, ◌≢◌, ℕ, ◌*◌, ◌<◌, All, Option, Some, None, Result, Ok, Err}
use Rattle.pcm_interval.specs.declared.empty.Empty.{Empty}
use Rattle.pcm_interval.specs.declared.interval.Interval.{Interval}
use Rattle.pcm_interval.specs.Intervals.{IsNonEmpty, IsMember, refinement}
use Rattle.pcm_interval.specs.Masks.{HasNumber, common_mask}
use Rattle.hw_space.specs.declared.param_box.ParamBox.{ParamBox}
use Rattle.hw_space.specs.declared.quantity.Quantity.{Quantity}
use Rattle.hw_space.specs.declared.quantity.Quantity.TheVariants.{SampleBits}
use Rattle.hw_space.specs.declared.rule.Operation.{Operation}
use Rattle.hw_space.specs.declared.rule.Operation.TheVariants.{Mul, Div, MulDivK, MulKDiv}
use Rattle.hw_space.specs.declared.rule.Rule.{Rule}
use Rattle.hw_space.specs.Boxes.{part, IsBoxWithin}
use Rattle.hw_space.specs.Formats.{bits_of_format, bits_of_formats, formats_of_bits}
use Rattle.hw_space.specs.Rules.{rules, computed_by}

-- ---- settled boxes

-- what a rule computes from a box
abbrev pub result_of_rule : Rule → ParamBox → Interval
result_of_rule r b = computed_by r.operation (part b r.first) (part b r.second)

-- a rule changes nothing of a box
abbrev pub KeepsBox : ParamBox → Rule → Type 0
KeepsBox b r = refinement (part b r.target) (result_of_rule r b) ≡ part b r.target

-- no part of a box is empty, and refining any part by its rules changes nothing
pub record IsSettled (b : ParamBox) : Type 0 where
  pub access : b.access.bits ≢ 0
  pub format : b.format.bits ≢ 0
  pub parts : (q : Quantity) → IsNonEmpty (part b q)
  pub by_rules : All (KeepsBox b) rules
  pub by_formats : refinement b.sample_bits (bits_of_formats b.format) ≡ b.sample_bits
  pub by_sample_bits : common_mask b.format (formats_of_bits b.sample_bits) ≡ b.format

-- the greatest settled box within a box: every other settled box within it lies within that one
pub record IsGreatest (b g : ParamBox) : Type 0 where
  pub settled : IsSettled g
  pub within : IsBoxWithin g b
  pub greatest : (s : ParamBox) → IsSettled s → IsBoxWithin s b → IsBoxWithin s g

-- no settled box lies within a box
abbrev pub HasNoSettled : ParamBox → Type 0
HasNoSettled b = (s : ParamBox) → IsSettled s → ¬ IsBoxWithin s b

-- ---- configurations

-- a number, as a fraction
pub record Fraction : Type 0 where
  pub over : ℕ
  pub under : ℕ

-- a number for each parameter
pub record Configuration : Type 0 where
  pub access : ℕ
  pub format : ℕ
  pub value : Quantity → Fraction

-- a number is exactly what an operation gives at two others
abbrev pub IsResult : Operation → Fraction → Fraction → Fraction → Type 0
IsResult Mul a b c = c.over * (a.under * b.under) ≡ a.over * b.over * c.under
IsResult Div a b c = c.over * (a.under * b.over) ≡ a.over * b.under * c.under
IsResult (MulDivK k) a b c = c.over * (a.under * b.under * k) ≡ a.over * b.over * c.under
IsResult (MulKDiv k) a b c = c.over * (a.under * b.over) ≡ a.over * k * b.under * c.under

-- the numbers of a configuration meet each rule exactly
pub record IsExact (x : Configuration) : Type 0 where
  pub format : x.format < 4
  pub sample_bits : (x.value SampleBits).over ≡ bits_of_format x.format * (x.value SampleBits).under
  pub by_rules : All (λ r. IsResult r.operation (x.value r.first) (x.value r.second) (x.value r.target)) rules

-- each number of a configuration lies in its part of a box
pub record LiesInBox (b : ParamBox) (x : Configuration) : Type 0 where
  pub access : HasNumber b.access x.access
  pub format : HasNumber b.format x.format
  pub parts : (q : Quantity) → IsMember (part b q) (x.value q).over (x.value q).under

-- every configuration that one box holds is held by another
abbrev pub KeepsConfigurations : ParamBox → ParamBox → Type 0
KeepsConfigurations b g = (x : Configuration) → IsExact x → LiesInBox b x → LiesInBox g x

-- a box holds no configuration
abbrev pub HoldsNoConfiguration : ParamBox → Type 0
HoldsNoConfiguration b = (x : Configuration) → IsExact x → ¬ LiesInBox b x

-- ---- what refinement leaves

-- the greatest settled box within a box, which holds every configuration that the box held
pub record IsLeft (b g : ParamBox) : Type 0 where
  pub greatest : IsGreatest b g
  pub configurations : KeepsConfigurations b g

-- no settled box lies within a box, and it holds no configuration
pub record IsVoid (b : ParamBox) : Type 0 where
  pub settled : HasNoSettled b
  pub configurations : HoldsNoConfiguration b

-- what refinement leaves of a box, if it leaves anything
abbrev pub Leaves : ParamBox → Option ParamBox → Type 0
Leaves b (Some g) = IsLeft b g
Leaves b None = IsVoid b

-- the space after a call, unless it answered that it is empty
abbrev pub space_left : {T : Type 0} → Result T Empty → ParamBox → Option ParamBox
space_left (Ok x) b = Some b
space_left (Err e) b = None
