-- Boxes with one parameter narrowed.
use Rattle.std.specs.Prelude.{◌≡◌, ℕ, ◌+◌, ◌-◌, ◌<◌, false, true, if◌then◌else◌, nat_le, Option, Some, None}
use Rattle.pcm_interval.specs.declared.interval.Interval.{Interval}
use Rattle.pcm_interval.specs.declared.mask.Mask.{Mask}
use Rattle.pcm_interval.specs.Arithmetic.{end_max}
use Rattle.pcm_interval.specs.Intervals.{refinement}
use Rattle.pcm_interval.specs.Masks.{common_mask}
use Rattle.hw_space.specs.declared.param.Param.{Param}
use Rattle.hw_space.specs.declared.param.ParamKind.{ParamKind}
use Rattle.hw_space.specs.declared.param.ParamKind.TheVariants.{Access, Format, Number}
use Rattle.hw_space.specs.declared.param_box.ParamBox.{ParamBox}
use Rattle.hw_space.specs.declared.quantity.Quantity.{Quantity}
use Rattle.hw_space.specs.Boxes.{part, with_part}
use Rattle.hw_space.specs.Params.{kind_of}
use Rattle.hw_space.specs.Settled.{Leaves}
use Rattle.hw_space.specs.Widest.{from_to, whole_from_to, mask_of_one}

-- ---- what a quantity is narrowed with

-- one number
abbrev pub point : ℕ → Interval
point n = from_to n n

-- the numbers from one up
abbrev pub at_least : ℕ → Interval
at_least n = from_to n end_max

-- the numbers up to one
abbrev pub at_most : ℕ → Interval
at_most n = from_to 0 n

-- the whole numbers
abbrev pub whole_numbers : Interval
whole_numbers = whole_from_to 0 end_max

-- the fractions between two numbers
abbrev pub between_ends : ℕ → ℕ → Interval
between_ends least most = record {
  min = least;
  max = most;
  openmin = true;
  openmax = true;
  integer = false;
}

-- the least end of an interval: the point if it is closed, else what is above it, up to the next number
abbrev pub least_end : Interval → Interval
least_end i = if i.openmin then between_ends i.min (i.min + 1) else point i.min

-- the greatest end
abbrev pub greatest_end : Interval → Interval
greatest_end i = if i.openmax then between_ends (i.max - 1) i.max else point i.max

-- ---- narrowed boxes

-- a quantity is refined with an interval
abbrev pub with_refined : ParamBox → Quantity → Interval → ParamBox
with_refined b q i = with_part b q (refinement (part b q) i)

-- the access, or the format, has one number at most
abbrev pub with_access : ParamBox → ℕ → ParamBox
with_access b n = record b { access = common_mask b.access (mask_of_one n) }

abbrev pub with_format : ParamBox → ℕ → ParamBox
with_format b n = record b { format = common_mask b.format (mask_of_one n) }

-- a parameter with an interval is refined with one that is made of it. Other parameters stay
abbrev pub narrowed_by : (Interval → Interval) → ParamBox → ParamKind → ParamBox
narrowed_by f b (Number q) = with_refined b q (f (part b q))
narrowed_by f b Access = b
narrowed_by f b Format = b

-- a parameter has one value
abbrev pub with_kind_value : ParamBox → ParamKind → ℕ → ParamBox
with_kind_value b (Number q) n = with_refined b q (point n)
with_kind_value b Access n = with_access b n
with_kind_value b Format n = with_format b n

abbrev pub with_value : ParamBox → Param → ℕ → ParamBox
with_value b p n = with_kind_value b (kind_of p) n

-- a parameter is at least, or at most, a number
abbrev pub with_min : ParamBox → Param → ℕ → ParamBox
with_min b p n = narrowed_by (λ i. at_least n) b (kind_of p)

abbrev pub with_max : ParamBox → Param → ℕ → ParamBox
with_max b p n = narrowed_by (λ i. at_most n) b (kind_of p)

-- a parameter is a whole number
abbrev pub with_integer : ParamBox → Param → ParamBox
with_integer b p = narrowed_by (λ i. whole_numbers) b (kind_of p)

-- a parameter is at its least, or at its greatest end
abbrev pub with_first : ParamBox → Param → ParamBox
with_first b p = narrowed_by least_end b (kind_of p)

abbrev pub with_last : ParamBox → Param → ParamBox
with_last b p = narrowed_by greatest_end b (kind_of p)

-- the value of a parameter can be in its mask
abbrev pub FitsKind : ParamKind → ℕ → Type 0
FitsKind (Number q) n = Unit {0}
FitsKind Access n = n < 64
FitsKind Format n = n < 64

abbrev pub FitsParam : Param → ℕ → Type 0
FitsParam p n = FitsKind (kind_of p) n

-- ---- the end that is nearest to a number

abbrev pub distance : ℕ → ℕ → ℕ
distance a b = (a - b) + (b - a)

-- the box at the nearer of two ends: the greatest end of one box, or the least end of another. At equal distance it is
-- the lower
abbrev pub nearest : Quantity → ℕ → Option ParamBox → Option ParamBox → Option ParamBox
nearest q n (Some low) (Some high) =
    Some (if nat_le (distance (part low q).max n) (distance (part high q).min n)
    then with_refined low q (greatest_end (part low q))
    else with_refined high q (least_end (part high q)))
nearest q n (Some low) None = Some (with_refined low q (greatest_end (part low q)))
nearest q n None (Some high) = Some (with_refined high q (least_end (part high q)))
nearest q n None None = None

-- what refinement leaves of a box, if there is one
abbrev pub LeavesOf : Option ParamBox → Option ParamBox → Type 0
LeavesOf (Some b) o = Leaves b o
LeavesOf None o = o ≡ None

-- what is left of a box at the end of a quantity that is nearest to a number: of what is left with the quantity at most
-- the number, and of what is left with it at least the number
pub record IsNear (b : ParamBox) (q : Quantity) (n : ℕ) (o : Option ParamBox) : Type 0 where
  pub low : Option ParamBox
  pub high : Option ParamBox
  pub below : Leaves (with_refined b q (at_most n)) low
  pub above : Leaves (with_refined b q (at_least n)) high
  pub left : LeavesOf (nearest q n low high) o

abbrev pub IsNearKind : ParamBox → ParamKind → ℕ → Option ParamBox → Type 0
IsNearKind b (Number q) n o = IsNear b q n o
IsNearKind b Access n o = ⊥
IsNearKind b Format n o = ⊥

-- the same for a parameter with an interval
abbrev pub LeavesNear : ParamBox → Param → ℕ → Option ParamBox → Type 0
LeavesNear b p n o = IsNearKind b (kind_of p) n o

-- ---- what a space shows

abbrev pub kind_interval : ParamBox → ParamKind → Option Interval
kind_interval b (Number q) = Some (part b q)
kind_interval b Access = None
kind_interval b Format = None

-- the interval of a parameter that has one
abbrev pub interval_of : ParamBox → Param → Option Interval
interval_of b p = kind_interval b (kind_of p)

abbrev pub kind_mask : ParamBox → ParamKind → Option Mask
kind_mask b (Number q) = None
kind_mask b Access = Some b.access
kind_mask b Format = Some b.format

-- the mask of a parameter that has one
abbrev pub mask_of : ParamBox → Param → Option Mask
mask_of b p = kind_mask b (kind_of p)
