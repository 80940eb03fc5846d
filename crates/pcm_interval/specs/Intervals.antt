-- Intervals: which are empty, which lies within which, and what a refinement leaves.
use Rattle.std.specs.Prelude.{◌≡◌, ℕ, ◌+◌, ◌-◌, ◌*◌, ◌%◌, ◌<◌, ◌≤◌, ◌⊎◌, min, max, Bool, false, not, ◌&&◌, ◌||◌, ◌==◌, nat_lt, if◌then◌else◌, IsTrue, IsFalse}
use Rattle.pcm_interval.specs.declared.interval.Interval.{Interval}

-- an interval is empty where its ends are in the wrong order, or are one number and a side is open
abbrev pub is_empty : Interval → Bool
is_empty i = nat_lt i.max i.min || (i.min == i.max && (i.openmin || i.openmax))

abbrev pub IsEmpty : Interval → Type 0
IsEmpty i = IsTrue (is_empty i)

abbrev pub IsNonEmpty : Interval → Type 0
IsNonEmpty i = IsFalse (is_empty i)

-- ---- within

-- the lower end of `a` is not lower than that of `b`: its number is greater, or it is the same and open if the other is
abbrev pub IsLowerWithin : Interval → Interval → Type 0
IsLowerWithin a b = (b.min < a.min) ⊎ ((a.min ≡ b.min) × (IsTrue b.openmin → IsTrue a.openmin))

-- the upper end of `a` is not higher than that of `b`
abbrev pub IsUpperWithin : Interval → Interval → Type 0
IsUpperWithin a b = (a.max < b.max) ⊎ ((a.max ≡ b.max) × (IsTrue b.openmax → IsTrue a.openmax))

-- one interval lies within another
pub record IsIntervalWithin (a b : Interval) : Type 0 where
  pub lower : IsLowerWithin a b
  pub upper : IsUpperWithin a b
  pub integer : IsTrue b.integer → IsTrue a.integer

-- a fraction n / d is a member of an interval
pub record IsMember (i : Interval) (n d : ℕ) : Type 0 where
  pub positive : 0 < d
  pub lower : i.min * d ≤ n
  pub above : IsTrue i.openmin → i.min * d < n
  pub upper : n ≤ i.max * d
  pub below : IsTrue i.openmax → n < i.max * d
  pub whole : IsTrue i.integer → n % d ≡ 0

-- ---- refinement

-- whether the larger of two lower ends is open: at one number where either is
abbrev pub larger_lower_is_open : Interval → Interval → Bool
larger_lower_is_open a b = if nat_lt a.min b.min then b.openmin else (if nat_lt b.min a.min then a.openmin else (a.openmin || b.openmin))

-- and the smaller of two upper ends
abbrev pub smaller_upper_is_open : Interval → Interval → Bool
smaller_upper_is_open a b = if nat_lt a.max b.max then a.openmax else (if nat_lt b.max a.max then b.openmax else (a.openmax || b.openmax))

-- what two intervals have in common: the larger lower end and the smaller upper end, and integer where either is
unfoldable pub common_part : Interval → Interval → Interval
common_part a b = record {
  min = max a.min b.min;
  max = min a.max b.max;
  openmin = larger_lower_is_open a b;
  openmax = smaller_upper_is_open a b;
  integer = a.integer || b.integer;
}

-- an open end moves inward by 1 and is closed
abbrev pub with_ends_closed : Interval → Interval
with_ends_closed i = record {
  min = if i.openmin then i.min + 1 else i.min;
  max = if i.openmax then i.max - 1 else i.max;
  openmin = false;
  openmax = false;
  integer = i.integer;
}

-- whether an interval is one point, its ends closed
abbrev pub is_point : Interval → Bool
is_point i = i.min == i.max && not i.openmin && not i.openmax

-- the same whole numbers or the same fractions, in the one form that refinement leaves: the ends of an integer interval
-- are closed, and a closed point is integer. An empty interval stays as it is
unfoldable pub normal_form : Interval → Interval
normal_form i = if is_empty i then i else (if i.integer then with_ends_closed i else record i { integer = is_point i })

-- what a refinement of `a` by `b` leaves
unfoldable pub refinement : Interval → Interval → Interval
refinement a b = normal_form (common_part a b)

-- the form that refinement leaves
pub record IsNormal (i : Interval) : Type 0 where
  pub lower : IsTrue i.integer → IsFalse i.openmin
  pub upper : IsTrue i.integer → IsFalse i.openmax
  pub point : i.min ≡ i.max → IsTrue i.integer

-- ---- ends as places

abbrev pub bit_of : Bool → ℕ
bit_of b = if b then 1 else 0

-- where a lower end lies, in half steps: an open one lies half a step above its number
abbrev pub lower_place : Interval → ℕ
lower_place i = 2 * i.min + bit_of i.openmin

-- where an upper end lies, in half steps from half a step below 0: a closed one lies half a step above an open one
abbrev pub upper_place : Interval → ℕ
upper_place i = 2 * i.max + bit_of (not i.openmax)

-- how far an interval can still be refined: each change makes this smaller
abbrev pub size_of : Interval → ℕ
size_of i = (upper_place i - lower_place i) + bit_of (not i.integer)
