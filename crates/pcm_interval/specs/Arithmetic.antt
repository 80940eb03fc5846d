-- Products and quotients of intervals, with ends rounded outward.
use Rattle.std.specs.Prelude.{ℕ, ◌+◌, ◌*◌, ◌/◌, ◌%◌, min, Bool, false, ◌&&◌, ◌||◌, nat_lt, nat_le, if◌then◌else◌}
use Rattle.pcm_interval.specs.declared.interval.Interval.{Interval}

-- the greatest number that an end can have
abbrev pub end_max : ℕ
end_max = 4294967295

-- whether a fraction n / d has to be rounded
abbrev pub is_broken : ℕ → ℕ → Bool
is_broken n d = nat_lt 0 (n % d)

-- a fraction n / d rounded up
abbrev pub rounded_up : ℕ → ℕ → ℕ
rounded_up n d = if is_broken n d then n / d + 1 else n / d

-- a fraction n / d as a lower end: rounded down, but not above the greatest number
abbrev pub lower_end_of : ℕ → ℕ → ℕ
lower_end_of n d = min (n / d) end_max

-- it is open where it was made of an open end, or was rounded; where it was clamped it is closed
abbrev pub lower_is_open : ℕ → ℕ → Bool → Bool
lower_is_open n d is_open = nat_le (n / d) end_max && (is_open || is_broken n d)

-- a fraction n / d as an upper end: rounded up, but not above the greatest number
abbrev pub upper_end_of : ℕ → ℕ → ℕ
upper_end_of n d = min (rounded_up n d) end_max

abbrev pub upper_is_open : ℕ → ℕ → Bool → Bool
upper_is_open n d is_open = nat_le (rounded_up n d) end_max && (is_open || is_broken n d)

-- the interval between two fractions
unfoldable pub interval_between : (low_n low_d : ℕ) → Bool → (high_n high_d : ℕ) → Bool → Bool → Interval
interval_between low_n low_d low_open high_n high_d high_open integer = record {
  min = lower_end_of low_n low_d;
  max = upper_end_of high_n high_d;
  openmin = lower_is_open low_n low_d low_open;
  openmax = upper_is_open high_n high_d high_open;
  integer = integer;
}

-- a times b: least at both lower ends, greatest at both upper ends
unfoldable pub product_of : Interval → Interval → Interval
product_of a b =
    interval_between (a.min * b.min) 1 (a.openmin || b.openmin) (a.max * b.max) 1 (a.openmax || b.openmax) (a.integer && b.integer)

-- a divided by b: least at the lower end of a and the upper end of b
unfoldable pub quotient_of : Interval → Interval → Interval
quotient_of a b = interval_between a.min b.max (a.openmin || b.openmax) a.max b.min (a.openmax || b.openmin) false

-- a times b divided by a number
unfoldable pub scaled_product_of : Interval → Interval → ℕ → Interval
scaled_product_of a b k =
    interval_between (a.min * b.min) k (a.openmin || b.openmin) (a.max * b.max) k (a.openmax || b.openmax) false

-- a times a number divided by b
unfoldable pub scaled_quotient_of : Interval → ℕ → Interval → Interval
scaled_quotient_of a k b =
    interval_between (a.min * k) b.max (a.openmin || b.openmax) (a.max * k) b.min (a.openmax || b.openmin) false
