-- Formats and the bits of their samples.
use Rattle.std.specs.Prelude.{ℕ, ◌+◌, ◌/◌, ◌%◌, ◌^◌, Bool, true, false, not, ◌&&◌, ◌||◌, ◌==◌, nat_lt, if◌then◌else◌}
use Rattle.pcm_interval.specs.declared.interval.Interval.{Interval}
use Rattle.pcm_interval.specs.declared.mask.Mask.{Mask}

-- the bits of a sample: the formats 0 (S8) and 1 (U8) have 8 bits, 2 (S16_LE) and 3 (S16_BE) have 16
abbrev pub bits_of_format : ℕ → ℕ
bits_of_format format = if nat_lt format 2 then 8 else 16

-- whether a mask has a number
abbrev pub contains : Mask → ℕ → Bool
contains m n = m.bits / 2 ^ n % 2 == 1

-- whether a whole number lies between the ends of an interval
abbrev pub includes : Interval → ℕ → Bool
includes i n = (nat_lt i.min n || (i.min == n && not i.openmin)) && (nat_lt n i.max || (n == i.max && not i.openmax))

-- the sample bits of formats among which some have 8 bits, and some 16: from the least to the greatest. Without a format
-- they are empty
abbrev pub bits_among : Bool → Bool → Interval
bits_among some_8 some_16 = record {
  min = if some_8 then 8 else 16;
  max = if some_16 then 16 else 8;
  openmin = false;
  openmax = false;
  integer = true;
}

-- the sample bits that the formats of a mask leave
unfoldable pub bits_of_formats : Mask → Interval
bits_of_formats m = bits_among (contains m 0 || contains m 1) (contains m 2 || contains m 3)

-- all formats with 8 bits, or with 16, or both
abbrev pub formats_among : Bool → Bool → Mask
formats_among with_8 with_16 = record { bits = (if with_8 then 3 else 0) + (if with_16 then 12 else 0) }

-- the formats whose bits lie in an interval
unfoldable pub formats_of_bits : Interval → Mask
formats_of_bits i = formats_among (includes i 8) (includes i 16)
