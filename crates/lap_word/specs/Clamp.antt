-- A sum that is saturated to the range of a sample of 16 bits.
use Rattle.std.specs.Prelude.{◌≢◌, ℕ, ◌+◌, ◌<◌, ℤ, pos, negsuc, ◌≤ℤ◌}
use Rattle.std.specs.Int.{int_min, int_max, int_gap}

-- the sample that a sum is played as: the sum itself, or the end of the range that it passes
abbrev pub clamp_of : ℤ → ℤ
clamp_of x = int_max (negsuc 32767) (int_min x (pos 32767))

-- a number that a sample of 16 bits can be
pub record IsSample (x : ℤ) : Type 0 where
  pub low : negsuc 32767 ≤ℤ x
  pub high : x ≤ℤ pos 32767

-- how far two numbers are apart
abbrev pub distance : ℤ → ℤ → ℕ
distance x y = int_gap x y + int_gap y x

-- a sample nearer to a number than every other sample is
pub record IsNearest (x s : ℤ) : Type 0 where
  pub sample : IsSample s
  pub nearer : (t : ℤ) → IsSample t → t ≢ s → distance x s < distance x t
