-- The words of a capture ring: each holds one captured sample, and by its laps of which frame of its slot it is.
use Rattle.std.specs.Prelude.{◌≡◌, ℕ, ◌*◌, ◌/◌, ◌%◌, ◌<◌, ℤ, pos, negsuc, ◌+ℤ◌, ◌-ℤ◌, ◌≤ℤ◌}
use Rattle.std.proofs.Common.{arith}
use Rattle.std.proofs.lemmas.Int.{ints}

-- the laps that a word says: one more than the lap of the frame that it holds
abbrev pub laps_of : ℕ → ℕ
laps_of w = w / 4294967296

-- the sample of a word
abbrev pub sample_of : ℕ → ℤ
sample_of w = pos (w % 65536) -ℤ pos 32768

-- a word is the laps times 2 ^ 32 and the sample raised by 2 ^ 15
pub record HoldsSample (w laps : ℕ) (x : ℤ) : Type 0 where
  pub laps_fit : laps < 4294967296
  pub low : negsuc 32767 ≤ℤ x
  pub high : x ≤ℤ pos 32767
  pub layout : pos w ≡ pos (laps * 4294967296) +ℤ (x +ℤ pos 32768)

-- a word holds nothing but what it is read as
pub HoldsSample-fields : (w laps : ℕ) (x : ℤ) → HoldsSample w laps x → (laps_of w ≡ laps) × (sample_of w ≡ x)
HoldsSample-fields w laps x h = (grind (arith, ints), grind (arith, ints))

-- no two words hold the same sample with the same laps
pub HoldsSample-unique : (v w laps : ℕ) (x : ℤ) → HoldsSample v laps x → HoldsSample w laps x → v ≡ w
HoldsSample-unique v w laps x g h = grind (arith, ints)
