-- The words of the mix ring, and the three numbers that each represents.
use Rattle.std.specs.Prelude.{◌≡◌, ℕ, ◌+◌, ◌*◌, ◌/◌, ◌%◌, ◌^◌, ◌<◌, ℤ, pos, negsuc, ◌+ℤ◌, ◌-ℤ◌, ◌≤ℤ◌}
use Rattle.std.proofs.Common.{arith}
use Rattle.std.proofs.lemmas.Int.{ints}

-- how many times the ring was wound before the frame of this word
abbrev pub lap_of : ℕ → ℕ
lap_of w = w / 4294967296

-- how many samples were added or withdrawn in this lap
abbrev pub count_of : ℕ → ℕ
count_of w = w % 4294967296 / 16777216

-- the sum of the samples that were added in this lap and not withdrawn
abbrev pub sum_of : ℕ → ℤ
sum_of w = pos (w % 16777216) -ℤ pos 8388608

-- a word is the lap times 2 ^ 32, the count times 2 ^ 24 and the sum raised by 2 ^ 23
pub record StandsFor (w lap count : ℕ) (sum : ℤ) : Type 0 where
  pub lap_fits : lap < 4294967296
  pub count_fits : count < 256
  pub low : negsuc 8388607 ≤ℤ sum
  pub high : sum ≤ℤ pos 8388607
  pub layout : pos w ≡ pos (lap * 4294967296 + count * 16777216) +ℤ (sum +ℤ pos 8388608)

-- a sum that a word can have
pub record IsSum (sum : ℤ) : Type 0 where
  pub low : negsuc 8388607 ≤ℤ sum
  pub high : sum ≤ℤ pos 8388607

-- a sample can be added to a word: there is room for one more count, and for the sum with the sample
pub record CanAdd (w : ℕ) (sample : ℤ) : Type 0 where
  pub room : count_of w < 255
  pub fits : IsSum (sum_of w +ℤ sample)

-- a sample can be withdrawn from a word: there is room for one more count, and for the sum without the sample
pub record CanWithdraw (w : ℕ) (sample : ℤ) : Type 0 where
  pub room : count_of w < 255
  pub fits : IsSum (sum_of w -ℤ sample)

-- a word represents no three numbers but its fields
pub StandsFor-fields : (w l c : ℕ) (s : ℤ) → StandsFor w l c s → (lap_of w ≡ l) × (count_of w ≡ c) × (sum_of w ≡ s)
StandsFor-fields w l c s h = (grind (arith, ints), grind (arith, ints), grind (arith, ints))

-- each word of 64 bits represents its fields
pub StandsFor-of : (w : ℕ) → w < 2 ^ 64 → StandsFor w (lap_of w) (count_of w) (sum_of w)
StandsFor-of w h = record {
  lap_fits = grind (arith, ints);
  count_fits = grind (arith, ints);
  low = grind (arith, ints);
  high = grind (arith, ints);
  layout = grind (arith, ints);
}

-- no two words represent the same three numbers
pub StandsFor-unique : (v w l c : ℕ) (s : ℤ) → StandsFor v l c s → StandsFor w l c s → v ≡ w
StandsFor-unique v w l c s g h = grind (arith, ints)
