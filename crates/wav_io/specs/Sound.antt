-- What a WAV file holds.
use Rattle.std.specs.Prelude.{◌≡◌, ℕ, ◌%◌, ◌≤◌, List, length, ℤ}

-- channels, frames per second, and the samples frame by frame
pub record Sound : Type 0 where
  pub channels : ℕ
  pub rate : ℕ
  pub samples : List ℤ

-- 1 to 8 channels, a rate, and whole frames
pub record IsWholeSound (s : Sound) : Type 0 where
  pub some_channel : 1 ≤ s.channels
  pub few_channels : s.channels ≤ 8
  pub some_rate : 1 ≤ s.rate
  pub whole : length s.samples % s.channels ≡ 0
