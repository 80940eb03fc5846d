-- The canonical file of a sound.
use Rattle.std.specs.Prelude.{ℕ, ◌+◌, ◌*◌, ◌/◌, ◌^◌, ◌<◌, ◌≤◌, List, ◌++◌, length, All, FitsSigned, codes, ℤ}
use Rattle.std.specs.List.{flat_map}
use Rattle.std.specs.Int.{w16, w32, to_le_bytes, cast_unsigned}
use Rattle.wav_io.specs.Sound.{Sound, IsWholeSound}

-- the 44 bytes with these two sizes, of what follows `RIFF` and its size, and of the samples
abbrev pub head_with : ℕ → ℕ → ℕ → ℕ → List ℕ
head_with riff channels rate size =
    codes "RIFF" ++ to_le_bytes w32 riff ++ codes "WAVE" ++ codes "fmt " ++ to_le_bytes w32 16
    ++ to_le_bytes w16 1 ++ to_le_bytes w16 channels ++ to_le_bytes w32 rate ++ to_le_bytes w32 (rate * (channels * 2))
    ++ to_le_bytes w16 (channels * 2) ++ to_le_bytes w16 16 ++ codes "data" ++ to_le_bytes w32 size

-- the 44 bytes before `size` bytes of samples
abbrev pub head_before : ℕ → ℕ → ℕ → List ℕ
head_before channels rate size = head_with (36 + size) channels rate size

-- the 44 bytes before frames of which the number isn't known yet
abbrev pub open_head : ℕ → ℕ → List ℕ
open_head channels rate = head_with 4294967295 channels rate 4294967295

-- the 44 bytes before this many frames
abbrev pub head : ℕ → ℕ → ℕ → List ℕ
head channels rate frames = head_before channels rate (frames * channels * 2)

-- the two bytes of a sample, the low one first
abbrev pub sample_bytes : ℤ → List ℕ
sample_bytes z = to_le_bytes w16 (cast_unsigned w16 z)

-- what a head's fields hold: 1 to 8 channels, a rate that isn't 0, and so few frames that the size after `RIFF` is a number of 32 bits
pub record HasHeader (channels rate frames : ℕ) : Type 0 where
  pub some_channel : 1 ≤ channels
  pub few_channels : channels ≤ 8
  pub some_rate : 1 ≤ rate
  pub low_rate : rate < 2 ^ 28
  pub size : frames * channels * 2 + 36 < 2 ^ 32

-- the head, and the samples
abbrev pub canonical : Sound → List ℕ
canonical s = head s.channels s.rate (length s.samples / s.channels) ++ flat_map sample_bytes s.samples

-- what has a canonical file: samples of 16 bits, and numbers that the head's fields hold
pub record HasFile (s : Sound) : Type 0 where
  pub sound : IsWholeSound s
  pub low_rate : s.rate < 2 ^ 28
  pub size : length s.samples * 2 + 36 < 2 ^ 32
  pub fits : All (FitsSigned w16) s.samples
