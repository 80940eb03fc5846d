-- The WAV files of a workload: the samples of one generator, file after file.
use Rattle.std.specs.Prelude.{◌≡◌, ℕ, ◌*◌, ◌/◌, ◌^◌, List, ◌++◌, length, map, codes, ℤ, pos, ◌-ℤ◌}
use Rattle.std.specs.List.{range_with_len}
use Rattle.std.specs.Fmt.{decimal}
use Rattle.rand_core.specs.Pcg32Seed.{pcg32_seed}
use Rattle.rand_pcg.specs.Lcg.{Lcg, advance}
use Rattle.rand_pcg.specs.Pcg.{multiplier_64, pcg32, pcg32_of_seed}
use Rattle.wav_io.specs.Sound.{Sound}

-- the sample of a word of 32 bits: its 14 highest bits less 8192
abbrev pub sample_of_random : ℕ → ℤ
sample_of_random word = pos (word / 2 ^ 18) -ℤ pos 8192

-- the sample of the next word of a generator
unfoldable pub next_sample : Lcg → ℤ
next_sample generator = sample_of_random (pcg32 generator).0

-- a generator after so many words
abbrev pub after_words : ℕ → Lcg → Lcg
after_words words generator = advance 64 multiplier_64 words generator

-- the samples of the next 4,096 stereo frames of a generator, one of each word
abbrev pub samples_from : Lcg → List ℤ
samples_from generator = map (λ index. next_sample (after_words index generator)) (range_with_len 0 8192)

-- the next file of a generator
abbrev pub sound_from : Lcg → Sound
sound_from generator = record { channels = 2; rate = 48000; samples = samples_from generator }

-- the generator of a seed
unfoldable pub generator_of : ℕ → Lcg
generator_of seed = pcg32_of_seed (pcg32_seed 16 seed)

-- the file of the client of this number: the generator gave the words of the files before it
abbrev pub made_sound : ℕ → ℕ → Sound
made_sound seed client = sound_from (after_words (8192 * client) (generator_of seed))

-- the files of so many clients
abbrev pub made_sounds : ℕ → ℕ → List Sound
made_sounds seed clients = map (made_sound seed) (range_with_len 0 clients)

-- a stereo file at 48,000 Hz with 4,096 frames
pub record IsMadeSound (sound : Sound) : Type 0 where
  pub stereo : sound.channels ≡ 2
  pub rate_is : sound.rate ≡ 48000
  pub size : length sound.samples ≡ 8192

-- the name of the file of the client of this number
abbrev pub file_name : ℕ → List ℕ
file_name client = codes "made-" ++ decimal client ++ codes ".wav"
