-- What a copy of a WAV file reads and writes.
use Rattle.std.specs.Prelude.{◌≡◌, ℕ, List, Option, Some, Ok}
use Rattle.std.specs.Option.{ForSome, option_map}
use Rattle.lab_shelf.specs.Files.{Files, piece, with_file}
use Rattle.wav_io.specs.Canonical.{canonical}
use Rattle.wav_io.specs.Reading.{wav_file}
use Rattle.wav_io.specs.Sound.{Sound}

-- a file that is there holds a sound
pub record HoldsSound (files : Files) (name : List ℕ) (sound : Sound) : Type 0 where
  pub bytes : List ℕ
  pub fetched : piece files name 0 67108865 ≡ Some bytes
  pub read : wav_file bytes ≡ Ok sound

-- the sound that a file holds is under another name in its canonical form, and no other file changed
pub record IsCopied (before after : Option Files) (from to : List ℕ) : Type 0 where
  pub sound : Sound
  pub held : ForSome before (λ files. HoldsSound files from sound)
  pub stored : after ≡ option_map (λ files. with_file files to (canonical sound)) before
