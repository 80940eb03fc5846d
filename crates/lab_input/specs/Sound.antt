-- A WAV file that comes in pieces, as it is or converted.
use Rattle.std.specs.Prelude.{◌≡◌, ℕ, ◌*◌, ◌≤◌, List, [], ◌++◌, length, Option, Some, None, Result, ℤ}
use Rattle.lab_input.specs.declared.plug.PlugReader.{PlugReader}
use Rattle.lab_input.specs.declared.shape.Shape.{Shape}
use Rattle.lab_input.specs.declared.sound.FileReader.{FileReader}
use Rattle.lab_input.specs.declared.sound.FileReader.TheVariants.{Plain, Plugged}
use Rattle.lab_input.specs.declared.sound.SoundReader.{SoundReader}
use Rattle.lab_input.specs.Converting.{IsConverting}
use Rattle.wav_io.specs.declared.error.WavError.{WavError}
use Rattle.wav_io.specs.Reading.{wav_file}
use Rattle.wav_io.specs.Readers.{sound_to_come, with_samples}
use Rattle.wav_io.specs.Sound.{Sound}

-- the sound of the file with the bytes that follow
abbrev pub sound_with : SoundReader → List ℕ → Result Sound WavError
sound_with r more = with_samples r.samples.items (sound_to_come r.reader more)

-- these bytes of a file are read: whatever follows, the sound is that of the whole file
pub record IsPlainAfter (r : SoundReader) (seen : List ℕ) : Type 0 where
  pub same : (more : List ℕ) → sound_with r more ≡ wav_file (seen ++ more)

-- the same of a reader that has these bytes after it, for a file that is converted to a shape or not
abbrev pub IsReading : FileReader → Option Shape → List ℕ → Type 0
IsReading (Plain r) None seen = IsPlainAfter r seen
IsReading (Plain r) (Some s) seen = ⊥
IsReading (Plugged r) None seen = ⊥
IsReading (Plugged r) (Some s) seen = (r.shape ≡ s) × IsConverting r seen

pub record IsAfter (r : FileReader) (shape : Option Shape) (seen : List ℕ) : Type 0 where
  pub reading : IsReading r shape seen

-- some bytes of a file are read
pub record IsPlainOfFile (r : SoundReader) : Type 0 where
  pub seen : List ℕ
  pub after : IsPlainAfter r seen

pub record IsOfFile (r : FileReader) : Type 0 where
  pub shape : Option Shape
  pub seen : List ℕ
  pub after : IsAfter r shape seen
