-- The readers of a file in pieces.
use Rattle.std.specs.Prelude.{◌≡◌, ℕ, ◌*◌, ◌/◌, ◌<◌, Bool, true, false, if◌then◌else◌, List, [], ◌++◌, length, ℤ, Option, Some, Result, Ok, Err}
use Rattle.wav_io.specs.declared.error.WavError.{WavError}
use Rattle.wav_io.specs.declared.error.WavError.TheVariants.{TooLong, Memory}
use Rattle.wav_io.specs.declared.format.Depths.{Depths}
use Rattle.wav_io.specs.declared.format.Depths.TheVariants.{Sixteen, UpTo32}
use Rattle.wav_io.specs.declared.format.Format.{Format}
use Rattle.wav_io.specs.declared.place.Place.{Place}
use Rattle.wav_io.specs.declared.place.Place.TheVariants.{Opening, Head, FormatBody, DataBody, Refused}
use Rattle.wav_io.specs.declared.scan.Scan.{Scan}
use Rattle.wav_io.specs.Fields.{whole}
use Rattle.wav_io.specs.Pieces.{with_front}
use Rattle.wav_io.specs.Reading.{Contents, contents, sounds}
use Rattle.wav_io.specs.Scans.{IsScan, to_come, refusal_of}
use Rattle.wav_io.specs.Sound.{Sound}

-- a reader: how far the file is read, the bytes of a frame that isn't whole yet, and whether memory was wanting
pub record Reader : Type 0 where
  pub scan : Scan
  pub part : List ℕ
  pub starved : Bool

-- the bytes of a frame of 16-bit samples, and of samples of the format's bits
abbrev pub wav_frame : Format → ℕ
wav_frame f = 2 * f.channels

abbrev pub raw_frame : Format → ℕ
raw_frame f = f.channels * (f.bits / 8)

-- in the data there is less than a frame, and before it nothing
abbrev pub IsPart : (Format → ℕ) → Place → List ℕ → Type 0
IsPart size Opening part = part ≡ []
IsPart size (Head format skip) part = part ≡ []
IsPart size (FormatBody missing pad) part = part ≡ []
IsPart size (DataBody format missing) part = length part < size format
IsPart size (Refused e) part = Unit {0}

pub record IsFileReader (size : Format → ℕ) (r : Reader) : Type 0 where
  pub scan : IsScan r.scan
  pub part : IsPart size r.scan.place r.part

-- the error that was answered, if there was one
abbrev pub error_of : Reader → Option WavError
error_of r = if r.starved then Some Memory else refusal_of r.scan.place

-- a place in the first data chunk's body, or after it
abbrev pub is_in_data : Place → Bool
is_in_data Opening = false
is_in_data (Head format skip) = false
is_in_data (FormatBody missing pad) = false
is_in_data (DataBody format missing) = true
is_in_data (Refused e) = false

-- the format is read, and the data began
abbrev pub has_begun : Reader → Bool
has_begun r = is_in_data r.scan.place

-- the format and the data of a file with the bytes that follow, but for the frames that were given
unfoldable pub rest_of : Depths → Reader → List ℕ → Result Contents WavError
rest_of depths r more = if r.starved then Err Memory else with_front r.part (to_come depths r.scan more)

-- the sound of a file with the bytes that follow, but for the samples that were given
abbrev pub sound_to_come : Reader → List ℕ → Result Sound WavError
sound_to_come r more = sounds (rest_of Sixteen r more)

-- more samples in front
abbrev pub with_samples : List ℤ → Result Sound WavError → Result Sound WavError
with_samples front (Ok s) = Ok (record { channels = s.channels; rate = s.rate; samples = front ++ s.samples })
with_samples front (Err e) = Err e

-- channels, frames per second, the bits of a sample, and the bytes of the samples frame by frame
pub record Raw : Type 0 where
  pub channels : ℕ
  pub rate : ℕ
  pub bits : ℕ
  pub body : List ℕ

-- the whole frames of a file's format and data
abbrev pub raws : Result Contents WavError → Result Raw WavError
raws (Ok c) = Ok (record { channels = c.format.channels; rate = c.format.rate; bits = c.format.bits; body = whole (raw_frame c.format) c.body })
raws (Err e) = Err e

-- what reading a file of 8, 16, 24 or 32 bits gives
abbrev pub raw_file : List ℕ → Result Raw WavError
raw_file bytes = raws (contents UpTo32 bytes)

-- the same with the bytes that follow, but for the frames that were given
abbrev pub raw_to_come : Reader → List ℕ → Result Raw WavError
raw_to_come r more = raws (rest_of UpTo32 r more)

-- an answer has these channels, this rate and these bits, or is that the file is too long
abbrev pub IsOfHead : (channels rate bits : ℕ) → Result Raw WavError → Type 0
IsOfHead channels rate bits (Ok s) = (s.channels ≡ channels) × (s.rate ≡ rate) × (s.bits ≡ bits)
IsOfHead channels rate bits (Err e) = e ≡ TooLong

-- more bytes of whole frames in front
abbrev pub with_bytes : List ℕ → Result Raw WavError → Result Raw WavError
with_bytes front (Ok s) = Ok (record { channels = s.channels; rate = s.rate; bits = s.bits; body = front ++ s.body })
with_bytes front (Err e) = Err e
