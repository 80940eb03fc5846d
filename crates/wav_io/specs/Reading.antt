-- What reading a file of bytes gives.
use Rattle.std.specs.Prelude.{◌≡◌, ℕ, ◌+◌, ◌-◌, nat_lt, nat_le, if◌then◌else◌, List, [], ◌∷◌, length, take, drop, codes, Option, Some, None, Result, Ok, Err}
use Rattle.std.specs.Str.{bytes_eq}
use Rattle.wav_io.specs.declared.error.WavError.{WavError}
use Rattle.wav_io.specs.declared.error.WavError.TheVariants.{NotRiff, NotWave, NoFormat, FormatTwice, ShortFormat, NoData, TooLong, Memory}
use Rattle.wav_io.specs.declared.format.Depths.{Depths}
use Rattle.wav_io.specs.declared.format.Depths.TheVariants.{Sixteen}
use Rattle.wav_io.specs.declared.format.Format.{Format}
use Rattle.wav_io.specs.Sound.{Sound}
use Rattle.wav_io.specs.Fields.{samples_of_bytes, whole_frames}
use Rattle.wav_io.specs.Chunks.{Chunk, chunks}
use Rattle.wav_io.specs.Formats.{format_of}

-- the error is the one that is given, but for want of memory
abbrev pub IsRefusal : WavError → Result Sound WavError → Type 0
IsRefusal Memory given = Unit {0}
IsRefusal e given = given ≡ Err e

-- a call answers what is given, but for want of memory
abbrev pub Reads : Result Sound WavError → Result Sound WavError → Type 0
Reads (Ok w) given = given ≡ Ok w
Reads (Err e) given = IsRefusal e given

-- the most bytes that a file may have
abbrev pub most_bytes : ℕ
most_bytes = 67_108_864

-- the result of scanning a file's chunks: a refusal, the first data chunk's body, a format chunk within which the
-- file ends, or the end, after a format or without one
pub data Finding : Type 0 where
  refused : WavError → Finding
  body_found : Format → List ℕ → Finding
  format_cut : Finding
  ended : Option Format → Finding

-- whether a chunk decides, or the next one is looked at
pub data Verdict : Type 0 where
  decides : Finding → Verdict
  goes_on : Option Format → Verdict

-- a format that is in order is kept
abbrev pub verdict_of_format : Result Format WavError → Verdict
verdict_of_format (Ok f) = goes_on (Some f)
verdict_of_format (Err e) = decides (refused e)

-- a second format chunk is refused before its size, a size below 16 before its body, of which the
-- first 40 bytes are looked at
abbrev pub format_chunk : Depths → Option Format → Chunk → Verdict
format_chunk depths (Some f) chunk = decides (refused FormatTwice)
format_chunk depths None chunk =
    if nat_lt chunk.size 16 then decides (refused ShortFormat)
    else if nat_lt (length chunk.body) chunk.size then decides format_cut
    else verdict_of_format (format_of depths (take 40 chunk.body))

-- the first data chunk has the samples
abbrev pub data_chunk : Option Format → Chunk → Verdict
data_chunk (Some f) chunk = decides (body_found f chunk.body)
data_chunk None chunk = decides (refused NoFormat)

-- every other chunk is skipped
unfoldable pub verdict_of : Depths → Option Format → Chunk → Verdict
verdict_of depths format chunk =
    if bytes_eq chunk.name (codes "fmt ") then format_chunk depths format chunk
    else if bytes_eq chunk.name (codes "data") then data_chunk format chunk
    else goes_on format

-- the first chunk that decides
abbrev pub finding_after : Verdict → (Option Format → Finding) → Finding
finding_after (decides f) next = f
finding_after (goes_on format) next = next format

-- the result of scanning the chunks, after the format that was before them
abbrev pub scan_of : Depths → Option Format → List Chunk → Finding
scan_of depths format [] = ended format
scan_of depths format (chunk ∷ behind) = finding_after (verdict_of depths format chunk) (λ kept. scan_of depths kept behind)

-- the chunks after `RIFF`, the RIFF size, which isn't looked at, and `WAVE`
unfoldable pub found_in : Depths → List ℕ → Finding
found_in depths bytes =
    if bytes_eq (take 4 bytes) (codes "RIFF") then
    (if bytes_eq (take 4 (drop 8 bytes)) (codes "WAVE") then scan_of depths None (chunks (drop 12 bytes)) else refused NotWave)
    else refused NotRiff

-- the format and the data of a file
pub record Contents : Type 0 where
  pub format : Format
  pub body : List ℕ

-- at the end of the file
abbrev pub at_end : Finding → Result Contents WavError
at_end (refused e) = Err e
at_end (body_found f body) = Ok (record { format = f; body = body })
at_end format_cut = Err ShortFormat
at_end (ended None) = Err NoFormat
at_end (ended (Some f)) = Err NoData

-- in a file that is too long, after as many bytes as a file may have
abbrev pub before_end : Finding → Result Contents WavError
before_end (refused e) = Err e
before_end (body_found f body) = Err TooLong
before_end format_cut = Err TooLong
before_end (ended format) = Err TooLong

-- what is found in the bytes that follow so many, where a file has no more than it may have
unfoldable pub within_limit : ℕ → (List ℕ → Finding) → List ℕ → Result Contents WavError
within_limit seen find bytes =
    if nat_le (seen + length bytes) most_bytes then at_end (find bytes) else before_end (find (take (most_bytes - seen) bytes))

-- the format and the data of a file of bytes, of samples with bits that are taken
abbrev pub contents : Depths → List ℕ → Result Contents WavError
contents depths bytes = within_limit 0 (found_in depths) bytes

-- the sound of a body: whole frames, without a rest
abbrev pub sound_of : Format → List ℕ → Sound
sound_of f body = record { channels = f.channels; rate = f.rate; samples = samples_of_bytes (whole_frames f.channels body) }

-- the sound of a file's format and data
abbrev pub sounds : Result Contents WavError → Result Sound WavError
sounds (Ok c) = Ok (sound_of c.format c.body)
sounds (Err e) = Err e

-- what reading a file gives
abbrev pub wav_file : List ℕ → Result Sound WavError
wav_file bytes = sounds (contents Sixteen bytes)
