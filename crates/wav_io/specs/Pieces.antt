-- What is to come of a file that is read in pieces.
use Rattle.std.specs.Prelude.{◌≡◌, ◌≢◌, ℕ, ◌+◌, ◌%◌, ◌≤◌, ◌<◌, nat_lt, if◌then◌else◌, List, [], ◌++◌, length, take, drop, IfSome, Result, Ok, Err}
use Rattle.wav_io.specs.declared.error.WavError.{WavError}
use Rattle.wav_io.specs.declared.error.WavError.TheVariants.{Memory}
use Rattle.wav_io.specs.declared.format.Depths.{Depths}
use Rattle.wav_io.specs.declared.place.Place.{Place}
use Rattle.wav_io.specs.declared.place.Place.TheVariants.{Opening, Head, FormatBody, DataBody, Refused}
use Rattle.wav_io.specs.Chunks.{Chunk, chunks}
use Rattle.wav_io.specs.Formats.{IsFormat, format_of}
use Rattle.wav_io.specs.Reading.{Finding, refused, body_found, format_cut, verdict_of_format, finding_after, scan_of, found_in, Contents}

-- the result of scanning a file from a place on, with the kept bytes and the bytes that follow
unfoldable pub found_from : Depths → Place → List ℕ → List ℕ → Finding
found_from depths Opening kept bytes = found_in depths (kept ++ bytes)
found_from depths (Head format skip) kept bytes = scan_of depths format (chunks (kept ++ drop skip bytes))
found_from depths (FormatBody missing pad) kept bytes =
    if nat_lt (length bytes) missing then format_cut
    else finding_after (verdict_of_format (format_of depths (take 40 (kept ++ take missing bytes)))) (λ f. scan_of depths f (chunks (drop (missing + pad) bytes)))
found_from depths (DataBody format missing) kept bytes = body_found format (take missing bytes)
found_from depths (Refused e) kept bytes = refused e

-- a chunk of which the head is known, and the bytes after it
abbrev pub chunk_of_size : List ℕ → ℕ → List ℕ → Chunk
chunk_of_size name size bytes = record { name = name; size = size; body = take size bytes }

abbrev pub bytes_after : ℕ → List ℕ → List ℕ
bytes_after size bytes = drop (size + size % 2) bytes

-- the kept bytes are fewer than wanted, and what is known of the format is in order
abbrev pub IsSoundPlace : Place → List ℕ → Type 0
IsSoundPlace Opening kept = length kept < 12
IsSoundPlace (Head format skip) kept = (length kept < 8) × IfSome format IsFormat
IsSoundPlace (FormatBody missing pad) kept = (0 < missing) × (length kept ≤ 40) × (16 ≤ length kept + missing)
IsSoundPlace (DataBody format missing) kept = IsFormat format
IsSoundPlace (Refused e) kept = e ≢ Memory

-- in the first bytes of a file all bytes are kept
abbrev pub HasSeen : Place → List ℕ → ℕ → Type 0
HasSeen Opening kept seen = seen ≡ length kept
HasSeen (Head format skip) kept seen = Unit {0}
HasSeen (FormatBody missing pad) kept seen = Unit {0}
HasSeen (DataBody format missing) kept seen = Unit {0}
HasSeen (Refused e) kept seen = Unit {0}

-- a new place where the next bytes are at hand, with no byte kept: the result of scanning the file is what they are found to be
pub record LeadsTo (depths : Depths) (new : Place) (find : List ℕ → Finding) : Type 0 where
  pub same : (more : List ℕ) → found_from depths new [] more ≡ find more
  pub place : IsSoundPlace new []
  pub opened : (kept : List ℕ) (n : ℕ) → HasSeen new kept n

-- from one place to a later one, with bytes before and the rest of them after: whatever comes after them, the file gives
-- the same
pub record GoesOn (depths : Depths) (old : Place) (before bytes : List ℕ) (new : Place) (after rest : List ℕ) : Type 0 where
  pub same : (more : List ℕ) → found_from depths new after (rest ++ more) ≡ found_from depths old before (bytes ++ more)
  pub place : IsSoundPlace new after
  pub seen : (n : ℕ) → HasSeen old (before ++ bytes) n → HasSeen new (after ++ rest) n

-- more of the data in front
abbrev pub with_front : List ℕ → Result Contents WavError → Result Contents WavError
with_front front (Ok c) = Ok (record { format = c.format; body = front ++ c.body })
with_front front (Err e) = Err e

-- the chunks are gone through up to the data, to a refusal, or to the end of the bytes
abbrev pub IsWalked : Place → List ℕ → Type 0
IsWalked Opening rest = rest ≡ []
IsWalked (Head format skip) rest = rest ≡ []
IsWalked (FormatBody missing pad) rest = rest ≡ []
IsWalked (DataBody format missing) rest = Unit {0}
IsWalked (Refused e) rest = Unit {0}
