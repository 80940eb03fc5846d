-- The body of a format chunk.
use Rattle.std.specs.Prelude.{ℕ, ◌≡◌, ◌≤◌, ◌==◌, ◌||◌, nat_lt, if◌then◌else◌, Bool, true, List, length, Result, Ok, Err}
use Rattle.std.specs.Int.{w16, w32}
use Rattle.wav_io.specs.declared.error.WavError.{WavError}
use Rattle.wav_io.specs.declared.error.WavError.TheVariants.{Tag, Channels, RateZero, Bits, ShortFormat}
use Rattle.wav_io.specs.declared.format.Depths.{Depths}
use Rattle.wav_io.specs.declared.format.Depths.TheVariants.{Sixteen, UpTo32}
use Rattle.wav_io.specs.declared.format.Format.{Format}
use Rattle.wav_io.specs.Fields.{number_at}

-- the bits of a sample that a reader takes
abbrev pub is_accepted : Depths → ℕ → Bool
is_accepted Sixteen bits = bits == 16
is_accepted UpTo32 bits = bits == 8 || bits == 16 || bits == 24 || bits == 32

-- 1 to 8 channels, a rate, and samples of one to four bytes
pub record IsFormat (f : Format) : Type 0 where
  pub some_channel : 1 ≤ f.channels
  pub few_channels : f.channels ≤ 8
  pub some_rate : 1 ≤ f.rate
  pub whole_bytes : is_accepted UpTo32 f.bits ≡ true

-- channels, rate and bits, judged in this order
unfoldable pub terms_of : Depths → List ℕ → Result Format WavError
terms_of depths body =
    if nat_lt (number_at w16 2 body) 1 || nat_lt 8 (number_at w16 2 body) then Err (Channels (number_at w16 2 body))
    else if number_at w32 4 body == 0 then Err RateZero
    else if is_accepted depths (number_at w16 14 body) then Ok (record { channels = number_at w16 2 body; rate = number_at w32 4 body; bits = number_at w16 14 body })
    else Err (Bits (number_at w16 14 body))

-- an extensible format has 40 bytes, and the tag at 24
unfoldable pub extensible_of : Depths → List ℕ → Result Format WavError
extensible_of depths body =
    if nat_lt (length body) 40 then Err ShortFormat
    else if number_at w16 24 body == 1 then terms_of depths body
    else Err (Tag (number_at w16 24 body))

-- PCM (tag 1), or extensible (tag 65534)
unfoldable pub format_of : Depths → List ℕ → Result Format WavError
format_of depths body =
    if number_at w16 0 body == 1 then terms_of depths body
    else if number_at w16 0 body == 65534 then extensible_of depths body
    else Err (Tag (number_at w16 0 body))
