-- What a client with `plug` takes its file as.
--     shape_for card client      the channels and the rate to which a client's file is converted, where its line has `plug`
--     wide_of bits, conversion_to shape ..      how samples of so many bits are stored, and how a file of a head is converted
--     converted shape raw      the sound that the bytes of a file's samples are converted to
--     plug_file shape bytes      the sound to which a file of bytes is converted, or why it is refused
--     sound_file shape bytes      the sound of a file of bytes, converted where there is a shape
--     weight shape bytes sound      how many bytes of a run's limit a sound takes whose file has so many
use Rattle.std.specs.Prelude.{◌≡◌, ℕ, ◌*◌, ◌≤◌, ◌==◌, nat_le, max, if◌then◌else◌, List, length, Option, Some, None, Result, Ok, Err}
use Rattle.lab_input.specs.declared.shape.Shape.{Shape}
use Rattle.lab_lines.specs.declared.script.CardLine.{CardLine}
use Rattle.lab_lines.specs.declared.script.ClientLine.{ClientLine}
use Rattle.plug_chain.specs.declared.wide.Wide.{Wide}
use Rattle.plug_chain.specs.declared.wide.Wide.TheVariants.{U8, S16Le, S24Packed, S32Le}
use Rattle.plug_chain.specs.Frames.{Conversion}
use Rattle.plug_chain.specs.Plugs.{plug_of}
use Rattle.plug_chain.specs.Tables.{usual_table}
use Rattle.wav_io.specs.declared.error.WavError.{WavError}
use Rattle.wav_io.specs.declared.error.WavError.TheVariants.{TooLong}
use Rattle.wav_io.specs.Reading.{most_bytes, wav_file}
use Rattle.wav_io.specs.Readers.{Raw, raw_file}
use Rattle.wav_io.specs.Sound.{Sound}

-- 1 to 8 channels, and a rate that a card can have
pub record IsShape (s : Shape) : Type 0 where
  pub some_channel : 1 ≤ s.channels
  pub few_channels : s.channels ≤ 8
  pub some_rate : 1 ≤ s.rate
  pub most_rate : s.rate ≤ 192000

-- as many channels as a client has bindings, or the card's where it has none given
abbrev pub channels_for : ℕ → Option (List ℕ) → ℕ
channels_for channels None = channels
channels_for channels (Some bindings) = length bindings

-- a client with `plug` takes its file at the card's rate, with as many channels as it binds
abbrev pub shape_for : CardLine → ClientLine → Option Shape
shape_for card client =
    if client.plug
    then Some (record { channels = channels_for card.channels client.bindings; rate = card.rate })
    else None

-- how samples of 8, 16, 24 or 32 bits are stored
abbrev pub wide_of : ℕ → Wide
wide_of bits =
    if bits == 8 then U8 else if bits == 16 then S16Le else if bits == 24 then S24Packed else S32Le

-- how a file of these channels, this rate and these bits is converted: by the usual table of channels
abbrev pub conversion_to : Shape → (channels rate bits : ℕ) → Conversion
conversion_to s channels rate bits =
    record {
      from = wide_of bits;
      table = usual_table channels s.channels;
      rates = record { input = rate; output = s.rate };
    }

-- the sound that the bytes of a file's samples are converted to
abbrev pub converted_sound : Shape → Raw → Sound
converted_sound s raw =
    record {
      channels = s.channels;
      rate = s.rate;
      samples = plug_of (conversion_to s raw.channels raw.rate raw.bits) raw.body;
    }

-- a sound whose samples have no more bytes than a WAV file may have
abbrev pub short_enough : Sound → Result Sound WavError
short_enough sound = if nat_le (2 * length sound.samples) most_bytes then Ok sound else Err TooLong

-- what a file is converted to, or why it is refused: as its own reader says, or since it would be too long
abbrev pub converted_file : Shape → Result Raw WavError → Result Sound WavError
converted_file s (Ok raw) = short_enough (converted_sound s raw)
converted_file s (Err e) = Err e

abbrev pub plug_file : Shape → List ℕ → Result Sound WavError
plug_file s bytes = converted_file s (raw_file bytes)

-- what a file is as a sound, converted where there is a shape
abbrev pub sound_file : Option Shape → List ℕ → Result Sound WavError
sound_file None bytes = wav_file bytes
sound_file (Some s) bytes = plug_file s bytes

-- how many bytes a sound takes of a run's limit: its file's, or those of its converted samples where they are more
abbrev pub weight : Option Shape → ℕ → Sound → ℕ
weight None bytes sound = bytes
weight (Some s) bytes sound = max bytes (2 * length sound.samples)
