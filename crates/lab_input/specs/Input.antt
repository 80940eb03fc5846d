-- What a run reads, or the first cause for which it can't: a function of the files.
--     RunInput      a script, the sound that its card captures, and its clients' sounds
--     input_in files name      what a run of the script in this file reads
--     script_in files name      the script in a file
--     capture_in files name      the sound of the file that a card captures, if it names one, and how many bytes that file has
--     sounds_in files total card clients      the clients' sounds, in order, after WAV files of this many bytes
--     sound_in files total shape name      the sound in a WAV file of a run, and how many bytes the run's WAV files have so far
--     wav_in files shape name      the sound in a WAV file, converted where there is a shape, and how many bytes it takes
--     within_run total sound      the sound, where the run's WAV files up to it have at most `most_of_run` bytes
--     as_script, as_sound, counted, weighed      a script or a sound that was read, or the cause that it is refused
use Rattle.std.specs.Prelude.{◌≡◌, ℕ, ◌+◌, nat_le, if◌then◌else◌, List, [], ◌∷◌, length, Option, Some, None, Result, Ok, Err}
use Rattle.lab_script.specs.declared.error.ScriptError.{ScriptError}
use Rattle.lab_input.specs.declared.shape.Shape.{Shape}
use Rattle.lab_input.specs.Plug.{shape_for, sound_file, weight}
use Rattle.lab_lines.specs.declared.script.CardLine.{CardLine}
use Rattle.lab_lines.specs.declared.script.ClientLine.{ClientLine}
use Rattle.lab_lines.specs.declared.script.Script.{Script}
use Rattle.lab_script.specs.Reading.{script_of}
use Rattle.lab_shelf.specs.Files.{Files}
use Rattle.lab_stop.specs.Causes.{Cause, script_refused, wav_refused, content_in, first_bytes, ◌>>=◌}
use Rattle.wav_io.specs.declared.error.WavError.{WavError}
use Rattle.wav_io.specs.declared.error.WavError.TheVariants.{TooLong}
use Rattle.wav_io.specs.Sound.{Sound}

-- the script of a run, the sound that its card captures, if it names a file for that, and its clients' sounds in the order of
-- their lines
pub record RunInput : Type 0 where
  pub script : Script
  pub capture : Option Sound
  pub sounds : List Sound

-- what a text spells as a script
abbrev pub as_script : Result Script ScriptError → Result Script Cause
as_script (Ok script) = Ok script
as_script (Err e) = Err (script_refused e)

-- what a WAV file holds
abbrev pub as_sound : List ℕ → Result Sound WavError → Result Sound Cause
as_sound name (Ok sound) = Ok sound
as_sound name (Err e) = Err (wav_refused name e)

-- the most bytes that the WAV files of a run have together
abbrev pub most_of_run : ℕ
most_of_run = 268_435_456

-- a sound, where its file and all WAV files of the run before it have so many bytes together
abbrev pub within_run : ℕ → Sound → Result Sound WavError
within_run total sound = if nat_le total most_of_run then Ok sound else Err TooLong

-- a sound of a file, and how many bytes the file has
abbrev pub with_byte_count : List ℕ → ℕ → Result Sound WavError → Result (Sound × ℕ) Cause
with_byte_count name bytes sound = as_sound name sound >>= λ s. Ok (s, bytes)

-- a sound of a file of so many bytes, and how many it takes of a run's limit
abbrev pub with_weight : List ℕ → Option Shape → ℕ → Result Sound WavError → Result (Sound × ℕ) Cause
with_weight name shape bytes sound = as_sound name sound >>= λ s. Ok (s, weight shape bytes s)

-- the script in a file, of which one byte more is looked at than a script may have
unfoldable pub script_in : Files → List ℕ → Result Script Cause
script_in files name = do
  text ← first_bytes files name 1048577
  as_script (script_of text)

-- the sound in a WAV file, converted where there is a shape, and how many bytes of a run's limit it takes
unfoldable pub wav_in : Files → Option Shape → List ℕ → Result (Sound × ℕ) Cause
wav_in files shape name = do
  bytes ← content_in files name
  with_weight name shape (length bytes) (sound_file shape bytes)

-- the sound in a WAV file of a run, and how many bytes the run's WAV files have so far, where those before it have this many
unfoldable pub sound_in : Files → ℕ → Option Shape → List ℕ → Result (Sound × ℕ) Cause
sound_in files total shape name = do
  read ← wav_in files shape name
  with_byte_count name (total + read.1) (within_run (total + read.1) read.0)

-- the sound of the file that a card captures, if it names one, and how many bytes that file has
unfoldable pub capture_in : Files → Option (List ℕ) → Result (Option Sound × ℕ) Cause
capture_in files None = Ok (None, 0)
capture_in files (Some name) = do
  read ← sound_in files 0 None name
  Ok (Some read.0, read.1)

-- the sounds of some clients of a card, in order, after WAV files of this many bytes; that of a client with `plug` is what
-- its file is converted to
unfoldable pub sounds_in : Files → ℕ → CardLine → List ClientLine → Result (List Sound) Cause
sounds_in files total card [] = Ok []
sounds_in files total card (client ∷ clients) = do
  read ← sound_in files total (shape_for card client) client.file
  sounds ← sounds_in files read.1 card clients
  Ok (read.0 ∷ sounds)

-- what a run of the script in this file reads
unfoldable pub input_in : Files → List ℕ → Result RunInput Cause
input_in files name = do
  script ← script_in files name
  capture ← capture_in files script.card.capture
  sounds ← sounds_in files capture.1 script.card script.clients
  Ok (record { script = script; capture = capture.0; sounds = sounds })
