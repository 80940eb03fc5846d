-- Why a command can't be done: the first cause that the files give.
--     Cause      a file isn't there (`missing`), a script, a configuration or a WAV file is refused, or the files aren't those of a run (`not_a_run`)
--     r >>= f      the next step with the value of the first, or the first one's cause
--     found name bytes      the bytes of a file, if it is there, or the cause that it is missing
--     content_in files name      all bytes of a file
--     fetched files name most      its first bytes, at most so many
--     fetched_from files name from most      its bytes from a place on, at most so many
--     piece_bytes      how many bytes each piece of a file has, but for the last
--     cause r      why a result is none
use Rattle.std.specs.Prelude.{ℕ, List, Option, Some, None, Result, Ok, Err}
use Rattle.asound_conf.specs.declared.error.ConfError.{ConfError}
use Rattle.lab_script.specs.declared.error.ScriptError.{ScriptError}
use Rattle.wav_io.specs.declared.error.WavError.{WavError}
use Rattle.lab_shelf.specs.Files.{Files, bytes_under, piece}

-- why a command can't be done: a file isn't there, the script is refused, a configuration is, or a client's file is; or a report and files aren't those of a
-- run, by a test that fails at this line of the report
pub data Cause : Type 0 where
  missing : List ℕ → Cause
  script_refused : ScriptError → Cause
  conf_refused : ConfError → Cause
  wav_refused : List ℕ → WavError → Cause
  not_a_run : ℕ → Cause

infixl 10 ◌>>=◌
abbrev pub ◌>>=◌ : {A B : Type 0} → Result A Cause → (A → Result B Cause) → Result B Cause
(Ok x) >>= f = f x
(Err e) >>= f = Err e

-- the bytes that are there under a name
abbrev pub bytes_or_cause : List ℕ → Option (List ℕ) → Result (List ℕ) Cause
bytes_or_cause name None = Err (missing name)
bytes_or_cause name (Some bytes) = Ok bytes

-- the first bytes of a file, at most so many of them
abbrev pub first_bytes : Files → List ℕ → ℕ → Result (List ℕ) Cause
first_bytes files name most = bytes_or_cause name (piece files name 0 most)

-- the bytes of a file from a place on, at most so many of them
abbrev pub fetched_from : Files → List ℕ → ℕ → ℕ → Result (List ℕ) Cause
fetched_from files name from most = bytes_or_cause name (piece files name from most)

-- how many bytes each piece of a file has, but for the last, which has fewer
abbrev pub piece_bytes : ℕ
piece_bytes = 65_536

-- all bytes of a file
abbrev pub content_in : Files → List ℕ → Result (List ℕ) Cause
content_in files name = bytes_or_cause name (bytes_under files name)

-- why a result is none
abbrev pub cause : {X : Type 0} → Result X Cause → Option Cause
cause (Ok x) = None
cause (Err e) = Some e
