-- A script and its clients' files have one session: the card's ring, and with what each client and each reader is opened, are settled by them.
use Rattle.std.specs.Prelude.{◌≡◌, List}
use Rattle.wav_io.specs.Sound.{Sound}
use Rattle.lab_lines.specs.declared.script.Script.{Script}
use Rattle.lab_run.specs.Openings.{IsSessionOf}
use Rattle.lab_run.specs.Stage.{Session}

-- two sessions of a script on the same files are one
abbrev pub HaveOneSession : Script → List Sound → Type 0
HaveOneSession script wavs =
    (session other : Session) → IsSessionOf script wavs session → IsSessionOf script wavs other
    → session ≡ other
