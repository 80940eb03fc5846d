-- The session of a script, by what its clients and readers are opened with.
use Rattle.std.specs.Prelude.{ℕ, List, Option, All, IfSome}
use Rattle.wav_io.specs.Sound.{Sound}
use Rattle.lab_run.specs.Stage.{Session, Setup}
use Rattle.lab_lines.specs.declared.script.Script.{Script}
use Rattle.lab_actors.specs.declared.session.Openings.{Openings}
use Rattle.lab_actors.specs.Usable.{IsUsable}

-- each setup of some, where there is one, can be used at a card with so many channels and a ring of so many frames
abbrev pub AreUsable : ℕ → ℕ → List (Option Setup) → Type 0
AreUsable channels ring setups = All (λ setup. IfSome setup (IsUsable channels ring)) setups

-- the session of a script with its clients' files
abbrev pub session_with : Script → List Sound → Openings → Session
session_with script wavs all = record {
  card = script.card;
  ring = all.ring;
  sounds = wavs;
  clients = all.clients.items;
  readers = all.readers.items;
}
