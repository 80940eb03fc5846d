-- What a phase, and each item of a body, may make of a run, and what it makes of it where it leaves no choice.
use Rattle.std.specs.Prelude.{◌≡◌, ℕ, ◌+◌, Bool, true, false, ◌||◌, List, [], ◌∷◌, ◌++◌, map, slice_index_or, Option, Some, None}
use Rattle.snd_base.specs.declared.geometry.Geometry.{Geometry}
use Rattle.wav_io.specs.Sound.{Sound}
use Rattle.dmix_client.specs.declared.stream.PlaybackStream.{PlaybackStream}
use Rattle.dsnoop_client.specs.declared.stream.CaptureStream as reading
use Rattle.dshare.specs.Owners as owners
use Rattle.lab_lines.specs.declared.line.Item.{Item}
use Rattle.lab_lines.specs.declared.line.Item.TheVariants as item
use Rattle.lab_lines.specs.declared.line.Line.{Line}
use Rattle.lab_lines.specs.Script.{is_of_card, unplugs}
use Rattle.lab_lines.specs.declared.row.Row.{Row}
use Rattle.lab_run.specs.Client.{Client, client_kind}
use Rattle.lab_run.specs.Lines.{EachMay, Kind, each_text}
use Rattle.lab_run.specs.Phases.{card_rows, is_client, is_reader, ops_by, played_in, phase_positions}
use Rattle.lab_run.specs.Places.{Lobby}
use Rattle.lab_run.specs.Reader.{Reader, reader_kind}
use Rattle.lab_run.specs.Rules.{AtPort, CardEnd, Rules}
use Rattle.lab_run.specs.Stage.{Session, Stage, after_close, after_open, claims_without, ended_client, ended_reader, lobby_without}

-- what a phase allows
abbrev pub card_end : Session → Stage → List Line → CardEnd
card_end session stage lines =
    record { ring = session.ring; position = stage.position + played_in lines; gone = stage.gone }

abbrev pub rules_of : Session → Stage → List Line → Rules
rules_of session stage lines =
    record {
      at = card_end session stage lines;
      published = phase_positions session.card.period stage.position lines;
    }

-- an actor that was stopped ends with the phase
abbrev pub is_stopped : Option PlaybackStream → Bool
is_stopped None = false
is_stopped (Some c) = c.status.stopped

abbrev pub is_reader_stopped : Option reading.CaptureStream → Bool
is_reader_stopped None = false
is_reader_stopped (Some r) = r.status.stopped

abbrev pub reaped_client_if : Bool → Geometry → AtPort × Client → AtPort × Client
reaped_client_if true ring client = ended_client ring client
reaped_client_if false ring client = client

abbrev pub reaped_client : Geometry → AtPort × Client → AtPort × Client
reaped_client ring client = reaped_client_if (is_stopped client.1.own) ring client

abbrev pub reaped_reader_if : Bool → Geometry → AtPort × Reader → AtPort × Reader
reaped_reader_if true ring reader = ended_reader ring reader
reaped_reader_if false ring reader = reader

abbrev pub reaped_reader : Geometry → AtPort × Reader → AtPort × Reader
reaped_reader ring reader = reaped_reader_if (is_reader_stopped reader.1.own) ring reader

-- the places and the claims
pub record Held : Type 0 where
  pub lobby : Lobby
  pub claims : List owners.ClaimRow

abbrev pub held_of : Stage → Held
held_of stage = record { lobby = stage.lobby; claims = stage.claims }

-- the places and the claims after a client was reaped, if it was stopped
abbrev pub held_without : Session → ℕ → AtPort → Option PlaybackStream → Held → Held
held_without session number a None held = held
held_without session number a (Some c) held = record {
  lobby = lobby_without session.ring number a held.lobby;
  claims = claims_without session a c held.claims;
}

abbrev pub reaped_one : Session → ℕ → AtPort × Client → Bool → Held → Held
reaped_one session number client true held = held_without session number client.0 client.1.own held
reaped_one session number client false held = held

-- the places and the claims after the stopped clients were reaped, the first of which has a number
abbrev pub held_after : Session → ℕ → List (AtPort × Client) → Held → Held
held_after session number [] held = held
held_after session number (client ∷ clients) held =
    held_after session (number + 1) clients
    (reaped_one session number client (is_stopped client.1.own) held)

-- a phase, by what its clients and readers are after their lines, and by their rows
abbrev pub phase_end : Session → Stage → List Line → List (AtPort × Client) × List Row
    → List (AtPort × Reader) × List Row → Stage
phase_end session stage lines (clients, client_rows) (readers, reader_rows) = record {
  phases = stage.phases + 1;
  position = stage.position + played_in lines;
  gone = stage.gone || unplugs lines;
  lobby = (held_after session 0 clients (held_of stage)).lobby;
  claims = (held_after session 0 clients (held_of stage)).claims;
  clients = map (reaped_client session.ring) clients;
  readers = map (reaped_reader session.ring) readers;
  rows =
      stage.rows ++ card_rows (stage.phases + 1) stage.position (ops_by is_of_card lines)
      ++ client_rows ++ reader_rows;
}

abbrev pub no_sound : Sound
no_sound = record { channels = 1; rate = 1; samples = [] }

abbrev pub client_kinds : Session → Stage → ℕ → Kind Client
client_kinds session stage number =
    client_kind (stage.phases + 1) (slice_index_or session.sounds number no_sound) number

abbrev pub reader_kinds : Stage → ℕ → Kind Reader
reader_kinds stage number = reader_kind (stage.phases + 1) number

-- a phase may go so
pub record PhaseMay (session : Session) (stage : Stage) (lines : List Line)
    (after : Stage) : Type 0 where
  pub clients : List (AtPort × Client)
  pub client_rows : List Row
  pub readers : List (AtPort × Reader)
  pub reader_rows : List Row
  pub clients_may : EachMay (client_kinds session stage) (rules_of session stage lines)
      (λ n. ops_by (is_client n) lines) 0 stage.clients clients client_rows
  pub readers_may : EachMay (reader_kinds stage) (rules_of session stage lines)
      (λ n. ops_by (is_reader n) lines) 0 stage.readers readers reader_rows
  pub is : after ≡ phase_end session stage lines (clients, client_rows) (readers, reader_rows)

-- what a phase makes of its clients, and of its readers, where it leaves no choice
abbrev pub clients_text : Session → Stage → List Line → List (AtPort × Client) × List Row
clients_text session stage lines =
    each_text (client_kinds session stage) (card_end session stage lines)
    (λ n. ops_by (is_client n) lines) 0 stage.clients

abbrev pub readers_text : Session → Stage → List Line → List (AtPort × Reader) × List Row
readers_text session stage lines =
    each_text (reader_kinds stage) (card_end session stage lines)
    (λ n. ops_by (is_reader n) lines) 0 stage.readers

abbrev pub phase_text : Session → Stage → List Line → Stage
phase_text session stage lines =
    phase_end session stage lines (clients_text session stage lines)
    (readers_text session stage lines)

-- an item may go so
abbrev pub ItemMay : Session → Stage → Item → Stage → Type 0
ItemMay session stage (item.Opens number actor) after = after ≡ after_open session stage actor
ItemMay session stage (item.Closes number actor) after = after ≡ after_close session stage actor
ItemMay session stage (item.Phase lines) after = PhaseMay session stage lines after

abbrev pub item_text : Session → Stage → Item → Stage
item_text session stage (item.Opens number actor) = after_open session stage actor
item_text session stage (item.Closes number actor) = after_close session stage actor
item_text session stage (item.Phase lines) = phase_text session stage lines

-- items may go so, one after the other
abbrev pub ItemsMay : Session → Stage → List Item → Stage → Type 0
ItemsMay session stage [] after = after ≡ stage
ItemsMay session stage (item ∷ items) after =
    (between : Stage) × ItemMay session stage item between × ItemsMay session between items after

abbrev pub items_text : Session → Stage → List Item → Stage
items_text session stage [] = stage
items_text session stage (item ∷ items) = items_text session (item_text session stage item) items
