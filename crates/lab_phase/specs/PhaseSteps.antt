-- What the steps of a phase make of the card, the clients and the readers of a lab.
use Rattle.std.specs.Prelude.{◌≡◌, ℕ, ◌+◌, ◌≤◌, List, [], ◌++◌, Option, drop, length, take}
use Rattle.std.specs.List.{flat_map}
use Rattle.std.proofs.Common.{ap, arith, refl}
use Rattle.std.proofs.lemmas.List.{length-append}
use Rattle.mix_core.specs.declared.gate.Gate as gate
use Rattle.wav_io.specs.Sound.{Sound}
use Rattle.card_sim.specs.declared.card.Card.{Card}
use Rattle.lab_lines.specs.declared.line.Line.{Line}
use Rattle.lab_lines.specs.Script.{is_of_card}
use Rattle.lab_lines.specs.declared.row.Row.{Row}
use Rattle.lab_run.specs.Phases.{ops_by}
use Rattle.lab_actors.specs.Walks.{AreEach, AreEach-same}
use Rattle.lab_card.specs.declared.card.CardActor.{CardActor}
use Rattle.lab_card.specs.CardLines.{CardPart, frames_by}
use Rattle.lab_card.specs.Meets.{IsSameCard}
use Rattle.lab_card.specs.Room as card_room
use Rattle.lab_clients.specs.OneClient as client
use Rattle.lab_clients.specs.declared.clients.LabClients.{LabClients}
use Rattle.lab_clients.specs.AtStage.{clients_of, places_of}
use Rattle.lab_clients.specs.Steps as clients
use Rattle.lab_readers.specs.OneReader as reader
use Rattle.lab_readers.specs.declared.readers.LabReaders.{LabReaders}
use Rattle.lab_readers.specs.AtStage.{readers_of}
use Rattle.lab_readers.specs.Steps as readers
use Rattle.lab_readers.specs.Steps.{EachReader}

-- what a phase asks of its actors: its number and its lines, the clients' files, and the file that the card captures
pub record Asks : Type 0 where
  pub sounds : List Sound
  pub capture : Option Sound
  pub phase : ℕ
  pub lines : List Line

-- all have the room that the lines want, and are else as they were
pub record HaveRoom (lines : List Line) (a b : CardActor) (cs ds : LabClients)
    (rs ss : LabReaders) : Type 0 where
  pub card : b.card ≡ a.card
  pub played : b.played.items ≡ a.played.items
  pub rows : b.rows.items ≡ a.rows.items
  pub room : card_room.HasRoom b (length (ops_by is_of_card lines))
      (frames_by (ops_by is_of_card lines))
  pub clients : AreEach (clients.HasTakenRoom lines) 0 (clients_of cs) (clients_of ds)
  pub places : places_of ds ≡ places_of cs
  pub readers : EachReader (readers.HasTakenRoom lines) rs ss

-- a card is as it was, but for its room
pub record IsSameButRoom (a b : CardActor) : Type 0 where
  pub card : b.card ≡ a.card
  pub played : b.played.items ≡ a.played.items
  pub rows : b.rows.items ≡ a.rows.items

-- all are as they were, but for their room
pub record AreSameButRoom (a b : CardActor) (cs ds : LabClients)
    (rs ss : LabReaders) : Type 0 where
  pub card : IsSameButRoom a b
  pub clients : AreEach clients.IsSameWithRows 0 (clients_of cs) (clients_of ds)
  pub places : places_of ds ≡ places_of cs
  pub readers : EachReader readers.IsSameWithRows rs ss

pub AreSameButRoom-card : (a b : CardActor) (cs : LabClients) (rs : LabReaders) → IsSameButRoom a b
    → AreSameButRoom a b cs cs rs rs
AreSameButRoom-card a b cs rs same = record {
  card = same;
  clients = AreEach-same clients.IsSameWithRows 0 (clients_of cs) clients.IsSameWithRows-none;
  places = refl;
  readers = record { spare = refl; each = AreEach-same readers.IsSameWithRows 0 (readers_of rs) readers.IsSameWithRows-none };
}

-- the card did its lines; the clients, and the readers, did theirs, each with its gate
abbrev pub CardHasRun : Asks → CardActor → CardActor → Type 0
CardHasRun asked a b = CardPart asked.capture asked.phase a b (ops_by is_of_card asked.lines)

pub record ClientsHaveRun {T : Type 0} (G : gate.Ghosts T) (gates after : List T)
    (asked : Asks) (cs ds : LabClients) : Type 0 where
  pub each : AreEach (clients.RunsAt G gates after asked.sounds asked.phase asked.lines)
      0 (clients_of cs) (clients_of ds)
  pub places : places_of ds ≡ places_of cs

abbrev pub ReadersHaveRun : {T : Type 0} → gate.Ghosts T → List T → List T → Asks
    → LabReaders → LabReaders → Type 0
ReadersHaveRun G gates after asked rs ss =
    EachReader (readers.RunsAt G gates after asked.phase asked.lines) rs ss

-- all did their lines
pub record HaveRun {T : Type 0} (G : gate.Ghosts T) (near near_after far far_after : List T)
    (asked : Asks) (a b : CardActor) (cs ds : LabClients) (rs ss : LabReaders) : Type 0 where
  pub card : CardHasRun asked a b
  pub clients : ClientsHaveRun G near near_after asked cs ds
  pub readers : ReadersHaveRun G far far_after asked rs ss

-- a card that met notes or gave some, and did nothing else
pub record IsSameButCard (a b : CardActor) : Type 0 where
  pub card : IsSameCard a.card b.card
  pub played : b.played ≡ a.played
  pub rows : b.rows ≡ a.rows
  pub captured : b.captured ≡ a.captured

-- The meets before the lines, the lines, and the meets after them.
pub record HaveMet {T : Type 0} (G : gate.Ghosts T) (near near_after far far_after : List T)
    (asked : Asks) (a : CardActor) (cs : LabClients) (rs : LabReaders)
    (f : CardActor) (fs : LabClients) (gs : LabReaders) : Type 0 where
  pub between : Card
  pub before : CardActor
  pub after : CardActor
  pub heard : Card
  pub informed_clients : LabClients
  pub informed_readers : LabReaders
  pub run_clients : LabClients
  pub run_readers : LabReaders
  pub first : IsSameCard a.card between
  pub second : IsSameButCard a before
  pub inform_clients : AreEach (clients.IsInformedBy a.card) 0 (clients_of cs)
      (clients_of informed_clients)
  pub inform_readers : EachReader (readers.IsInformedBy between) rs informed_readers
  pub run : HaveRun G near near_after far far_after asked before after
      informed_clients run_clients informed_readers run_readers
  pub third : IsSameCard after.card heard
  pub last : IsSameButCard after f
  pub hear_clients : AreEach (clients.IsHeardBy after.card) 0 (clients_of run_clients)
      (clients_of fs)
  pub hear_readers : EachReader (readers.IsHeardBy heard) run_readers gs
  pub places : places_of fs ≡ places_of cs

-- the rows of a phase: the card's, then the clients', then the readers'
abbrev pub rows_by : CardActor → LabClients → LabReaders → List Row
rows_by a cs rs =
    a.rows.items ++ flat_map client.rows_of (clients_of cs)
    ++ flat_map reader.rows_of (readers_of rs)

-- Whatever actors do by the lines of a phase, once they took the room of them, they have no more rows of it than it has lines.
abbrev pub GiveFewRows : {T : Type 0} → gate.Ghosts T → List T → Asks → CardActor → LabClients
    → LabReaders → Type 0
GiveFewRows {T = T} G gates asked a cs rs =
    (gates_after : List T) (b d : CardActor) (ds es : LabClients) (ss ts : LabReaders)
    → HaveRoom asked.lines a b cs ds rs ss
    → HaveMet G (take 64 gates) (take 64 gates_after) (drop 64 gates) (drop 64 gates_after)
    asked b ds ss d es ts
    → length (rows_by d es ts) ≤ length asked.lines

-- the rows of all were moved to the end of the lab's
pub record HaveGivenRows (rows after : List Row) (a b : CardActor) (cs ds : LabClients)
    (rs ss : LabReaders) : Type 0 where
  pub all : after ≡ rows ++ a.rows.items ++ flat_map client.rows_of (clients_of cs)
      ++ flat_map reader.rows_of (readers_of rs)
  pub card : b.card ≡ a.card
  pub played : b.played ≡ a.played
  pub none : b.rows.items ≡ []
  pub clients : AreEach clients.HasGivenRows 0 (clients_of cs) (clients_of ds)
  pub places : places_of ds ≡ places_of cs
  pub readers : EachReader readers.HasGivenRows rs ss

-- so many they are then
pub length-given : (rows after : List Row) (a b : CardActor) (cs ds : LabClients) (rs ss : LabReaders) → HaveGivenRows rows after a b cs ds rs ss
    → length after ≡ length rows + length (rows_by a cs rs)
length-given rows after a b cs ds rs ss given =
    let own : List Row = a.rows.items in
    let others : List Row = flat_map client.rows_of (clients_of cs) in
    let more : List Row = flat_map reader.rows_of (readers_of rs) in
    let all = ap length given.all in
    let all_of = length-append (rows ++ own ++ others) more in
    let two_of = length-append (rows ++ own) others in
    let one_of = length-append rows own in
    let by = length-append (own ++ others) more in
    let by_two = length-append own others in
    omega (arith, all, all_of, two_of, one_of, by, by_two)
