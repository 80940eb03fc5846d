-- The lab is at a stage of a run of its script.
use Rattle.std.specs.Prelude.{◌≡◌, ℕ, ◌+◌, ℤ, List, [], ◌∷◌, ◌++◌, length, slice_get, Option, Some, None, IsSomeAnd, ⊤}
use Rattle.std.specs.Option.{option_copied}
use Rattle.std.proofs.Common.{ap, ◌∙◌}
use Rattle.sum_table.specs.Players.{player_key, player_ring}
use Rattle.snoop_table.specs.Writers.{writer_geometry, writer_ring}
use Rattle.wav_io.specs.Sound.{Sound}
use Rattle.card_sim.specs.declared.card.Card.{Card}
use Rattle.card_sim.specs.Runs.{writer_of}
use Rattle.lab_lines.specs.declared.line.Item.{Item}
use Rattle.lab_lines.specs.declared.line.Item.TheVariants as item
use Rattle.lab_lines.specs.declared.script.Script.{Script}
use Rattle.lab_lines.specs.declared.row.Row.{Row}
use Rattle.lab_run.specs.Items.{ItemMay, held_of}
use Rattle.lab_run.specs.Openings.{IsSessionOf}
use Rattle.lab_run.specs.ScriptWords.{IsReached}
use Rattle.lab_run.specs.Stage.{Session, Stage, after_close, after_open}
use Rattle.lab_card.specs.declared.card.CardActor.{CardActor}
use Rattle.lab_card.specs.Moves.{seat_of_card}
use Rattle.lab_places.specs.Held.{key_of_places, ring_of_places}
use Rattle.lab_actors.specs.Sessions.{AreUsable, session_with}
use Rattle.lab_clients.specs.AtStage as clients
use Rattle.lab_clients.specs.declared.clients.LabClients.{LabClients}
use Rattle.lab_readers.specs.AtStage as readers
use Rattle.lab_readers.specs.declared.readers.LabReaders.{LabReaders}
use Rattle.lab_phase.specs.declared.lab.Lab.{Lab}
use Rattle.lab_phase.specs.CardStage.{IsCardIn}
use Rattle.lab_phase.specs.ReportRoom.{HasReportRoom}

-- the script that a lab runs, and how many items of its body are done
abbrev pub script_of : Lab → Script
script_of lab = lab.script.now

abbrev pub items_done : Lab → ℕ
items_done lab = lab.next

-- the session that a lab runs, and the file that its card captures
abbrev pub session_of : Lab → Session
session_of lab = session_with lab.script.now lab.wavs.now lab.openings

abbrev pub capture_of : Lab → Option Sound
capture_of lab = option_copied lab.capture

-- the places of clients, and the seats of readers, are of a card's rings
pub record AreOfRings (c : Card) (cs : LabClients) (rs : LabReaders) : Type 0 where
  pub sum_ring : ring_of_places (clients.places_of cs) ≡ player_ring (seat_of_card c)
  pub sum_key : key_of_places (clients.places_of cs) ≡ player_key (seat_of_card c)
  pub snoop_ring : readers.ring_of rs ≡ writer_ring (writer_of c)
  pub snoop_geometry : readers.geometry_of rs ≡ writer_geometry (writer_of c)

-- the card of a lab between two items: its rows are the lab's, and its sum ring has as many places as the session's card
pub record IsCardOf (session : Session) (capture : Option Sound) (stage : Stage)
    (cs : LabClients) (rs : LabReaders) (a : CardActor) : Type 0 where
  pub is : IsCardIn session capture stage a
  pub rows : a.rows.items ≡ []
  pub rings : AreOfRings a.card cs rs
  pub all_places : (key_of_places (clients.places_of cs)).places ≡ session.card.places

-- the card, the clients and the readers of a lab are those of a stage
pub record AreActorsOf (session : Session) (capture : Option Sound) (stage : Stage)
    (card : Option CardActor) (cs : LabClients) (rs : LabReaders) : Type 0 where
  pub card_is : IsSomeAnd card (IsCardOf session capture stage cs rs)
  pub clients_are : clients.AreAt session (held_of stage) stage.clients cs
  pub readers_are : readers.AreAt session capture stage.readers rs

-- the lab has done the items of its script's body before its next one, which a run may do so
pub record HasDone (lab : Lab) (stage : Stage) : Type 0 where
  pub done : List Item
  pub others : List Item
  pub next : lab.next ≡ length done
  pub reached : IsReached lab.script.now lab.wavs.now (session_of lab) done others stage

-- each client and reader that has an opening can be opened so at the card
pub record AreSetUp (lab : Lab) : Type 0 where
  pub clients : AreUsable lab.script.now.card.channels lab.script.now.card.ring
      lab.openings.clients.items
  pub readers : AreUsable lab.script.now.card.channels lab.script.now.card.ring
      lab.openings.readers.items

-- readers at the same ring
pub record IsSameRing (rs ss : LabReaders) : Type 0 where
  pub ring : readers.ring_of ss ≡ readers.ring_of rs
  pub geometry : readers.geometry_of ss ≡ readers.geometry_of rs

-- its actors are those of a stage
abbrev pub AreActorsAt : Lab → Stage → Type 0
AreActorsAt lab stage =
    AreActorsOf (session_of lab) (capture_of lab) stage lab.card lab.clients lab.readers

-- it has the room that the end of its run wants where its report has so many rows more
abbrev pub HasEndRoom : ℕ → Lab → Type 0
HasEndRoom more lab =
    HasReportRoom (length lab.rows.items + more) (length lab.script.now.readers) lab.room

pub record IsAtStage (lab : Lab) (stage : Stage) : Type 0 where
  pub actors : AreActorsAt lab stage
  pub rows : lab.rows.items ≡ stage.rows
  pub phases : lab.phases ≡ stage.phases
  pub has_done : HasDone lab stage
  pub set_up : AreSetUp lab
  pub room : HasEndRoom 0 lab

-- it runs the same script over the same files
pub record IsSameScript (lab after : Lab) : Type 0 where
  pub script : after.script.now ≡ lab.script.now
  pub wavs : after.wavs.now ≡ lab.wavs.now
  pub capture : capture_of after ≡ capture_of lab
  pub openings : after.openings ≡ lab.openings

-- the lab did an item of its script as a run may do it
pub record HasDoneItem (lab : Lab) (item : Item) (after : Lab) (stage : Stage) : Type 0 where
  pub next : Stage
  pub may : ItemMay (session_of lab) stage item next
  pub is : IsAtStage after next

-- the lab did an item, at whatever stage it was, of the script that it runs
pub record DoesItem (lab : Lab) (item : Item) (after : Lab) : Type 0 where
  pub same : IsSameScript lab after
  pub next : items_done after ≡ items_done lab + 1
  pub does : (stage : Stage) → IsAtStage lab stage → HasDoneItem lab item after stage

-- this is the next item of its script
abbrev pub IsNextItem : Lab → Item → Type 0
IsNextItem lab item = slice_get lab.script.now.body lab.next ≡ Some item

-- the item of a script whose number is that of the items that are done
pub IsNextItem-at : (lab : Lab) (script : Script) (done : ℕ) (item : Item) → script_of lab ≡ script
    → items_done lab ≡ done → slice_get script.body done ≡ Some item
    → IsNextItem lab item
IsNextItem-at lab script done item same count is =
    ap (λ (n : ℕ). slice_get lab.script.now.body n) count ∙ (ap (λ (s : Script). slice_get s.body done) same ∙ is)

-- it is at a stage of a run
pub record IsLab (lab : Lab) : Type 0 where
  pub stage : Stage
  pub at : IsAtStage lab stage

-- an item is no phase
abbrev pub IsBorderItem : Item → Type 0
IsBorderItem (item.Opens number actor) = ⊤
IsBorderItem (item.Closes number actor) = ⊤
IsBorderItem (item.Phase lines) = ⊥

-- the stage after such an item
abbrev pub border_after : Session → Stage → Item → Stage
border_after session stage (item.Opens number actor) = after_open session stage actor
border_after session stage (item.Closes number actor) = after_close session stage actor
border_after session stage (item.Phase lines) = stage

-- a lab of a script, over these files
pub record IsOfScript (script : Script) (wavs : List Sound) (capture : Option Sound)
    (lab : Lab) : Type 0 where
  pub script_is : lab.script.now ≡ script
  pub wavs_are : lab.wavs.now ≡ wavs
  pub capture_is : capture_of lab ≡ capture
  pub session_is : IsSessionOf script wavs (session_of lab)

-- ---- within an item

-- it has one row more, and did one item more; else it is as before
pub record AddsRow (row : Row) (lab after : Lab) : Type 0 where
  pub same : IsSameScript lab after
  pub card : after.card ≡ lab.card
  pub clients : after.clients ≡ lab.clients
  pub readers : after.readers ≡ lab.readers
  pub rows : after.rows.items ≡ lab.rows.items ++ row ∷ []
  pub room : after.room ≡ lab.room
  pub phases : after.phases ≡ lab.phases
  pub next : after.next ≡ lab.next + 1

-- the lab's rows, its room, and how many phases and items it did, are as before
pub record IsSameCount (lab after : Lab) : Type 0 where
  pub rows : after.rows ≡ lab.rows
  pub room : after.room ≡ lab.room
  pub phases : after.phases ≡ lab.phases
  pub next : after.next ≡ lab.next

-- its actors are those of the next stage, which has one row more
pub record HasRowAt (lab : Lab) (stage next : Stage) (row : Row) (after : Lab) : Type 0 where
  pub actors : AreActorsOf (session_of lab) (capture_of lab) next after.card
      after.clients after.readers
  pub rows : next.rows ≡ stage.rows ++ row ∷ []
  pub phases : next.phases ≡ stage.phases

-- its actors did an item that makes this of a stage, with a row that isn't in the lab's rows yet
pub record DoesRow (step : Stage → Stage) (lab : Lab) (row : Row) (after : Lab) : Type 0 where
  pub same : IsSameScript lab after
  pub count : IsSameCount lab after
  pub does : (stage : Stage) → IsAtStage lab stage → HasRowAt lab stage (step stage) row after

-- ---- what it holds so far

abbrev pub rows_of : Lab → List Row
rows_of lab = lab.rows.items

abbrev pub played_by : Option CardActor → List ℤ
played_by None = []
played_by (Some a) = a.played.items

abbrev pub played_of : Lab → List ℤ
played_of lab = played_by lab.card

-- its readers
abbrev pub readers_in : Lab → LabReaders
readers_in lab = lab.readers
