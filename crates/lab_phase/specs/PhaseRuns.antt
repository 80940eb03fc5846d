-- A phase of a lab: what its steps make of its actors, and what it makes of a stage of a run.
use Rattle.std.specs.Prelude.{◌≡◌, ℕ, ◌+◌, ◌≤◌, ◌++◌, ℤ, List, [], length, Option, Some, drop, map, take}
use Rattle.mix_core.specs.declared.gate.Gate as gate
use Rattle.mix_core.specs.declared.gate.Pass.{Pass}
use Rattle.mix_core.specs.declared.gate.StepKind.{StepKind}
use Rattle.lab_lines.specs.declared.line.Item.TheVariants as item
use Rattle.lab_lines.specs.declared.line.Line.{Line}
use Rattle.lab_lines.specs.declared.row.Row.{Row}
use Rattle.lab_run.specs.Client.{Client}
use Rattle.lab_run.specs.Items.{Held, ItemMay, PhaseMay, held_after, reaped_client, reaped_reader}
use Rattle.lab_run.specs.Reader.{Reader}
use Rattle.lab_run.specs.Rules.{AtPort}
use Rattle.lab_run.specs.Stage.{Session, Stage}
use Rattle.wav_io.specs.Sound.{Sound}
use Rattle.lab_actors.specs.Gates.{AreCounted, HaveAskedMore, stops_at}
use Rattle.lab_actors.specs.Walks.{AreEach}
use Rattle.lab_card.specs.declared.card.CardActor.{CardActor}
use Rattle.lab_places.specs.Held.{IsSameCard}
use Rattle.lab_clients.specs.AtStage as clients
use Rattle.lab_clients.specs.declared.clients.LabClients.{LabClients}
use Rattle.lab_readers.specs.AtStage as readers
use Rattle.lab_readers.specs.declared.readers.LabReaders.{LabReaders}
use Rattle.lab_phase.specs.declared.lab.Lab.{Lab}
use Rattle.lab_phase.specs.AtStage.{AreActorsOf, IsAtStage, IsSameRing, IsSameScript, capture_of, items_done, played_of, session_of}
use Rattle.lab_phase.specs.Borders.{HasSameAsks}
use Rattle.lab_phase.specs.ReportRoom.{KeepsRoom}
use Rattle.lab_phase.specs.PhaseSteps.{AreSameButRoom, Asks, CardHasRun, HaveGivenRows, HaveMet, HaveRoom}

-- ---- the gates

-- how often the gate of each client, and of each reader, stopped it
pub record Stops : Type 0 where
  pub clients : ℕ → ℕ
  pub readers : ℕ → ℕ

-- how often gates stopped: the first 64 are the clients', and those after them the readers'
abbrev pub stops_by : {G : Type 0} → (G → ℕ) → List G → Stops
stops_by stops gates =
    record { clients = stops_at stops (take 64 gates); readers = stops_at stops (drop 64 gates) }

-- the gates stopped the actors as often as a stage counts since the lab began, when they had stopped them so often
pub record AreStopsOf (base stops : Stops) (stage : Stage) : Type 0 where
  pub clients : AreCounted base.clients stops.clients 0 stage.clients
  pub readers : AreCounted base.readers stops.readers 0 stage.readers

-- from a stage to a later one the actors asked these gates as often as the later one counts more
pub record HaveAsked {T : Type 0} (asked : T → T → List StepKind → Pass → Type 0)
    (gates after : List T) (stage next : Stage) : Type 0 where
  pub clients : HaveAskedMore asked (take 64 gates) (take 64 after) stage.clients next.clients
  pub readers : HaveAskedMore asked (drop 64 gates) (drop 64 after) stage.readers next.readers

-- they asked none
pub record HaveSameAsks (stage next : Stage) : Type 0 where
  pub clients : AreEach HasSameAsks 0 stage.clients next.clients
  pub readers : AreEach HasSameAsks 0 stage.readers next.readers

-- a lab is at a stage of a run, and nothing but these gates stopped its actors since it began
pub record IsLabWith (stops : Stops) (lab : Lab) : Type 0 where
  pub stage : Stage
  pub at : IsAtStage lab stage
  pub base : Stops
  pub counted : AreStopsOf base stops stage

-- ---- what a phase makes of a lab

-- samples, and more after them
pub record IsLonger (samples after : List ℤ) : Type 0 where
  pub more : List ℤ
  pub is : after ≡ samples ++ more

-- the lab did a phase as a run may do it, with its gates so
pub record HasDonePhase (Gates : Stage → Stage → Type 0) (base stops : Stops) (lab : Lab)
    (stage : Stage) (lines : List Line) (after : Lab) : Type 0 where
  pub next : Stage
  pub may : ItemMay (session_of lab) stage (item.Phase lines) next
  pub is : IsAtStage after next
  pub counted : AreStopsOf base stops next
  pub gates : Gates stage next

-- the lab did a phase of the script that it runs, at whatever stage it was; its gates stopped actors so often before it, and so often after it, and
-- did so from this stage to the next
pub record DoesPhase (Gates : Stage → Stage → Type 0) (stops stops_after : Stops)
    (lab : Lab) (lines : List Line) (after : Lab) : Type 0 where
  pub same : IsSameScript lab after
  pub next : items_done after ≡ items_done lab + 1
  pub played : IsLonger (played_of lab) (played_of after)
  pub does : (stage : Stage) (base : Stops) → IsAtStage lab stage
      → AreStopsOf base stops stage
      → HasDonePhase Gates base stops_after lab stage lines after

-- its actors are those of the next stage, and its rows that stage's
pub record HasRunPhase (Gates : Stage → Stage → Type 0) (base stops : Stops) (lab : Lab)
    (stage : Stage) (lines : List Line) (after : Lab) : Type 0 where
  pub next : Stage
  pub may : PhaseMay (session_of lab) stage lines next
  pub actors : AreActorsOf (session_of lab) (capture_of lab) next after.card
      after.clients after.readers
  pub rows : after.rows.items ≡ next.rows
  pub counted : AreStopsOf base stops next
  pub gates : Gates stage next

-- the actors did the phase, which isn't counted yet
pub record RunsPhase (Gates : Stage → Stage → Type 0) (stops stops_after : Stops)
    (lab : Lab) (lines : List Line) (after : Lab) : Type 0 where
  pub same : IsSameScript lab after
  pub phases : after.phases ≡ lab.phases
  pub next : after.next ≡ lab.next
  pub room : after.room ≡ lab.room
  pub few : length after.rows.items ≤ length lab.rows.items + length lines
  pub played : IsLonger (played_of lab) (played_of after)
  pub does : (stage : Stage) (base : Stops) → IsAtStage lab stage
      → AreStopsOf base stops stage → HasRunPhase Gates base stops_after lab stage lines after

-- a phase and an item more is counted; else the lab is as before
pub record CountsPhase (lab after : Lab) : Type 0 where
  pub same : IsSameScript lab after
  pub card : after.card ≡ lab.card
  pub clients : after.clients ≡ lab.clients
  pub readers : after.readers ≡ lab.readers
  pub rows : after.rows.items ≡ lab.rows.items
  pub room : after.room ≡ lab.room
  pub phases : after.phases ≡ lab.phases + 1
  pub next : after.next ≡ lab.next + 1

-- ---- the steps

-- the lab is as it was, but for its room
pub record IsSameLab (lab after : Lab) : Type 0 where
  pub same : IsSameScript lab after
  pub rows : after.rows.items ≡ lab.rows.items
  pub room : KeepsRoom lab.room after.room
  pub phases : after.phases ≡ lab.phases
  pub next : after.next ≡ lab.next
  pub card : CardActor
  pub card_after : CardActor
  pub card_is : lab.card ≡ Some card
  pub card_then : after.card ≡ Some card_after
  pub actors : AreSameButRoom card card_after lab.clients after.clients lab.readers after.readers

-- the lab runs its script over the same files, did no item more and played nothing more, and is at whatever stage it was at
pub record StaysAtStage (lab after : Lab) : Type 0 where
  pub same : IsSameScript lab after
  pub next : items_done after ≡ items_done lab
  pub played : played_of after ≡ played_of lab
  pub at : (stage : Stage) → IsAtStage lab stage → IsAtStage after stage

-- the card took the room of its lines, did them, and its rows were moved to the end of the lab's
pub record PlaysAlone (asked : Asks) (rows after : List Row) (a b : CardActor) : Type 0 where
  pub roomy : CardActor
  pub played : CardActor
  pub same_card : roomy.card ≡ a.card
  pub same_samples : roomy.played.items ≡ a.played.items
  pub same_rows : roomy.rows.items ≡ a.rows.items
  pub part : CardHasRun asked roomy played
  pub card_is : b.card ≡ played.card
  pub samples_are : b.played.items ≡ played.played.items
  pub none : b.rows.items ≡ []
  pub all : after ≡ rows ++ played.rows.items
  pub few : length after ≤ length rows + length asked.lines

-- the card, the clients and the readers took the room of their lines, met, did the lines, met again, and gave their rows to the lab
pub record HaveRunLines {T : Type 0} (G : gate.Ghosts T) (gates gates_after : List T) (asked : Asks)
    (rows after : List Row) (a b : CardActor) (cs ds : LabClients) (rs ss : LabReaders)
    : Type 0 where
  pub roomy_card : CardActor
  pub roomy_clients : LabClients
  pub roomy_readers : LabReaders
  pub met_card : CardActor
  pub met_clients : LabClients
  pub met_readers : LabReaders
  pub room : HaveRoom asked.lines a roomy_card cs roomy_clients rs roomy_readers
  pub met : HaveMet G (take 64 gates) (take 64 gates_after) (drop 64 gates)
      (drop 64 gates_after) asked roomy_card roomy_clients roomy_readers met_card
      met_clients met_readers
  pub given : HaveGivenRows rows after met_card b met_clients ds met_readers ss
  pub few : length after ≤ length rows + length asked.lines

-- what a lab asks of its actors in its next phase
abbrev pub asks_of_lab : Lab → List Line → Asks
asks_of_lab lab lines =
    record {
      sounds = lab.wavs.now;
      capture = capture_of lab;
      phase = lab.phases + 1;
      lines = lines;
    }

-- its actors went through a phase's lines; those that were stopped aren't reaped yet
pub record HasRunLines {T : Type 0} (G : gate.Ghosts T) (gates gates_after : List T)
    (lab : Lab) (lines : List Line) (after : Lab) : Type 0 where
  pub same : IsSameScript lab after
  pub room : after.room ≡ lab.room
  pub phases : after.phases ≡ lab.phases
  pub next : after.next ≡ lab.next
  pub card : CardActor
  pub card_after : CardActor
  pub card_is : lab.card ≡ Some card
  pub card_then : after.card ≡ Some card_after
  pub run : HaveRunLines G gates gates_after (asks_of_lab lab lines) lab.rows.items
      after.rows.items card card_after lab.clients after.clients lab.readers after.readers

-- the stopped actors were reaped
pub record Reaps (lab after : Lab) : Type 0 where
  pub same : IsSameScript lab after
  pub card : after.card ≡ lab.card
  pub rows : after.rows ≡ lab.rows
  pub room : after.room ≡ lab.room
  pub phases : after.phases ≡ lab.phases
  pub next : after.next ≡ lab.next
  pub places : IsSameCard (clients.places_of lab.clients) (clients.places_of after.clients)
  pub ring : IsSameRing lab.readers after.readers
  pub clients : (session : Session) (held : Held) (xs : List (AtPort × Client))
      → clients.AreDone session held xs lab.clients
      → clients.AreAt session (held_after session 0 xs held) (map (reaped_client session.ring) xs)
      after.clients
  pub readers : (session : Session) (capture : Option Sound) (xs : List (AtPort × Reader))
      → readers.AreDone session capture xs lab.readers
      → readers.AreAt session capture (map (reaped_reader session.ring) xs) after.readers
