-- What a phase asks of the card, the clients and the readers of a lab, and what they need to do it.
use Rattle.std.specs.Prelude.{◌≡◌, ℕ, ◌+◌, ◌≤◌, nat_lt, if◌then◌else◌, List, All, count_by, length}
use Rattle.std.specs.Option.{option_copied}
use Rattle.card_sim.specs.declared.card.Card.{Card}
use Rattle.lab_lines.specs.declared.line.Line.{Line}
use Rattle.lab_lines.specs.Script.{is_of_card}
use Rattle.lab_run.specs.Phases.{ops_by}
use Rattle.lab_clients.specs.Lines.{IsFew}
use Rattle.lab_readers.specs.Lines.{IsFewRead}
use Rattle.lab_card.specs.declared.card.CardActor.{CardActor}
use Rattle.lab_card.specs.CardLines.{frames_by}
use Rattle.lab_card.specs.Room.{FitsRing, HasRoom}
use Rattle.lab_clients.specs.declared.clients.LabClients.{LabClients}
use Rattle.lab_clients.specs.AtStage.{clients_of}
use Rattle.lab_actors.specs.Walks.{AreEach}
use Rattle.lab_clients.specs.Steps.{AreOfCard, AreReady, IsInformedBy, has_lines}
use Rattle.lab_readers.specs.OneReader.{IsOfCard}
use Rattle.lab_readers.specs.declared.readers.LabReaders.{LabReaders}
use Rattle.lab_readers.specs.AtStage.{readers_of}
use Rattle.lab_readers.specs.Steps as readers
use Rattle.lab_readers.specs.Steps.{EachReader, IsReady, has_lines as reader_has_lines}
use Rattle.lab_phase.specs.declared.steps.PhaseInput.{PhaseInput}
use Rattle.lab_phase.specs.PhaseSteps.{Asks}

abbrev pub asks_of : PhaseInput → Asks
asks_of asked =
    record {
      sounds = asked.wavs.now;
      capture = option_copied asked.capture;
      phase = asked.phase;
      lines = asked.lines.now;
    }

-- the card can do its lines, and has the room of them
pub record CardCanRun (lines : List Line) (a : CardActor) : Type 0 where
  pub fits : FitsRing a (ops_by is_of_card lines)
  pub room : HasRoom a (length (ops_by is_of_card lines)) (frames_by (ops_by is_of_card lines))

-- the clients can do their lines: there is a gate for each
pub record ClientsCanRun (gates : ℕ) (asked : PhaseInput) (cs : LabClients) : Type 0 where
  pub writes : All (λ (line : Line). IsFew line.op) asked.lines.now
  pub enough : length (clients_of cs) ≤ gates
  pub files : length asked.wavs.now ≡ length (clients_of cs)
  pub ready : AreReady asked.wavs.now asked.lines.now (clients_of cs)

-- the readers can do their lines: there is a gate for each
pub record ReadersCanRun (gates : ℕ) (asked : PhaseInput) (rs : LabReaders) : Type 0 where
  pub reads : All (λ (line : Line). IsFewRead line.op) asked.lines.now
  pub enough : length (readers_of rs) ≤ gates
  pub ready : All (IsReady asked.lines.now) (readers_of rs)

-- all can meet the card, and do their lines then: there are 64 gates for clients, and one for each reader
pub record CanMeet (gates : ℕ) (asked : PhaseInput) (a : CardActor) (cs : LabClients)
    (rs : LabReaders) : Type 0 where
  pub card : CardCanRun asked.lines.now a
  pub clients_of_card : AreOfCard a.card (clients_of cs)
  pub readers_of_card : All (IsOfCard a.card) (readers_of rs)
  pub few_clients : length (clients_of cs) ≤ 64
  pub few_readers : 64 + length (readers_of rs) ≤ gates
  pub files : length asked.wavs.now ≡ length (clients_of cs)
  pub writes : All (λ (line : Line). IsFew line.op) asked.lines.now
  pub reads : All (λ (line : Line). IsFewRead line.op) asked.lines.now
  pub clients_ready : (c : Card) (ds : LabClients)
      → AreEach (IsInformedBy c) 0 (clients_of cs) (clients_of ds)
      → AreReady asked.wavs.now asked.lines.now (clients_of ds)
  pub readers_ready : (c : Card) (ss : LabReaders) → EachReader (readers.IsInformedBy c) rs ss
      → All (IsReady asked.lines.now) (readers_of ss)

-- how many of the card, the clients and the readers have lines
abbrev pub busy_in : List Line → LabClients → LabReaders → ℕ
busy_in lines cs rs =
    (if nat_lt 0 (length (ops_by is_of_card lines)) then 1 else 0)
    + count_by (has_lines lines) (clients_of cs) + count_by (reader_has_lines lines) (readers_of rs)
