-- What the steps of a phase make of a reader.
use Rattle.std.specs.Prelude.{◌≡◌, ℕ, List, ◌++◌, Option, Some, None}
use Rattle.snoop_table.specs.declared.seats.reader.ReaderSeat.{ReaderSeat}
use Rattle.snoop_table.specs.Readers.{SameReader, seat_view}
use Rattle.card_sim.specs.declared.card.Card.{Card}
use Rattle.dsnoop_client.specs.View.{CanUse}
use Rattle.lab_lines.specs.declared.line.Actor.TheVariants as actor
use Rattle.lab_lines.specs.declared.line.Line.{Line}
use Rattle.lab_lines.specs.declared.line.Op.{Op}
use Rattle.lab_run.specs.Phases.{played_in}
use Rattle.lab_card.specs.Meets.{IsInformedReader, IsSameReader, KnowsReader}
use Rattle.lab_actors.specs.Shares.{at_gate_in, left_in, stops_in}
use Rattle.lab_actors.specs.Refused.{AreRefused, refused_rows}
use Rattle.lab_readers.specs.declared.lines.ReaderActor.{ReaderActor}
use Rattle.lab_readers.specs.Parts.{ReaderPart}
use Rattle.lab_readers.specs.declared.reader.LabReader.{LabReader}
use Rattle.lab_readers.specs.OneReader.{OnSeats, ops_of}
use Rattle.lab_readers.specs.SeatPort.{seat_port}

-- it met a note of the card, where it is open
pub record IsReaderInformed (card : Card) (r s : LabReader) : Type 0 where
  pub actor : s.actor ≡ r.actor
  pub seats : OnSeats r.seat s.seat (IsInformedReader card)
  pub read_before : s.read_before ≡ r.read_before

-- the card met its note, where it is open
pub record IsReaderHeard (card : Card) (r s : LabReader) : Type 0 where
  pub actor : s.actor ≡ r.actor
  pub seats : OnSeats r.seat s.seat IsSameReader
  pub knows : OnSeats r.seat s.seat (λ seat after. KnowsReader card after)
  pub read_before : s.read_before ≡ r.read_before

-- its number and what it read are as before
pub record HasSameFile (a b : ReaderActor) : Type 0 where
  pub number : b.number ≡ a.number
  pub frames : b.frames.runs ≡ a.frames.runs
  pub samples : b.samples.items ≡ a.samples.items

-- it is as before but for its rows
pub record IsSameBut (r s : LabReader) : Type 0 where
  pub seat : s.seat ≡ r.seat
  pub stream : s.actor.reader ≡ r.actor.reader
  pub left : s.actor.left ≡ r.actor.left
  pub file : HasSameFile r.actor s.actor
  pub read_before : s.read_before ≡ r.read_before

-- what lines made of an open reader at its seat, with a gate that stopped so often before them and after them, and that it asked so often, in a phase
-- in which the card plays so many frames
pub record HasRun (phase stops after asks played : ℕ) (ops : List Op) (a b : ReaderActor)
    (seat later : ReaderSeat) : Type 0 where
  pub part : ReaderPart seat_port left_in stops_in at_gate_in (seat, (a.left, stops, 0))
      (later, (b.left, after, asks)) phase played a b ops
  pub same_ring : SameReader seat later
  pub usable : CanUse b.reader (seat_view later)

-- what lines made of one that isn't open: each was refused, and its gate wasn't asked
pub record AllRefused (phase stops after asks : ℕ) (ops : List Op) (a b : ReaderActor) : Type 0 where
  pub rows : b.rows.items ≡ a.rows.items ++ refused_rows phase (actor.Reader a.number) ops
  pub part : AreRefused phase a.number ops
  pub file : HasSameFile a b
  pub same_stops : after ≡ stops
  pub no_asks : asks ≡ 0

abbrev pub HasRunAt : ℕ → ℕ → ℕ → ℕ → ℕ → List Op → ReaderActor → ReaderActor
    → Option ReaderSeat → Option ReaderSeat → Type 0
HasRunAt phase stops after asks played ops a b None None = AllRefused phase stops after asks ops a b
HasRunAt phase stops after asks played ops a b (Some seat) (Some later) =
    HasRun phase stops after asks played ops a b seat later
HasRunAt phase stops after asks played ops a b seat later = ⊥

-- it did its lines of a phase
pub record RunsLines (phase stops after asks : ℕ) (lines : List Line) (r s : LabReader) : Type 0 where
  pub ran : HasRunAt phase stops after asks (played_in lines) (ops_of r lines) r.actor s.actor
      r.seat s.seat
  pub read_before : s.read_before ≡ r.read_before
