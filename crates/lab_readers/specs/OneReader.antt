-- A reader of a script in the lab: what it is in a run, and how it is at the card's snoop ring.
use Rattle.atomic_table.specs.Seated.{TableId}
use Rattle.std.specs.Prelude.{◌≡◌, ℕ, ◌≤◌, List, length, Option, Some, None, ⊤}
use Rattle.snd_base.specs.declared.geometry.Geometry.{Geometry}
use Rattle.snoop_table.specs.declared.seats.reader.ReaderSeat.{ReaderSeat}
use Rattle.snoop_table.specs.Readers.{geometry_of, ring_of, seat_view, seen_of}
use Rattle.card_sim.specs.declared.card.Card.{Card}
use Rattle.dsnoop_client.specs.declared.stream.CaptureStream.{CaptureStream}
use Rattle.dsnoop_client.specs.View.{CanUse}
use Rattle.lab_lines.specs.declared.line.Line.{Line}
use Rattle.lab_lines.specs.declared.line.Op.{Op}
use Rattle.lab_lines.specs.declared.row.Row.{Row}
use Rattle.lab_run.specs.Phases.{is_reader, ops_by, played_in}
use Rattle.lab_run.specs.Reader.{Reader}
use Rattle.lab_run.specs.Rules.{AtPort}
use Rattle.lab_run.specs.Stage.{new_port}
use Rattle.lab_card.specs.Meets.{IsReaderOf}
use Rattle.lab_actors.specs.Room.{HasSpace}
use Rattle.lab_readers.specs.declared.lines.ReaderActor.{ReaderActor}
use Rattle.lab_readers.specs.FrameRuns.{frames_of_runs}
use Rattle.lab_readers.specs.Parts as actors
use Rattle.lab_readers.specs.declared.reader.LabReader.{LabReader}

-- a reader's stream with what it read, and its seat where it is open
abbrev pub actor_of : LabReader → ReaderActor
actor_of r = r.actor

abbrev pub seat_of : LabReader → Option ReaderSeat
seat_of r = r.seat

-- its number, and what a phase asks of it, in order
abbrev pub number_of : LabReader → ℕ
number_of r = r.actor.number

abbrev pub ops_of : LabReader → List Line → List Op
ops_of r lines = ops_by (is_reader (number_of r)) lines

-- the rows of its lines that weren't taken yet
abbrev pub rows_of : LabReader → List Row
rows_of r = r.actor.rows.items

-- its stream, where it has a seat
abbrev pub stream_at : Option ReaderSeat → ReaderActor → Option CaptureStream
stream_at None actor = None
stream_at (Some seat) actor = Some actor.reader

-- the reader as a run has it
abbrev pub reader_in_run : Option ReaderSeat → ReaderActor → Reader
reader_in_run seat actor = record { own = stream_at seat actor; frames = frames_of_runs actor.frames.runs }

abbrev pub reader_in : LabReader → Reader
reader_in r = reader_in_run r.seat r.actor

-- a fact of a reader's seat where it is open; and of the seats of one that is open before and after, where it isn't open after
-- if it wasn't before
abbrev pub OnSeat : Option ReaderSeat → (ReaderSeat → Type 0) → Type 0
OnSeat None P = ⊤
OnSeat (Some seat) P = P seat

abbrev pub OnSeats : Option ReaderSeat → Option ReaderSeat → (ReaderSeat → ReaderSeat → Type 0)
    → Type 0
OnSeats None None P = ⊤
OnSeats (Some seat) (Some after) P = P seat after
OnSeats before after P = ⊥

-- it is of a card's snoop ring, where it is open
abbrev pub IsOfCard : Card → LabReader → Type 0
IsOfCard card r = OnSeat r.seat (IsReaderOf card)

-- it can use its seat
abbrev pub CanRun : LabReader → Type 0
CanRun r = OnSeat r.seat (λ seat. CanUse r.actor.reader (seat_view seat))

-- an open reader at its seat of a ring of a geometry: it is like an actor of a run at its port
pub record IsOpenAt (ring : TableId) (geometry : Geometry) (actor : ReaderActor)
    (seat : ReaderSeat) (a : AtPort) : Type 0 where
  pub of_ring : ring_of seat ≡ ring
  pub of_geometry : geometry_of seat ≡ geometry
  pub usable : CanUse actor.reader (seat_view seat)
  pub seen : a.seen ≤ seen_of seat
  pub left : a.left ≡ actor.left

-- one that isn't open is like an actor at a new port
abbrev pub IsSeatedAt : TableId → Geometry → ReaderActor → Option ReaderSeat → AtPort → Type 0
IsSeatedAt ring geometry actor None a = a ≡ new_port geometry a.by_gate a.at_gate
IsSeatedAt ring geometry actor (Some seat) a = IsOpenAt ring geometry actor seat a

abbrev pub IsAt : TableId → Geometry → LabReader → AtPort → Type 0
IsAt ring geometry r a = IsSeatedAt ring geometry r.actor r.seat a

-- it has the room that its lines want in a phase in which the card plays so many frames: a row each, and where it is open what they may read
abbrev pub HasRoomAt : Option ReaderSeat → ReaderActor → ℕ → List Op → Type 0
HasRoomAt None actor played ops = HasSpace (length ops) actor.rows
HasRoomAt (Some seat) actor played ops =
    actors.HasRoomFor actor (geometry_of seat).frames played ops

abbrev pub HasRoom : List Line → LabReader → Type 0
HasRoom lines r = HasRoomAt r.seat r.actor (played_in lines) (ops_of r lines)
