-- What the lines of an open reader did in a phase: its part of a run, its rows, and its frames with their samples.
use Rattle.std.specs.Prelude.{◌≡◌, ℕ, ◌+◌, ◌*◌, ◌≤◌, ℤ, List, [], ◌∷◌, ◌++◌, length, Option, Some, sum_by, vec_capacity, vec_len}
use Rattle.snd_base.specs.declared.geometry.Geometry.{Geometry}
use Rattle.mix_core.specs.declared.gate.Gate as gates
use Rattle.snoop_core.specs.declared.port.SnoopPort as snoopport
use Rattle.snoop_core.specs.Port.{SnoopView}
use Rattle.dsnoop_client.specs.FewerReads.{most_read}
use Rattle.lab_lines.specs.declared.line.Line.{Line}
use Rattle.lab_lines.specs.declared.line.Op.{Op}
use Rattle.lab_lines.specs.declared.row.Answer.{Answer}
use Rattle.lab_lines.specs.declared.row.Row.{Row}
use Rattle.lab_run.specs.ActorPart.{ActorPart, Doing}
use Rattle.lab_run.specs.GateAsks.{HasAsked}
use Rattle.lab_run.specs.Phases.{is_reader, ops_by, played_in}
use Rattle.lab_run.specs.Reader.{Reader, reader_kind, row_by}
use Rattle.lab_run.specs.ReaderAtPort.{IsAtSnoop, IsReaderLine}
use Rattle.lab_readers.specs.declared.lines.ReaderActor.{ReaderActor}
use Rattle.lab_actors.specs.Shares.{at_gate_in, left_in, stops_in}
use Rattle.lab_readers.specs.FrameRuns.{frames_of_runs}
use Rattle.lab_readers.specs.Progress.{Progress, SeesAtMost}
use Rattle.lab_readers.specs.Lines.{AreSamples, HasLoaded, HasSameSetup}
use Rattle.lab_actors.specs.Room.{GrowsBy, HasSpace}
use Rattle.lab_readers.specs.Room.{asked_by, frames_wanted, most_wanted, spare_frames, wanted_by}

-- the reader of an actor, as a run has it
abbrev pub reader_of : ReaderActor → Reader
reader_of a = record { own = Some a.reader; frames = frames_of_runs a.frames.runs }

-- what stays of an actor
pub record IsSameReader (a b : ReaderActor) : Type 0 where
  pub number : b.number ≡ a.number
  pub setup : HasSameSetup a.reader b.reader

-- how many channels an actor's reader has
abbrev pub channels_of : ReaderActor → ℕ
channels_of a = length a.reader.setup.bindings

-- an actor has room for so many rows, and for as many runs
pub record HasRowsFor (a : ReaderActor) (count : ℕ) : Type 0 where
  pub rows : HasSpace count a.rows
  pub runs : count ≤ a.frames.room

-- An actor has the room that lines want which ask for this, at a ring of so many frames in a phase in which the card plays so many: a row and a run
-- each, and the samples of all frames that they may get together.
pub record HasRoomFor (a : ReaderActor) (ring played : ℕ) (ops : List Op) : Type 0 where
  pub lines : HasRowsFor a (length ops)
  pub samples : HasSpace (frames_wanted (most_wanted a.reader ring played) ops * channels_of a)
      a.samples

-- it has the room for its lines of a phase
abbrev pub HasRoomForLines : ℕ → ReaderActor → List Line → Type 0
HasRoomForLines ring a lines = HasRoomFor a ring (played_in lines) (ops_by (is_reader a.number) lines)

-- a line took no more than a row and a run
pub record TakesRow (a b : ReaderActor) : Type 0 where
  pub rows : GrowsBy 1 a.rows b.rows
  pub runs : a.frames.room ≤ b.frames.room + 1

-- lines got some frames, no more than they ask for, whose samples went into the room that there was
pub record HasGot (v w : SnoopView) (a b : ReaderActor) (ops : List Op) : Type 0 where
  pub count : ℕ
  pub few : count ≤ sum_by asked_by ops
  pub samples : vec_len b.samples ≡ vec_len a.samples + count * channels_of a
  pub room : vec_capacity a.samples ≤ vec_capacity b.samples
  pub progress : Progress count a.reader b.reader v w

-- frames were appended to the runs of an actor, and their samples to its samples
pub record AppendsFrames {S : Type 0} (P : snoopport.Ghosts S) (p q : S)
    (a b : ReaderActor) : Type 0 where
  pub numbers : List ℕ
  pub numbers_are : frames_of_runs b.frames.runs ≡ frames_of_runs a.frames.runs ++ numbers
  pub more : List ℤ
  pub more_are : b.samples.items ≡ a.samples.items ++ more
  pub samples : AreSamples P p q a.reader numbers more

-- lines were done at a port and a gate, after which it is so
pub record HasReaderDone {S T : Type 0} (P : snoopport.Ghosts S) (left : T → Option ℕ)
    (by_gate at_gate : T → ℕ) (first : S) (ring : Geometry) (t : S × T)
    (phase number : ℕ) (before : Doing) (reader : Reader) (ops : List Op)
    (after : Reader) (rows : List Row) : Type 0 where
  pub doing : Doing
  pub done : ActorPart (reader_kind phase number) ring ((before.0, reader), before.1)
      ops ((doing.0, after), doing.1) rows
  pub at : IsAtSnoop P left by_gate at_gate first ring t doing

-- An actor did one line. Whichever state of the port is taken as the first: the line is a line of the reader, as a run has it, where there was room for
-- the frames that it may get.
pub record ReaderLine {S T : Type 0} (P : snoopport.Ghosts S) (left : T → Option ℕ)
    (by_gate at_gate : T → ℕ) (s t : S × T) (phase : ℕ) (a b : ReaderActor) (asked : Op) : Type 0 where
  pub answer : Answer
  pub rows_are : b.rows.items ≡ a.rows.items
      ++ row_by phase a.number asked (Some b.reader) answer ∷ []
  pub line : wanted_by (most_read a.reader) asked ≤ spare_frames a.reader a.samples
      → (first : S) (ring : Geometry) (before : Doing)
      → IsAtSnoop P left by_gate at_gate first ring s before
      → IsReaderLine P left by_gate at_gate first ring t phase a.number before (reader_of a)
      asked (reader_of b) answer
  pub loaded : HasLoaded P s.0 t.0
  pub appends : AppendsFrames P s.0 t.0 a b
  pub same : IsSameReader a b

-- an actor did some lines, likewise, where its port saw no more frames in them than the card plays
pub record ReaderPart {S T : Type 0} (P : snoopport.Ghosts S) (left : T → Option ℕ)
    (by_gate at_gate : T → ℕ) (s t : S × T) (phase played : ℕ) (a b : ReaderActor) (ops : List Op)
    : Type 0 where
  pub rows : List Row
  pub rows_are : b.rows.items ≡ a.rows.items ++ rows
  pub part : SeesAtMost played (P.view s.0) (P.view t.0)
      → (first : S) (ring : Geometry) (before : Doing)
      → IsAtSnoop P left by_gate at_gate first ring s before
      → HasReaderDone P left by_gate at_gate first ring t phase a.number before (reader_of a)
      ops (reader_of b) rows
  pub loaded : HasLoaded P s.0 t.0
  pub appends : AppendsFrames P s.0 t.0 a b
  pub same : IsSameReader a b

-- an actor did some lines with its own gate, and asked it so often, but for the asks of kind Again
pub record ReaderTurn {S T : Type 0} (P : snoopport.Ghosts S) (G : gates.Ghosts T) (s t : S × T)
    (phase played : ℕ) (a b : ReaderActor) (ops : List Op) : Type 0 where
  pub asks : ℕ
  pub asked : HasAsked G.asked s.1 t.1 asks
  pub part : ReaderPart P left_in stops_in at_gate_in (s.0, (a.left, G.stops s.1, 0))
      (t.0, (b.left, G.stops t.1, asks)) phase played a b ops
