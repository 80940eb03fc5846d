-- The readers of the lab are the readers of a run at a stage of it, with what they recorded.
use Rattle.std.specs.Prelude.{◌≡◌, ℕ, false, List, [], ◌∷◌, ◌++◌, length, All, Contains, Option, None, slice_index_or}
use Rattle.atomic_table.specs.Seated.{TableId}
use Rattle.snd_base.specs.declared.geometry.Geometry.{Geometry}
use Rattle.snd_base.specs.Places as rings
use Rattle.snoop_table.specs.declared.seats.reader.ReaderSeat.{ReaderSeat}
use Rattle.snoop_table.specs.Readers as seats
use Rattle.wav_io.specs.Sound.{Sound}
use Rattle.lab_lines.specs.Script.{first_frame}
use Rattle.lab_lines.specs.declared.row.Row.{Row}
use Rattle.lab_run.specs.Items.{is_reader_stopped}
use Rattle.lab_run.specs.LabRun.{bindings_of}
use Rattle.lab_run.specs.Reader.{Reader}
use Rattle.lab_run.specs.Rules.{AtPort}
use Rattle.lab_run.specs.Stage.{Session, Stage}
use Rattle.lab_actors.specs.Sessions.{AreUsable}
use Rattle.lab_actors.specs.Gates.{AreCounted}
use Rattle.lab_actors.specs.Walks.{AreEach}
use Rattle.lab_readers.specs.declared.reader.LabReader.{LabReader}
use Rattle.lab_readers.specs.OneReader.{IsAt, OnSeat, number_of, reader_in, rows_of, seat_of}
use Rattle.lab_readers.specs.Recorded.{IsRecorded}
use Rattle.lab_readers.specs.declared.readers.LabReaders.{LabReaders}

-- the readers, in the order of their lines, and the seat from which theirs are split
abbrev pub readers_of : LabReaders → List LabReader
readers_of rs = rs.readers.items

abbrev pub spare_of : LabReaders → ReaderSeat
spare_of rs = rs.seat

-- the card's snoop ring, and its shape
abbrev pub ring_of : LabReaders → TableId
ring_of rs = seats.ring_of rs.seat

abbrev pub geometry_of : LabReaders → Geometry
geometry_of rs = seats.geometry_of rs.seat

-- each frame that a seat got is one that another seat has got
abbrev pub HasGotAllOf : ReaderSeat → ReaderSeat → Type 0
HasGotAllOf seat other = All (Contains (seats.view_of other).got) (seats.view_of seat).got

-- the spare seat later: it is of the same ring, and has got all that it had
pub record IsLaterSpare (spare later : ReaderSeat) : Type 0 where
  pub same_ring : seats.SameReader spare later
  pub got : HasGotAllOf spare later

-- a reader's seat is of the spare seat's ring, where it is open
abbrev pub IsOfRing : ReaderSeat → LabReader → Type 0
IsOfRing spare r = OnSeat (seat_of r) (seats.SameReader spare)

abbrev pub AreOfRing : LabReaders → Type 0
AreOfRing rs = All (IsOfRing rs.seat) rs.readers.items

-- A reader of the lab is the reader of a number in a run, with what it recorded. The spare seat, which took over the seats of its openings that ended,
-- has got each frame that it read in them.
pub record IsReaderIn (session : Session) (capture : Option Sound) (spare : ReaderSeat)
    (geometry : Geometry) (number : ℕ) (r : LabReader) (x : AtPort × Reader) : Type 0 where
  pub numbered : number_of r ≡ number
  pub reader : reader_in r ≡ x.1
  pub at : IsAt (seats.ring_of spare) geometry r x.0
  pub recorded : IsRecorded capture geometry
      (bindings_of (slice_index_or session.readers number None)) (seats.view_of spare).got r

-- the same after the lines of a phase: its rows are the lab's
pub record IsReaderDone (session : Session) (capture : Option Sound) (spare : ReaderSeat)
    (geometry : Geometry) (number : ℕ) (r : LabReader) (x : AtPort × Reader) : Type 0 where
  pub is : IsReaderIn session capture spare geometry number r x
  pub rows : rows_of r ≡ []

-- the same between two phases: no gate stopped it
pub record IsReaderAt (session : Session) (capture : Option Sound) (spare : ReaderSeat)
    (geometry : Geometry) (number : ℕ) (r : LabReader) (x : AtPort × Reader) : Type 0 where
  pub is : IsReaderIn session capture spare geometry number r x
  pub goes : is_reader_stopped x.1.own ≡ false
  pub rows : rows_of r ≡ []

-- the card of a session: its snoop ring, and the number of its first frame
pub record IsCardOf (session : Session) (seat : ReaderSeat) : Type 0 where
  pub ring : seats.geometry_of seat ≡ session.ring
  pub first : first_frame session.card ≡ rings.first_frame session.ring

-- each reader of the lab is one of a run
pub record AreIn
    (Is : Session → Option Sound → ReaderSeat → Geometry → ℕ → LabReader → AtPort × Reader
    → Type 0)
    (session : Session) (capture : Option Sound)
    (xs : List (AtPort × Reader)) (rs : LabReaders) : Type 0 where
  pub card : IsCardOf session (spare_of rs)
  pub each : AreEach (Is session capture (spare_of rs) session.ring) 0 (readers_of rs) xs

-- the readers of the lab between two phases
abbrev pub AreAt : Session → Option Sound → List (AtPort × Reader) → LabReaders → Type 0
AreAt = AreIn IsReaderAt

-- the readers of the lab after the lines of a phase, before the stopped ones are reaped
abbrev pub AreDone : Session → Option Sound → List (AtPort × Reader) → LabReaders → Type 0
AreDone = AreIn IsReaderDone

-- a stage that is another one but for its readers and its rows
pub record IsStageBut (stage after : Stage) : Type 0 where
  pub phases : after.phases ≡ stage.phases
  pub position : after.position ≡ stage.position
  pub gone : after.gone ≡ stage.gone
  pub lobby : after.lobby ≡ stage.lobby
  pub claims : after.claims ≡ stage.claims
  pub clients : after.clients ≡ stage.clients

-- The readers of the lab after an item of a body, which has one row. However often their gates had stopped them before the lab began, they have
-- stopped them no more often since.
pub record AreAfter (session : Session) (capture : Option Sound) (stage after : Stage)
    (row : Row) (rs : LabReaders) : Type 0 where
  pub are : AreAt session capture after.readers rs
  pub rows : after.rows ≡ stage.rows ++ row ∷ []
  pub others : IsStageBut stage after
  pub counted : (base stops : ℕ → ℕ) → AreCounted base stops 0 stage.readers
      → AreCounted base stops 0 after.readers

-- a session of a new card, by the seat of its snoop ring, with so many readers
pub record IsNewCardOf (session : Session) (seat : ReaderSeat) (count : ℕ) : Type 0 where
  pub card : IsCardOf session seat
  pub usable : AreUsable session.ring.channels session.ring.frames session.readers
  pub count_is : length session.readers ≡ count
