-- What an opening and a closing make of a reader.
use Rattle.std.specs.Prelude.{◌≡◌, ℕ, [], length, Some, None}
use Rattle.snoop_table.specs.declared.seats.reader.ReaderSeat.{ReaderSeat}
use Rattle.snoop_table.specs.Readers.{geometry_of}
use Rattle.lab_run.specs.Stage.{Setup, opened_reader}
use Rattle.lab_readers.specs.declared.reader.LabReader.{LabReader}
use Rattle.lab_readers.specs.OpenReader.{HasSameFile}

-- it was never open
pub record IsNeverOpen (number : ℕ) (r : LabReader) : Type 0 where
  pub number_is : r.actor.number ≡ number
  pub closed : r.seat ≡ None
  pub frames : r.actor.frames.runs ≡ []
  pub samples : r.actor.samples.items ≡ []
  pub rows : r.actor.rows.items ≡ []

-- it wasn't open, and is open at a seat, with a stream that is set up so, and with what it read before
pub record HasOpened (seat : ReaderSeat) (setup : Setup) (r s : LabReader) : Type 0 where
  pub seat_was : r.seat ≡ None
  pub seat_is : s.seat ≡ Some seat
  pub stream : s.actor.reader ≡ opened_reader (geometry_of seat) setup
  pub left : s.actor.left ≡ None
  pub file : HasSameFile r.actor s.actor
  pub rows : s.actor.rows.items ≡ r.actor.rows.items
  pub read_before : s.read_before ≡ length r.actor.samples.items

-- it gave its seat back, and else it is as before
pub record HasClosed (seat : ReaderSeat) (r s : LabReader) : Type 0 where
  pub seat_was : r.seat ≡ Some seat
  pub seat_is : s.seat ≡ None
  pub actor : s.actor ≡ r.actor
