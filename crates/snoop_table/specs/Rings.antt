-- What contracts say of a ring, and of the seats that it gives.
use Rattle.std.specs.Prelude.{◌≡◌, Bool, true, false, Option, None, Some}
use Rattle.snd_base.specs.declared.geometry.Geometry.{Geometry}
use Rattle.snd_base.specs.Places.{first_frame}
use Rattle.snoop_table.specs.declared.ring.SnoopRing.{SnoopRing}
use Rattle.snoop_table.specs.declared.seats.reader.ReaderSeat.{ReaderSeat}
use Rattle.snoop_table.specs.declared.seats.writer.WriterSeat.{WriterSeat}
use Rattle.snoop_table.specs.Captured.{first_view}
use Rattle.snoop_table.specs.Cuts.{part_of}
use Rattle.snoop_table.specs.Readers.{ring_of, view_of}
use Rattle.snoop_table.specs.Writers.{next_frame, writer_geometry, writer_ring, writer_view}

abbrev pub geometry_of_ring : SnoopRing → Geometry
geometry_of_ring r = r.geometry

abbrev pub is_given : {X : Type 0} → Option X → Bool
is_given None = true
is_given (Some x) = false

-- a ring has given no seats
abbrev pub GaveNone : SnoopRing → Type 0
GaveNone r = is_given r.first ≡ false

-- a ring of a geometry, that has given no seats
pub record IsNewRing (r : SnoopRing) (g : Geometry) : Type 0 where
  pub of_geometry : geometry_of_ring r ≡ g
  pub gave_none : GaveNone r

-- the two first seats of a ring: of one ring, before anything happened
pub record HasSeats (g : Geometry) (w : WriterSeat) (r : ReaderSeat) : Type 0 where
  pub one_ring : writer_ring w ≡ ring_of r
  pub of_writer : writer_geometry w ≡ g
  pub of_reader : r.geometry ≡ g
  pub writer : writer_view w ≡ first_view g
  pub reader : view_of r ≡ part_of (first_view g)
  pub next : next_frame w ≡ first_frame g
  pub position : w.desk.position ≡ first_frame g
  pub gone : w.desk.gone ≡ false
  pub seen : r.seen ≡ first_frame g
