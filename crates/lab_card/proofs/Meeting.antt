-- A reader's note, heard by the card's writer.
use Rattle.lab_card.specs.Prelude.{sym, Geometry, desk_track}
use Rattle.snoop_table.specs.declared.seats.desk.Desk.{Desk}
use Rattle.snoop_table.specs.declared.seats.reader.ReaderSeat.{ReaderSeat}
use Rattle.snoop_table.specs.declared.view.Track.{Track}
use Rattle.snoop_table.specs.declared.view.View.{View}
use Rattle.snoop_table.specs.Cuts.{part_of}
use Rattle.snoop_table.specs.Joins.{DeskHeard, HasSplit, IsBorneOut}
use Rattle.snoop_table.specs.Readers.{view_of}

-- a note says as much as its seat
borne-part : (g : Geometry) (t : Track) (v : View) → IsBorneOut g t (part_of v) → IsBorneOut g t v
borne-part g t v is = assumption

pub borne-heard : (d e : Desk) (s t note : ReaderSeat) → HasSplit s t note → DeskHeard d e note → IsBorneOut e.geometry (desk_track e) (view_of t)
borne-heard d e s t note split heard =
    rw split.view (borne-part e.geometry (desk_track e) (view_of s) (rw (sym split.new_view, heard.track, heard.geometry) heard.borne_out))
