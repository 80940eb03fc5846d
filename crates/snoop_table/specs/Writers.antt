-- What contracts say of the writer's seat, and what its steps do.
use Rattle.std.specs.Prelude.{◌≡◌, ℕ, ◌+◌, true, Some, List, ◌++◌, length, ℤ}
use Rattle.atomic_table.specs.Seated.{TableId}
use Rattle.snd_base.specs.declared.geometry.Geometry.{Geometry}
use Rattle.snd_base.specs.declared.places.Cursor.{Cursor}
use Rattle.snd_base.specs.Places.{cursor_after}
use Rattle.snoop_core.specs.Ring.{after_samples}
use Rattle.snoop_table.specs.declared.seats.desk.Desk.{Desk}
use Rattle.snoop_table.specs.declared.seats.writer.WriterSeat.{WriterSeat}
use Rattle.snoop_table.specs.declared.view.Track.{Track}
use Rattle.snoop_table.specs.declared.view.View.{View}
use Rattle.snoop_table.specs.Captured.{the_track}
use Rattle.snoop_table.specs.Steps.{track_gone, track_published, with_gone, with_published, with_stored}

-- what the writer knows, and did
abbrev pub desk_view : Desk → View
desk_view d = d.seat.me.0

abbrev pub desk_track : Desk → Track
desk_track d = the_track (desk_view d).track

abbrev pub desk_ring : Desk → TableId
desk_ring d = d.seat.table_id

abbrev pub desk_geometry : Desk → Geometry
desk_geometry d = d.geometry

-- what is stored next
abbrev pub next_of_desk : Desk → Cursor
next_of_desk d = d.place.next

-- a track with some samples more
abbrev pub track_more : Track → List ℤ → Track
track_more t xs = record t { stored = t.stored ++ xs }

-- the next sample was stored
pub record HasStoredSample (d e : Desk) (x : ℤ) : Type 0 where
  pub ring : desk_ring e ≡ desk_ring d
  pub geometry : e.geometry ≡ d.geometry
  pub view : desk_view e ≡ with_stored (desk_view d) (desk_track d) x
  pub next : e.place.next ≡ cursor_after d.geometry d.place.next.frame d.place.next.channel
  pub position : e.position ≡ d.position
  pub gone : e.gone ≡ d.gone

-- some samples of the next frame were stored
pub record HasStoredPart (d e : Desk) (xs : List ℤ) : Type 0 where
  pub ring : desk_ring e ≡ desk_ring d
  pub geometry : e.geometry ≡ d.geometry
  pub view : desk_view e ≡ record (desk_view d) { track = Some (track_more (desk_track d) xs) }
  pub next : e.place.next ≡ after_samples d.geometry d.place.next.frame (length xs)
  pub position : e.position ≡ d.position
  pub gone : e.gone ≡ d.gone

-- the next frame was stored: its samples are at the end of the stored list
pub record HasStored (d e : Desk) (xs : List ℤ) : Type 0 where
  pub ring : desk_ring e ≡ desk_ring d
  pub geometry : e.geometry ≡ d.geometry
  pub view : desk_view e ≡ record (desk_view d) { track = Some (track_more (desk_track d) xs) }
  pub track : desk_track e ≡ track_more (desk_track d) xs
  pub next : e.place.next ≡ record { frame = d.place.next.frame + 1; channel = 0 }
  pub position : e.position ≡ d.position
  pub gone : e.gone ≡ d.gone

-- the first frame that isn't wholly stored was published as the position
pub record HasPublished (d e : Desk) : Type 0 where
  pub ring : desk_ring e ≡ desk_ring d
  pub geometry : e.geometry ≡ d.geometry
  pub view : desk_view e ≡ with_published (desk_view d) (desk_track d) d.place.next.frame
  pub track : desk_track e ≡ track_published (desk_track d) d.place.next.frame
  pub next : e.place.next ≡ d.place.next
  pub position : e.position ≡ d.place.next.frame
  pub gone : e.gone ≡ d.gone

-- the card is gone
pub record HasUnplugged (d e : Desk) : Type 0 where
  pub ring : desk_ring e ≡ desk_ring d
  pub geometry : e.geometry ≡ d.geometry
  pub view : desk_view e ≡ with_gone (desk_view d) (desk_track d)
  pub track : desk_track e ≡ track_gone (desk_track d)
  pub next : e.place.next ≡ d.place.next
  pub position : e.position ≡ d.position
  pub gone : e.gone ≡ true

-- the parts of a writer's seat
abbrev pub desk_of : WriterSeat → Desk
desk_of w = w.desk

abbrev pub writer_view : WriterSeat → View
writer_view w = desk_view w.desk

-- everything that it stored, the positions that it published, and whether it unplugged the card
abbrev pub writer_track : WriterSeat → Track
writer_track w = desk_track w.desk

abbrev pub writer_ring : WriterSeat → TableId
writer_ring w = desk_ring w.desk

abbrev pub writer_geometry : WriterSeat → Geometry
writer_geometry w = w.desk.geometry

-- the frame that it stores next
abbrev pub next_frame : WriterSeat → ℕ
next_frame w = w.desk.place.next.frame

-- a seat of the same ring
abbrev pub SameWriter : WriterSeat → WriterSeat → Type 0
SameWriter v w = (writer_ring w ≡ writer_ring v) × (writer_geometry w ≡ writer_geometry v)
