-- What splits, joins, notes, meetings and the close of a ring do.
use Rattle.std.specs.Prelude.{◌≡◌, ℕ, ◌+◌, ◌≤◌, ◌||◌, true, None, Some, max}
use Rattle.std.specs.List.{slice_index_or}
use mathlib.Core.Option.{some}
use lib.ListN.{get_elem?}
use Rattle.atomic_table.specs.Seated.{TableId}
use Rattle.snd_base.specs.declared.geometry.Geometry.{Geometry}
use Rattle.snd_base.specs.Places.{lap}
use Rattle.ring_rule.specs.Positions.{IsPosition}
use Rattle.ring_rule.specs.Words.{index_of}
use Rattle.snoop_core.specs.declared.port.Frame.{Frame}
use Rattle.snoop_core.specs.Stored.{IsCaptured, IsLast, IsUnused}
use Rattle.snoop_core.specs.Word.{laps_of}
use Rattle.snoop_table.specs.declared.seats.desk.Desk.{Desk}
use Rattle.snoop_table.specs.declared.seats.note.SnoopNote.{SnoopNote}
use Rattle.snoop_table.specs.declared.seats.reader.ReaderSeat.{ReaderSeat}
use Rattle.snoop_table.specs.declared.seats.writer.WriterSeat.{WriterSeat}
use Rattle.snoop_table.specs.declared.view.Track.{Track}
use Rattle.snoop_table.specs.declared.view.View.{View}
use Rattle.snoop_table.specs.Captured.{next_to_store, position_of}
use Rattle.snoop_table.specs.Cuts.{both_of, part_of}
use Rattle.snoop_table.specs.Readers.{ring_of, view_of}
use Rattle.snoop_table.specs.Writers.{desk_of, desk_ring, desk_track, desk_view, writer_geometry, writer_track}

-- two seats are of one ring. That one ring has one geometry is not given by its identity, so both are asked
abbrev pub OneRing : TableId → Geometry → TableId → Geometry → Type 0
OneRing a g b h = (a ≡ b) × (g ≡ h)

abbrev pub note_ring : SnoopNote → TableId
note_ring n = ring_of n.seat

abbrev pub note_geometry : SnoopNote → Geometry
note_geometry n = n.seat.geometry

-- a new seat has seen, noted and got as much as the one that was split, which is as before
pub record HasSplit (s t new : ReaderSeat) : Type 0 where
  pub ring : ring_of t ≡ ring_of s
  pub geometry : t.geometry ≡ s.geometry
  pub view : view_of t ≡ view_of s
  pub seen : t.seen ≡ s.seen
  pub new_ring : ring_of new ≡ ring_of s
  pub new_geometry : new.geometry ≡ s.geometry
  pub new_view : view_of new ≡ part_of (view_of s)
  pub new_seen : new.seen ≡ s.seen
  pub new_gone : (view_of new).seen_gone ≡ (view_of s).seen_gone

-- a seat took over what another one knows: the greater position and the later notes stay, the frames that they got are put
-- together, and what either has seen both have seen
pub record HasJoined (s t other : ReaderSeat) : Type 0 where
  pub ring : ring_of t ≡ ring_of s
  pub geometry : t.geometry ≡ s.geometry
  pub view : view_of t ≡ both_of (view_of s) (view_of other)
  pub seen : t.seen ≡ max s.seen other.seen
  pub gone : (view_of t).seen_gone ≡ ((view_of s).seen_gone || (view_of other).seen_gone)

-- a reader's seat gave a note of all that it has seen; nothing else changed
pub record HasNote (s t : ReaderSeat) (n : SnoopNote) : Type 0 where
  pub split : HasSplit s t n.seat

-- a reader's seat met a note: it has seen what the note has seen
pub record HasMet (s t : ReaderSeat) (n : SnoopNote) : Type 0 where
  pub joined : HasJoined s t n.seat

-- the writer gave what it has seen: each position that it published, and the card gone exactly where the writer is gone
pub record DeskGave (d e : Desk) (new : ReaderSeat) : Type 0 where
  pub ring : desk_ring e ≡ desk_ring d
  pub geometry : e.geometry ≡ d.geometry
  pub view : desk_view e ≡ desk_view d
  pub next : e.place.next ≡ d.place.next
  pub position : e.position ≡ d.position
  pub gone : e.gone ≡ d.gone
  pub new_ring : ring_of new ≡ desk_ring d
  pub new_geometry : new.geometry ≡ d.geometry
  pub new_view : view_of new ≡ part_of (desk_view d)
  pub new_seen : new.seen ≡ position_of d.geometry (desk_track d)
  pub published : (i x : ℕ) → get_elem? (desk_track d).published i ≡ some x → (j : ℕ) × (get_elem? (view_of new).positions j ≡ some x)
  pub new_gone : (view_of new).seen_gone ≡ (desk_track d).gone

-- what a seat has seen is what the writer did: each of its positions is the first frame or one that the writer published, each
-- of its noted words has at most the lap of the last frame that the writer stored there, or that of a new ring's word where it stored
-- none, it has seen the card gone only where the writer is gone, and each frame that it got is the one that the writer stored under its number
pub record IsBorneOut (g : Geometry) (t : Track) (v : View) : Type 0 where
  pub positions : (i x : ℕ) → get_elem? v.positions i ≡ some x → IsPosition g t.published x
  pub noted : (f c x : ℕ) → IsLast g (next_to_store g t) f c → slice_index_or v.noted (index_of g f c) None ≡ Some x → laps_of x ≤ lap g f + 1
  pub unused : (f c x : ℕ) → IsUnused g (next_to_store g t) f c → slice_index_or v.noted (index_of g f c) None ≡ Some x → laps_of x ≤ g.first_lap
  pub gone : v.seen_gone ≡ true → t.gone ≡ true
  pub got : (i : ℕ) (f : Frame) → get_elem? v.got i ≡ some f → IsCaptured g t.stored f

-- the writer heard of what another seat has seen
pub record DeskHeard (d e : Desk) (other : ReaderSeat) : Type 0 where
  pub ring : desk_ring e ≡ desk_ring d
  pub geometry : e.geometry ≡ d.geometry
  pub view : desk_view e ≡ both_of (desk_view d) (view_of other)
  pub track : desk_track e ≡ desk_track d
  pub next : e.place.next ≡ d.place.next
  pub position : e.position ≡ d.position
  pub same_gone : e.gone ≡ d.gone
  pub borne_out : IsBorneOut d.geometry (desk_track d) (view_of other)

-- the writer gave a note of all that it has seen; nothing else changed
pub record HasWriterNote (w x : WriterSeat) (n : SnoopNote) : Type 0 where
  pub gave : DeskGave (desk_of w) (desk_of x) n.seat

-- the writer met a note
pub record HasHeard (w x : WriterSeat) (n : SnoopNote) : Type 0 where
  pub heard : DeskHeard (desk_of w) (desk_of x) n.seat

-- the ring was closed: what the reader's seat has seen is what the writer did
pub record HasClosed (s : ReaderSeat) (w : WriterSeat) (position : ℕ) : Type 0 where
  pub last : position ≡ position_of (writer_geometry w) (writer_track w)
  pub borne_out : IsBorneOut (writer_geometry w) (writer_track w) (view_of s)
