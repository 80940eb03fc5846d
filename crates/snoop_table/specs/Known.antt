-- What the fields of a seat say of its view.
use Rattle.std.specs.Prelude.{◌≡◌, ℕ, ◌+◌, ◌<◌, Bool, true, None, List, [], length}
use Rattle.atomic_table.specs.Seated.{TableId}
use Rattle.snd_base.specs.declared.geometry.Geometry.{Geometry}
use Rattle.snd_base.specs.declared.places.Cursor.{Cursor}
use Rattle.snd_base.specs.Places.{IsWithin, lap}
use Rattle.ring_rule.specs.Positions.{has_all}
use Rattle.ring_rule.specs.Words.{index_of, words_of}
use Rattle.snoop_table.specs.declared.seats.place.WritePlace.{WritePlace}
use Rattle.snoop_table.specs.declared.view.View.{View}
use Rattle.snoop_table.specs.Captured.{is_tracked, next_to_store, position_of, the_track}

-- a seat's table and geometry are those of the ring that it borrows, and it holds no slot
abbrev pub SitsAt : TableId → TableId → Geometry → Geometry → List (ℕ × Unit {0}) → Type 0
SitsAt own ring g ring_geometry held = (own ≡ ring) × (g ≡ ring_geometry) × (held ≡ []) × (ring.words ≡ words_of g)

-- a reader's fields are those of its view
pub record IsReader (v : View) (g : Geometry) (seen : ℕ) : Type 0 where
  pub same_geometry : v.geometry ≡ g
  pub same_seen : v.seen ≡ seen
  pub untracked : v.track ≡ None
  pub room : length v.noted ≡ words_of g
  pub seen_within : IsWithin g seen

-- a writer's fields are those of its view
pub record IsWriter (v : View) (g : Geometry) (next : Cursor) (position : ℕ) (gone : Bool) : Type 0 where
  pub same_geometry : v.geometry ≡ g
  pub same_seen : v.seen ≡ position
  pub same_gone : v.seen_gone ≡ gone
  pub tracked : is_tracked v.track ≡ true
  pub room : length v.noted ≡ words_of g
  pub next_channel : next.channel < g.channels
  pub next_within : IsWithin g next.frame
  pub position_within : IsWithin g position
  pub next_is : next ≡ next_to_store g (the_track v.track)
  pub position_is : position ≡ position_of g (the_track v.track)
  pub gone_is : gone ≡ (the_track v.track).gone
  pub saw_all : has_all v.positions (the_track v.track).published ≡ true

-- a place has the index of its word, and the laps that the word is to have
pub record IsWritePlace (g : Geometry) (p : WritePlace) : Type 0 where
  pub index_is : p.index ≡ index_of g p.next.frame p.next.channel
  pub laps_is : p.laps ≡ lap g p.next.frame + 1
