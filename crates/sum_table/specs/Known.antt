-- What the fields of a seat say of its view.
use Rattle.std.specs.Prelude.{◌≡◌, ℕ, ◌+◌, ◌<◌, ◌≤◌, Bool, true, false, Option, None, Some, List, [], ◌∷◌, length, max}
use Rattle.std.specs.List.{slice_index_or}
use mathlib.Core.Option.{some}
use lib.ListN.{get_elem?}
use Rattle.atomic_table.specs.Seated.{TableId}
use Rattle.snd_base.specs.declared.geometry.Geometry.{Geometry}
use Rattle.snd_base.specs.declared.places.Cursor.{Cursor}
use Rattle.snd_base.specs.Places.{IsFrom, IsWithin, first_frame}
use Rattle.mix_core.specs.declared.marks.Marks.{Marks}
use Rattle.mix_core.specs.declared.port.Entry.{Entry}
use Rattle.mix_core.specs.Marks.{high_frame}
use Rattle.sum_table.specs.declared.view.Key.{Key}
use Rattle.sum_table.specs.declared.view.View.{View}
use Rattle.sum_table.specs.Exact.{IsLaid, is_tracked, next_at, position_at, the_track}
use Rattle.sum_table.specs.Steps.{IsWord}
use Rattle.ring_rule.specs.Words.{words_of}
use Rattle.ring_rule.specs.Positions.{has_all}

-- the greater one of two frames, where there are any
abbrev pub greater : Option ℕ → Option ℕ → Option ℕ
greater None b = b
greater (Some a) None = Some a
greater (Some a) (Some b) = Some (max a b)

-- the greatest frame of some entries
abbrev pub last_frame : List Entry → Option ℕ
last_frame [] = None
last_frame (e ∷ es) = greater (Some e.frame) (last_frame es)

-- a seat's table and key are those of the ring that it borrows, and it holds no slot
abbrev pub SitsAt : TableId → TableId → Key → Key → List (ℕ × Entry) → Type 0
SitsAt own ring key ring_key held = (own ≡ ring) × (key ≡ ring_key) × (held ≡ []) × (ring.words ≡ words_of key.geometry)

-- each word that a view noted is one that can be there, and there is room for a note of each word
pub record IsNoted (v : View) (k : Key) : Type 0 where
  pub room : length v.noted ≡ words_of k.geometry
  pub words : (i n : ℕ) → slice_index_or v.noted i None ≡ Some n → IsWord n k.places

-- the frame after the greatest one that was placed in, and the first frame where nothing was placed
abbrev pub free_from : Geometry → Option ℕ → ℕ
free_from g None = first_frame g
free_from g (Some frame) = frame + 1

-- the greatest frame that a seat placed in is the last one before its high; its cursor and its floor aren't past the frame after it; and a
-- seat without a place placed nothing
pub record IsReach (g : Geometry) (marks : Marks) (places : ℕ) (last : Option ℕ) : Type 0 where
  pub high : high_frame g marks ≡ last
  pub cursor : IsFrom marks.cursor (free_from g last) 0
  pub floor : IsFrom marks.floor (free_from g last) 0
  pub none : places ≡ 0 → last ≡ None

-- a mix seat's fields are those of its view
pub record IsKnown (v : View) (k : Key) (places : ℕ) (marks : Marks) (seen : ℕ) (last : Option ℕ) : Type 0 where
  pub same_key : v.key ≡ k
  pub same_places : v.places ≡ places
  pub same_marks : v.marks ≡ marks
  pub same_seen : v.seen ≡ seen
  pub same_last : last_frame v.laid ≡ last
  pub reach_is : IsReach k.geometry marks places last
  pub lasts : v.ended ≡ false
  pub untracked : v.track ≡ None
  pub noted : IsNoted v k
  pub cursor_within : IsWithin k.geometry marks.cursor.frame
  pub floor_within : IsWithin k.geometry marks.floor.frame
  pub high_within : IsWithin k.geometry marks.high.frame
  pub seen_within : IsWithin k.geometry seen
  pub places_most : places ≤ k.places
  pub laid : (i : ℕ) (e : Entry) → get_elem? v.laid i ≡ some e → IsLaid k.geometry v.seen e

-- a player's fields are those of its view
pub record IsPlayer (v : View) (k : Key) (next : Cursor) (position : ℕ) (gone : Bool) : Type 0 where
  pub same_key : v.key ≡ k
  pub no_places : v.places ≡ 0
  pub laid_nothing : v.laid ≡ []
  pub same_seen : v.seen ≡ position
  pub same_gone : v.seen_gone ≡ gone
  pub lasts : v.ended ≡ false
  pub tracked : is_tracked v.track ≡ true
  pub noted : IsNoted v k
  pub next_channel : next.channel < k.geometry.channels
  pub next_within : IsWithin k.geometry next.frame
  pub position_within : IsWithin k.geometry position
  pub next_is : next ≡ next_at k.geometry (the_track v.track)
  pub position_is : position ≡ position_at k.geometry (the_track v.track)
  pub gone_is : gone ≡ (the_track v.track).gone
  pub saw_all : has_all v.positions (the_track v.track).published ≡ true
