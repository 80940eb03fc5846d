-- What holds between any two steps: the words hold the last captured frames, and what a reader got is what was stored.
use Rattle.std.specs.Prelude.{◌≡◌, ℕ, ◌<◌, ◌≤◌, Bool, true, false, Option, None, Some, List, [], length, slice_index, ℤ, pos, replicate}
use Rattle.std.specs.List.{slice_index_or}
use mathlib.Core.Option.{some}
use lib.ListN.{get_elem?}
use Rattle.atomic_table.specs.Seated.{TableId}
use Rattle.atomic_table.specs.Table.{Me, State}
use Rattle.snd_base.specs.declared.geometry.Geometry.{Geometry}
use Rattle.snd_base.specs.declared.places.Cursor.{Cursor}
use Rattle.snd_base.specs.Places.{end_frame, first_frame, first_free}
use Rattle.lap_word.specs.Position.{word_of}
use Rattle.ring_rule.specs.Positions.{IsPosition, Rising, last_position}
use Rattle.ring_rule.specs.Words.{NotPast, index_of, words_of}
use Rattle.snoop_core.specs.declared.port.Frame.{Frame}
use Rattle.snoop_core.specs.Port.{numbered_frame}
use Rattle.snoop_core.specs.Stored.{HoldLast, IsCaptured, next_after_stored, sample_at}
use Rattle.snoop_table.specs.declared.view.Track.{Track}
use Rattle.snoop_table.specs.declared.view.View.{View}

-- the frame and channel that the writer stores next
abbrev pub next_to_store : Geometry → Track → Cursor
next_to_store g t = next_after_stored g t.stored

-- the position that was published last, or the first frame
abbrev pub position_of : Geometry → Track → ℕ
position_of g t = last_position g t.published

-- the word of a frame's slot and a channel
abbrev pub word_in : List ℕ → Geometry → ℕ → ℕ → ℕ
word_in words g f c = slice_index words (index_of g f c)

-- the words hold what the writer did: word 0 the position and the gone bit, and the word of each slot and channel its last
-- stored frame's sample, with the frame's lap, or what a new ring has; published positions never fall, and each is at most the
-- first frame that isn't wholly stored
pub record IsRing (g : Geometry) (words : List ℕ) (t : Track) : Type 0 where
  pub room : length words ≡ words_of g
  pub position : slice_index words 0 ≡ word_of (position_of g t) t.gone
  pub rising : Rising (first_frame g) t.published
  pub not_ahead : position_of g t ≤ (next_to_store g t).frame
  pub within : (next_to_store g t).frame ≤ end_frame g
  pub holds : HoldLast g (word_in words g) t.stored

-- a sample is the stored one of a frame and channel
pub record IsSample (g : Geometry) (xs : List ℤ) (f c : ℕ) (x : ℤ) : Type 0 where
  pub channel : c < g.channels
  pub least : first_frame g ≤ f
  pub stored : f < first_free (next_after_stored g xs) c
  pub sample : x ≡ sample_at g xs f c

-- each sample of a frame that is being loaded is the stored one
abbrev pub LoadsStored : Geometry → List ℤ → Frame → Type 0
LoadsStored g xs frame = (c : ℕ) → c < length frame.samples → IsSample g xs frame.number c (slice_index_or frame.samples c (pos 0))

-- what a seat knows is so: it saw positions that were published, and the card gone only where it is; each word that it noted is
-- not past the word that is there now; each frame that it got, and each sample of the one that it is loading, is the stored
-- one of that number
pub record IsView (g : Geometry) (words : List ℕ) (t : Track) (v : View) : Type 0 where
  pub seen_high : v.seen ≤ position_of g t
  pub positions : (i p : ℕ) → get_elem? v.positions i ≡ some p → IsPosition g t.published p
  pub gone : v.seen_gone ≡ true → t.gone ≡ true
  pub noted : (i n : ℕ) → 0 < i → slice_index_or v.noted i None ≡ Some n → NotPast n (slice_index words i)
  pub got : (i : ℕ) (f : Frame) → get_elem? v.got i ≡ some f → IsCaptured g t.stored f
  pub loading : LoadsStored g t.stored v.loading

-- all views are so, and one of them alone is the writer's
pub record AreViews (g : Geometry) (words : List ℕ) (views : List View) (at : ℕ) (t : Track) : Type 0 where
  pub each : (i : ℕ) (v : View) → get_elem? views i ≡ some v → IsView g words t v
  pub writer : (i : ℕ) (v : View) (u : Track) → get_elem? views i ≡ some v → v.track ≡ Some u → (i ≡ at) × (u ≡ t)

-- the rule: there is a writer's track for which all this holds
abbrev pub Holds : Geometry → State (Unit {0}) View → Type 0
Holds g s = (at : ℕ) × (t : Track) × IsRing g s.words t × AreViews g s.words s.views at t

-- whether a view is the writer's
abbrev pub is_tracked : Option Track → Bool
is_tracked None = false
is_tracked (Some t) = true

-- the writer's track before anything happened
abbrev pub first_track : Track
first_track = record { stored = []; published = []; gone = false }

-- the writer's part of a view that has it
abbrev pub the_track : Option Track → Track
the_track None = first_track
the_track (Some t) = t

-- no frame is being loaded
abbrev pub no_frame : Frame
no_frame = numbered_frame 0 []

-- the view of the first seat
abbrev pub first_view : Geometry → View
first_view g = record {
  geometry = g;
  positions = [];
  seen = first_frame g;
  seen_gone = false;
  noted = replicate (words_of g) None;
  got = [];
  loading = no_frame;
  track = Some first_track;
}

-- the ring's first seat, which made no step yet
abbrev pub IsFirst : TableId → TableId → Me (Unit {0}) View → Geometry → Type 0
IsFirst own ring me g = (own ≡ ring) × (me ≡ (first_view g, []))
