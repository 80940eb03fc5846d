-- What holds between any two steps: the words represent the sums of exactly what was placed, and there is one legal history
-- of all adds, takes and publications.
use Rattle.std.specs.Prelude.{◌≡◌, ℕ, ◌+◌, ◌*◌, ◌<◌, ◌≤◌, ◌⊎◌, Bool, true, false, Option, None, Some, List, [], ◌++◌, map, length, fold, slice_index, nat_lt, pos, ◌+ℤ◌, ◌≤ℤ◌, replicate}
use Rattle.std.specs.List.{slice_index_or}
use mathlib.Core.Option.{some}
use lib.ListN.{get_elem?}
use Rattle.atomic_table.specs.Seated.{TableId}
use Rattle.atomic_table.specs.Table.{Me, State}
use Rattle.snd_base.specs.declared.geometry.Geometry.{Geometry}
use Rattle.snd_base.specs.declared.places.Cursor.{Cursor}
use Rattle.snd_base.specs.Places.{end_frame, first_frame, first_free, lap, next_word}
use Rattle.lap_word.specs.Position.{word_of}
use Rattle.lap_word.specs.Word.{StandsFor}
use Rattle.mix_core.specs.declared.port.Entry.{Entry}
use Rattle.mix_core.specs.History.{AreExact, AreInOrder, IsLegal, Row, is_taken, laid_of, position_of, taken_words}
use Rattle.mix_core.specs.declared.marks.Marks.{Marks}
use Rattle.mix_core.specs.Laid.{EndsIn, marks_by, stand_after, standing, total}
use Rattle.mix_core.specs.MarkLaws.{IsHolding, IsMarked}
pub use Rattle.mix_core.specs.Marks.{start_marks, start_of}
use Rattle.mix_core.specs.Sound.{IsNow}
use Rattle.sum_table.specs.declared.view.Key.{Key}
use Rattle.sum_table.specs.declared.view.Track.{Track}
use Rattle.sum_table.specs.declared.view.View.{View}
use Rattle.sum_table.specs.Laid.{SameSums, all_laid, by_member, count, own_entries, total_places}
use Rattle.ring_rule.specs.Words.{NotPast, index_of, words_of}
use Rattle.ring_rule.specs.Positions.{IsPosition, Rising, last_position}

-- the next word to be taken
abbrev pub next_at : Geometry → Track → Cursor
next_at g t = next_word g (length t.taken)

-- the position that was published last, or the first frame
abbrev pub position_at : Geometry → Track → ℕ
position_at g t = last_position g t.published

-- a position is the first frame or one that was published
abbrev pub IsPublishedPosition : Geometry → Track → ℕ → Type 0
IsPublishedPosition g t p = IsPosition g t.published p

-- a history begins with another
abbrev pub BeginsWith : List Row → List Row → Type 0
BeginsWith h early = (later : List Row) × (h ≡ early ++ later)

-- the words represent what was placed and what the player did: word 0 the position and the gone bit, and the word of
-- each slot and channel its first frame that is not taken, with the number of samples placed there or withdrawn and the sum that is
-- left; everything taken was taken in the order of frames and channels, each value is the sum of what was placed there and not
-- withdrawn, saturated once, and published positions never fall and are not ahead of the next word
pub record IsRing (g : Geometry) (words : List ℕ) (es : List Entry) (t : Track) : Type 0 where
  pub room : length words ≡ words_of g
  pub position : slice_index words 0 ≡ word_of (position_at g t) t.gone
  pub rising : Rising (first_frame g) t.published
  pub not_ahead : position_at g t ≤ (next_at g t).frame
  pub within : (next_at g t).frame ≤ end_frame g
  pub sums : (f c : ℕ) → IsNow g (next_at g t) f c → StandsFor (slice_index words (index_of g f c)) (lap g f) (count es f c) (total es f c)
  pub low : (f c : ℕ) → pos 0 ≤ℤ (total es f c +ℤ pos (32768 * count es f c))
  pub high : (f c : ℕ) → total es f c ≤ℤ pos (32768 * count es f c)
  pub in_order : AreInOrder g t.taken
  pub exact : AreExact es t.taken
  pub took : (f c : ℕ) → c < g.channels → first_frame g ≤ f → is_taken t.taken f c ≡ nat_lt f (first_free (next_at g t) c)

-- an entry is in the ring: it is less than the ring's length past the position that its seat saw, so that it was taken, or
-- its frame is the first one of its slot and channel that is not taken
pub record IsLaid (g : Geometry) (seen : ℕ) (e : Entry) : Type 0 where
  pub channel : e.channel < g.channels
  pub low : first_frame g ≤ e.frame
  pub ahead : e.frame < seen + g.frames
  pub fits : lap g e.frame < 4294967295

-- the marks after a seat's own entries and its marks: the same but for the floor, or, after a join, all of the seat's marks
-- are at its high, and no own mark is past them
pub record SameTops (a b : Marks) : Type 0 where
  pub cursor : a.cursor ≡ b.cursor
  pub high : a.high ≡ b.high

pub record IsLevel (a b : Marks) : Type 0 where
  pub high : (c : ℕ) → first_free a.high c ≤ first_free b.high c
  pub cursor_is : b.cursor ≡ b.high
  pub floor_is : b.floor ≡ b.high

pub record AreWithinMarks (a b : Marks) : Type 0 where
  pub floor : (c : ℕ) → first_free a.floor c ≤ first_free b.floor c
  pub cursor : (c : ℕ) → first_free a.cursor c ≤ first_free b.cursor c
  pub tops : SameTops a b ⊎ IsLevel a b

-- a seat that has not ended: what it may still withdraw ends its own standing adds as well, and its own marks are within its marks
pub record IsOwn (g : Geometry) (mine free : List Entry) (marks : Marks) : Type 0 where
  pub ends : EndsIn (standing mine) free
  pub within : AreWithinMarks (marks_by g mine) marks

-- what a seat placed: its entries are in the ring; at each frame and channel there are at most three for each place, and where
-- its marks say so fewer; of these at most one for each place is standing; no standing one is from its cursor on; and those from its floor
-- on rise and end the standing ones
pub record IsKept (g : Geometry) (places : ℕ) (es mine free : List Entry) (marks : Marks) (seen : ℕ) (ended : Bool) : Type 0 where
  pub laid : (i : ℕ) (e : Entry) → get_elem? es i ≡ some e → IsLaid g seen e
  pub few : (f c : ℕ) → count es f c ≤ 3 * places
  pub marked : IsMarked g marks es
  pub holding : IsHolding g marks (standing es) free
  pub backed : (before : List Entry) → fold stand_after before es ≡ before ++ standing es
  pub few_held : (f c : ℕ) → count (standing es) f c ≤ places
  pub own : ended ≡ false → IsOwn g mine free marks

-- what a seat knows is so: its entries are in the ring, before its cursor, and at each frame and channel at most as many as
-- it has places; it saw positions that were published, and the card gone only where it is; each word that it noted is not
-- past the word that is there now; and the ring's history begins with what it has seen of it, and with what a seat that
-- was joined into it had seen
pub record IsView (k : Key) (words : List ℕ) (t : Track) (h : List Row) (v : View) : Type 0 where
  pub kept : IsKept k.geometry v.places v.laid v.mine v.free v.marks v.seen v.ended
  pub seen_high : v.seen ≤ position_at k.geometry t
  pub positions : (i p : ℕ) → get_elem? v.positions i ≡ some p → IsPublishedPosition k.geometry t p
  pub gone : v.seen_gone ≡ true → t.gone ≡ true
  pub noted : (i n : ℕ) → 0 < i → slice_index_or v.noted i None ≡ Some n → NotPast n (slice_index words i)
  pub begins : BeginsWith h v.history
  pub heard : BeginsWith h v.heard

-- all views are so, their places are the ring's, and one of them alone is the player's
pub record AreViews (k : Key) (words : List ℕ) (views : List View) (at : ℕ) (t : Track) (h : List Row) : Type 0 where
  pub places : total_places views ≡ k.places
  pub each : (i : ℕ) (v : View) → get_elem? views i ≡ some v → IsView k words t h v
  pub player : (i : ℕ) (v : View) (u : Track) → get_elem? views i ≡ some v → v.track ≡ Some u → (i ≡ at) × (u ≡ t)

-- a history is that of the ring: it is legal for every number of members from the number of seats on, it took and published
-- what the player did, and placed as many samples, of the same sum, as the views; the adds of a member are those that the
-- seat of this number made itself, and its cursor is not past the seat's
pub record IsHistory (g : Geometry) (views : List View) (t : Track) (h : List Row) : Type 0 where
  pub legal : (members : ℕ) → length views ≤ members → IsLegal g members h
  pub taken : taken_words h ≡ t.taken
  pub position : position_of g h ≡ position_at g t
  pub sums : SameSums (laid_of h) (all_laid views)
  pub owns : (i : ℕ) (v : View) → get_elem? views i ≡ some v → v.ended ≡ false → own_entries i (laid_of h) ≡ map (by_member i) v.mine
  pub no_more : (i : ℕ) → length views ≤ i → own_entries i (laid_of h) ≡ []

-- the rule: there is a player's track and a legal history for which all this holds
abbrev pub Exact : Key → State Entry View → Type 0
Exact k s =
    (at : ℕ) × (t : Track) × (h : List Row)
    × IsRing k.geometry s.words (all_laid s.views) t
    × AreViews k s.words s.views at t h
    × IsHistory k.geometry s.views t h

-- whether a view is the player's
abbrev pub is_tracked : Option Track → Bool
is_tracked None = false
is_tracked (Some t) = true

-- the player's track before anything happened
abbrev pub first_track : Track
first_track = record { taken = []; published = []; gone = false }

-- the player's part of a view that has it
abbrev pub the_track : Option Track → Track
the_track None = first_track
the_track (Some t) = t

-- the view of the first seat
abbrev pub first_view : Key → View
first_view k = record {
  key = k;
  places = k.places;
  laid = [];
  mine = [];
  marks = start_marks k.geometry;
  free = [];
  positions = [];
  seen = first_frame k.geometry;
  seen_gone = false;
  sightings = [];
  noted = replicate (words_of k.geometry) None;
  history = [];
  heard = [];
  track = Some first_track;
  ended = false;
}

-- the ring's first seat, which made no step yet
abbrev pub IsFirst : TableId → TableId → Me Entry View → Key → Type 0
IsFirst own ring me k = (own ≡ ring) × (me ≡ (first_view k, []))
