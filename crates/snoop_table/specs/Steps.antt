-- What each kind of step does to the view of the seat that makes it, and what it says.
use Rattle.std.specs.Prelude.{◌≡◌, ◌≢◌, ℕ, zero, suc, ◌+◌, ◌<◌, ◌≤◌, ◌==◌, Bool, true, None, Some, List, [], ◌∷◌, ◌++◌, length, slice_set, if◌then◌else◌, ℤ}
use Rattle.std.specs.List.{slice_index_or}
use mathlib.Core.Option.{some}
use lib.ListN.{get_elem?}
use Rattle.atomic_table.specs.Table.{Me, Step}
use Rattle.snd_base.specs.Places.{end_frame, first_frame, lap}
use Rattle.lap_word.specs.Position.{word_of}
use Rattle.ring_rule.specs.Positions.{IsPosition}
use Rattle.ring_rule.specs.Words.{NotPast, index_of}
use Rattle.snoop_core.specs.declared.port.Frame.{Frame}
use Rattle.snoop_core.specs.Port.{numbered_frame}
use Rattle.snoop_core.specs.Stored.{IsCaptured, IsLast, IsUnused}
use Rattle.snoop_core.specs.Word.{laps_of, sample_of}
use Rattle.snoop_table.specs.declared.view.Track.{Track}
use Rattle.snoop_table.specs.declared.view.View.{View}
use Rattle.snoop_table.specs.Captured.{next_to_store, position_of}

-- it found a word at an index, and noted it
abbrev pub with_note : View → ℕ → ℕ → View
with_note v i n = record v { noted = slice_set v.noted i (Some n) }

-- the samples of the frame that it loads, up to a channel: none before the first one
abbrev pub samples_before : View → ℕ → List ℤ
samples_before v zero = []
samples_before v (suc c) = v.loading.samples

-- it loaded a frame's sample of a channel, and with the last channel's it got the frame
abbrev pub with_sample : View → ℕ → ℕ → ℤ → View
with_sample v f c x = record v {
  loading = numbered_frame f (samples_before v c ++ x ∷ []);
  got = if c + 1 == v.geometry.channels then v.got ++ numbered_frame f (samples_before v c ++ x ∷ []) ∷ [] else v.got;
}

-- it saw a position
abbrev pub with_position : View → ℕ → Bool → View
with_position v p gone = record v { positions = v.positions ++ p ∷ []; seen = p; seen_gone = gone }

-- the writer stored the next sample
abbrev pub track_stored : Track → ℤ → Track
track_stored t x = record t { stored = t.stored ++ x ∷ [] }

abbrev pub with_stored : View → Track → ℤ → View
with_stored v t x = record v { track = Some (track_stored t x) }

-- it published a position, which counts as seen by it
abbrev pub track_published : Track → ℕ → Track
track_published t p = record t { published = t.published ++ p ∷ [] }

abbrev pub with_published : View → Track → ℕ → View
with_published v t p = record v { positions = v.positions ++ p ∷ []; seen = p; track = Some (track_published t p) }

-- it unplugged the card, which counts as seen by it
abbrev pub track_gone : Track → Track
track_gone t = record t { gone = true }

abbrev pub with_gone : View → Track → View
with_gone v t = record v { seen_gone = true; track = Some (track_gone t) }

-- a seat loads a frame's channels in order
pub record IsNext (v : View) (f c : ℕ) : Type 0 where
  pub channel : c < v.geometry.channels
  pub least : first_frame v.geometry ≤ f
  pub seen : f < v.seen
  pub of_frame : 0 < c → v.loading.number ≡ f
  pub after : 0 < c → length v.loading.samples ≡ c

-- what a word of a frame and channel that were stored, as far as the seat has seen, shows it
pub record Finds (v : View) (f c n : ℕ) : Type 0 where
  pub noted : (o : ℕ) → slice_index_or v.noted (index_of v.geometry f c) None ≡ Some o → NotPast o n
  pub not_before : lap v.geometry f + 1 ≤ laps_of n
  pub past : f + v.geometry.frames < v.seen → lap v.geometry f + 1 < laps_of n

-- a load of the position
abbrev pub position_load : Step (Unit {0}) → Me (Unit {0}) View → ℕ → Me (Unit {0}) View → Type 0
position_load s m n r =
    (p : ℕ) × (gone : Bool)
    × (r ≡ (with_position m.0 p gone, m.1))
    × (n ≡ word_of p gone)
    × (m.0.seen ≤ p)
    × (p ≤ end_frame m.0.geometry)
    × (m.0.seen_gone ≡ true → gone ≡ true)

-- a load of the word of a frame and channel: with the frame's lap it is the frame's sample
abbrev pub word_load : ℕ → ℕ → Step (Unit {0}) → Me (Unit {0}) View → ℕ → Me (Unit {0}) View → Type 0
word_load f c s m n r =
    Finds m.0 f c n
    × (laps_of n ≡ lap m.0.geometry f + 1 → r ≡ (with_sample (with_note m.0 s.word n) f c (sample_of n), m.1))
    × (laps_of n ≢ lap m.0.geometry f + 1 → r ≡ (with_note m.0 s.word n, m.1))

-- the writer's store of the next sample
abbrev pub sample_store : Step (Unit {0}) → Me (Unit {0}) View → ℕ → Me (Unit {0}) View → Type 0
sample_store s m n r = (t : Track) × (m.0.track ≡ Some t) × (r ≡ (with_stored m.0 t (sample_of s.first), m.1))

-- its store of the position
abbrev pub position_store : Step (Unit {0}) → Me (Unit {0}) View → ℕ → Me (Unit {0}) View → Type 0
position_store s m n r =
    (t : Track) × (m.0.track ≡ Some t) × (r ≡ (with_published m.0 t (next_to_store m.0.geometry t).frame, m.1))

abbrev pub unplug_store : Step (Unit {0}) → Me (Unit {0}) View → ℕ → Me (Unit {0}) View → Type 0
unplug_store s m n r = (t : Track) × (m.0.track ≡ Some t) × (r ≡ (with_gone m.0 t, m.1))

-- what the rule says of a view that has the writer's part: the positions that it saw were published, the card was seen gone
-- only where it is, each noted word's lap is at most that of the last frame stored there, or of a new ring's word where none was, and
-- each frame that it got is the stored one of its number
pub record Knows (v : View) (t : Track) : Type 0 where
  pub seen : v.seen ≤ position_of v.geometry t
  pub positions : (i p : ℕ) → get_elem? v.positions i ≡ some p → IsPosition v.geometry t.published p
  pub gone : v.seen_gone ≡ true → t.gone ≡ true
  pub noted : (n f c : ℕ) → IsLast v.geometry (next_to_store v.geometry t) f c → slice_index_or v.noted (index_of v.geometry f c) None ≡ Some n
      → laps_of n ≤ lap v.geometry f + 1
  pub unused : (n f c : ℕ) → IsUnused v.geometry (next_to_store v.geometry t) f c → slice_index_or v.noted (index_of v.geometry f c) None ≡ Some n
      → laps_of n ≤ v.geometry.first_lap
  pub got : (i : ℕ) (f : Frame) → get_elem? v.got i ≡ some f → IsCaptured v.geometry t.stored f

-- a load of the position that notes nothing
abbrev pub quiet_load : Step (Unit {0}) → Me (Unit {0}) View → ℕ → Me (Unit {0}) View → Type 0
quiet_load s m n r = (r ≡ m) × ((t : Track) → m.0.track ≡ Some t → Knows m.0 t)
