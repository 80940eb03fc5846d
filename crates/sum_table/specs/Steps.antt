-- What each kind of step does to the view of the seat that makes it, and what it says.
use Rattle.std.specs.Prelude.{◌≡◌, ◌≢◌, ◌⊎◌, ℕ, ◌+◌, ◌*◌, ◌<◌, ◌≤◌, Bool, true, None, Some, List, [], ◌∷◌, ◌++◌, map, slice_set, ℤ, pos, ◌+ℤ◌, ◌≤ℤ◌, ◌^◌}
use Rattle.std.specs.List.{slice_index_or}
use mathlib.Core.Option.{some}
use lib.ListN.{get_elem?}
use Rattle.atomic_table.specs.Table.{Me, Step}
use Rattle.snd_base.specs.declared.geometry.Geometry.{Geometry}
use Rattle.snd_base.specs.Places.{IsFrom, end_frame, first_frame, lap}
use Rattle.lap_word.specs.Clamp.{clamp_of}
use Rattle.lap_word.specs.Position.{word_of}
use Rattle.lap_word.specs.Word.{StandsFor, count_of, lap_of, sum_of}
use Rattle.mix_core.specs.declared.event.Event.TheVariants.{Add, Withdraw, Take, Publish}
use Rattle.mix_core.specs.declared.event.Reply.TheVariants.{Late, Took, Published}
use Rattle.mix_core.specs.declared.event.Taken.{Taken}
use Rattle.mix_core.specs.declared.marks.Marks.{Marks}
use Rattle.mix_core.specs.declared.port.Entry.{Entry}
use Rattle.mix_core.specs.declared.port.Kind.{Kind}
use Rattle.mix_core.specs.declared.port.Kind.TheVariants.{Added, Withdrawn}
use Rattle.mix_core.specs.MarkLaws.{free_after}
use Rattle.mix_core.specs.Marks.{is_before}
use Rattle.mix_core.specs.History.{AreExact, AreInOrder, IsLegal, IsReply, Row, laid_of, entry_row, taken_words}
use Rattle.mix_core.specs.Laid.{marks_after, standing, total, without_last}
use Rattle.mix_core.specs.Sound.{IsNow}
use Rattle.sum_table.specs.declared.view.Sighting.{Sighting}
use Rattle.sum_table.specs.declared.view.Track.{Track}
use Rattle.sum_table.specs.declared.view.View.{View}
use Rattle.sum_table.specs.Exact.{BeginsWith, IsPublishedPosition, next_at, position_at}
use Rattle.sum_table.specs.Laid.{SameSums, by_member, count, own_entries}
use Rattle.ring_rule.specs.Words.{NotPast, index_of}

-- a seat saw the history so far
abbrev pub with_history : View → List Row → View
with_history v h = record v { history = h }

-- a word that was found at an index
abbrev pub sighting : ℕ → ℕ → Sighting
sighting i n = record { index = i; word = n }

-- it found a word, and noted it
abbrev pub with_note : View → List Row → ℕ → ℕ → View
with_note v h i n = record v { history = h; sightings = v.sightings ++ sighting i n ∷ []; noted = slice_set v.noted i (Some n) }

-- what may still be withdrawn after one more entry
abbrev pub withdrawable_after : Kind → Marks → List Entry → Entry → List Entry
withdrawable_after Added m free e = free_after (is_before m.cursor m.high) free e
withdrawable_after Withdrawn m free e = without_last free

-- it placed an entry: it added a sample, or withdrew it
abbrev pub with_entry : View → List Row → Entry → View
with_entry v h e = record v {
  history = h;
  laid = v.laid ++ e ∷ [];
  mine = v.mine ++ e ∷ [];
  marks = marks_after v.key.geometry v.marks e;
  free = withdrawable_after e.kind v.marks v.free e;
}

-- it saw a position
abbrev pub with_position : View → List Row → ℕ → Bool → View
with_position v h p gone = record v { history = h; positions = v.positions ++ p ∷ []; seen = p; seen_gone = gone }

-- what the next word gives, where its value is this
abbrev pub next_taken : Geometry → Track → ℤ → Taken
next_taken g t z = record { frame = (next_at g t).frame; channel = (next_at g t).channel; value = z }

-- the player took a word
abbrev pub track_taken : Track → Taken → Track
track_taken t x = record t { taken = t.taken ++ x ∷ [] }

abbrev pub with_taken : View → List Row → Track → Taken → View
with_taken v h t x = record v { history = h; track = Some (track_taken t x) }

-- it published a position, which counts as seen by it
abbrev pub track_published : Track → ℕ → Track
track_published t p = record t { published = t.published ++ p ∷ [] }

abbrev pub with_published : View → List Row → Track → ℕ → View
with_published v h t p = record v { history = h; positions = v.positions ++ p ∷ []; seen = p; track = Some (track_published t p) }

-- it unplugged the card, which counts as seen by it
abbrev pub track_gone : Track → Track
track_gone t = record t { gone = true }

abbrev pub with_gone : View → List Row → Track → View
with_gone v h t = record v { history = h; seen_gone = true; track = Some (track_gone t) }

-- the row of an entry that a member placed: an add that was in time
abbrev pub in_row : ℕ → Entry → Row
in_row m e = entry_row (by_member m e)

-- a step of a seat in the ring's history: the history goes on from what the seat had seen of it, by the steps of others and
-- then by this one's rows; it is legal, and in it the adds of the seat's number are exactly those that the seat made
pub record IsStep (v w : View) (by members : ℕ) (between rows : List Row) : Type 0 where
  pub history : w.history ≡ (v.history ++ between) ++ rows
  pub legal : IsLegal v.key.geometry members w.history
  pub in_range : by < members
  pub own_adds : own_entries by (laid_of w.history) ≡ map (by_member by) w.mine

-- a step that is these events, of the seat that makes it
abbrev pub Makes : View → View → (ℕ → List Row) → Type 0
Makes v w rows = (by : ℕ) × (members : ℕ) × (between : List Row) × IsStep v w by members between (rows by)

-- a seat's last standing add is a sample at a frame and channel that are not before its floor
pub record HoldsLast (v : View) (f c : ℕ) (s : ℤ) : Type 0 where
  pub early : List Entry
  pub last : Entry
  pub ends : standing v.laid ≡ early ++ last ∷ []
  pub frame : last.frame ≡ f
  pub channel : last.channel ≡ c
  pub sample : last.sample ≡ s
  pub from_floor : IsFrom v.marks.floor f c

-- a seat may add there, or withdraw
abbrev pub MayStand : View → ℕ → ℕ → Type 0
MayStand v f c = ((0 < v.places) × IsFrom v.marks.cursor f c) ⊎ ((s : ℤ) × HoldsLast v f c s)

-- a word of a later lap is where a seat could still have added, as far as it knows
pub record IsLateAt (v : View) (i n f c : ℕ) : Type 0 where
  pub index : index_of v.key.geometry f c ≡ i
  pub channel : c < v.key.geometry.channels
  pub from_cursor : IsFrom v.marks.cursor f c
  pub ahead : f < v.seen + v.key.geometry.frames
  pub past : lap v.key.geometry f < lap_of n

-- or where it could still have withdrawn a sample
pub record IsLateHeld (v : View) (i n f c : ℕ) (s : ℤ) : Type 0 where
  pub index : index_of v.key.geometry f c ≡ i
  pub holds : HoldsLast v f c s
  pub past : lap v.key.geometry f < lap_of n

-- a step that finds a word: where the word's lap is past the frame's, it is an add with the reply `Late`, whatever the
-- sample, or a withdrawal of the seat's last standing add; else it is no event. What is late changes nothing, and isn't kept
-- in the history
abbrev pub MakesLook : View → View → ℕ → ℕ → Type 0
MakesLook v w i n =
    (by : ℕ) × (members : ℕ) × (between : List Row)
    × IsStep v w by members between []
    × ((f c : ℕ) (x : ℤ) → IsLateAt v i n f c → IsReply v.key.geometry members w.history (Add by f c x, Late))
    × ((f c : ℕ) (x : ℤ) → IsLateHeld v i n f c x → IsReply v.key.geometry members w.history (Withdraw by f c x, Late))

-- a word has a count up to a number, and no greater sum than so many samples give
pub record IsWord (w most : ℕ) : Type 0 where
  pub fits : w < 2 ^ 64
  pub few : count_of w ≤ 3 * most
  pub low : pos 0 ≤ℤ (sum_of w +ℤ pos (32768 * count_of w))
  pub high : sum_of w ≤ℤ pos (32768 * count_of w)

-- what a word that was found says of a frame and channel: the lap isn't before the frame's, below the position seen it is
-- past it, and at the frame's own lap there is room for all places of a seat that hasn't added there
pub record Tells (v : View) (n f c : ℕ) : Type 0 where
  pub not_before : lap v.key.geometry f ≤ lap_of n
  pub late : f < v.seen → lap v.key.geometry f < lap_of n
  pub room : lap_of n ≡ lap v.key.geometry f → MayStand v f c → count_of n < 3 * v.key.places

-- what a word that was found is
pub record Finds (v : View) (i n : ℕ) : Type 0 where
  pub word : IsWord n v.key.places
  pub noted : (o : ℕ) → slice_index_or v.noted i None ≡ Some o → NotPast o n
  pub tells : (f c : ℕ) → index_of v.key.geometry f c ≡ i → c < v.key.geometry.channels → first_frame v.key.geometry ≤ f
      → f < v.seen + v.key.geometry.frames → Tells v n f c

abbrev pub position_load : Step Entry → Me Entry View → ℕ → Me Entry View → Type 0
position_load s m n r =
    (h : List Row) × (p : ℕ) × (gone : Bool)
    × (r ≡ (with_position m.0 h p gone, m.1))
    × (n ≡ word_of p gone)
    × (m.0.seen ≤ p)
    × (p ≤ end_frame m.0.key.geometry)
    × (m.0.seen_gone ≡ true → gone ≡ true)
    × Makes m.0 (with_position m.0 h p gone) (λ _. [])

-- a word represents what a history placed at a frame and channel, where it has the frame's lap: the number of the samples there
-- and their sum
abbrev pub IsSumOf : Geometry → List Row → ℕ → ℕ → ℕ → Type 0
IsSumOf g h f c n = lap_of n ≡ lap g f → StandsFor n (lap g f) (count (laid_of h) f c) (total (laid_of h) f c)

-- a word was found, and nothing else happened
abbrev pub Notes : View → List (ℕ × Entry) → ℕ → ℕ → Me Entry View → Type 0
Notes v c i n r =
    (h : List Row)
    × (r ≡ (with_note v h i n, c))
    × MakesLook v (with_note v h i n) i n
    × ((f c : ℕ) → index_of v.key.geometry f c ≡ i → c < v.key.geometry.channels → IsSumOf v.key.geometry h f c n)

abbrev pub word_load : Step Entry → Me Entry View → ℕ → Me Entry View → Type 0
word_load s m n r = Finds m.0 s.word n × Notes m.0 m.1 s.word n r

-- an entry was placed
abbrev pub Lays : View → List (ℕ × Entry) → Entry → Me Entry View → Type 0
Lays v c e r =
    (h : List Row)
    × (r ≡ (with_entry v h e, c))
    × Makes v (with_entry v h e) (λ by. in_row by e ∷ [])

abbrev pub word_exchange : Step Entry → Me Entry View → ℕ → Me Entry View → Type 0
word_exchange s m n r =
    Finds m.0 s.word n
    × (n ≡ s.first → (e : Entry) × (s.said ≡ some e) × Lays m.0 m.1 e r)
    × (n ≢ s.first → Notes m.0 m.1 s.word n r)

abbrev pub word_take : Step Entry → Me Entry View → ℕ → Me Entry View → Type 0
word_take s m n r =
    (h : List Row) × (t : Track) × (z : ℤ)
    × (m.0.track ≡ Some t)
    × (z ≡ clamp_of (sum_of n))
    × (z ≡ clamp_of (total (laid_of h) (next_at m.0.key.geometry t).frame (next_at m.0.key.geometry t).channel))
    × (r ≡ (with_taken m.0 h t (next_taken m.0.key.geometry t z), m.1))
    × Makes m.0 (with_taken m.0 h t (next_taken m.0.key.geometry t z)) (λ _. (Take, Took (next_at m.0.key.geometry t).frame (next_at m.0.key.geometry t).channel z) ∷ [])

abbrev pub position_store : Step Entry → Me Entry View → ℕ → Me Entry View → Type 0
position_store s m n r =
    (h : List Row) × (t : Track)
    × (m.0.track ≡ Some t)
    × (r ≡ (with_published m.0 h t (next_at m.0.key.geometry t).frame, m.1))
    × Makes m.0 (with_published m.0 h t (next_at m.0.key.geometry t).frame) (λ _. (Publish, Published (next_at m.0.key.geometry t).frame) ∷ [])

abbrev pub unplug_store : Step Entry → Me Entry View → ℕ → Me Entry View → Type 0
unplug_store s m n r =
    (h : List Row) × (t : Track)
    × (m.0.track ≡ Some t)
    × (r ≡ (with_gone m.0 h t, m.1))
    × Makes m.0 (with_gone m.0 h t) (λ _. [])

-- what the rule says of a view that has the player's part: the positions that it saw were published, the card was seen gone
-- only where it is, each noted word's lap is at most that of the first frame there that is not taken, the history took what
-- the player took; and where the view has all places, each taken value is the sum of the samples that it placed there, and the
-- history placed these
pub record Knows (v : View) (t : Track) : Type 0 where
  pub seen : v.seen ≤ position_at v.key.geometry t
  pub positions : (i p : ℕ) → get_elem? v.positions i ≡ some p → IsPublishedPosition v.key.geometry t p
  pub gone : v.seen_gone ≡ true → t.gone ≡ true
  pub noted : (n f c : ℕ) → IsNow v.key.geometry (next_at v.key.geometry t) f c → slice_index_or v.noted (index_of v.key.geometry f c) None ≡ Some n
      → lap_of n ≤ lap v.key.geometry f
  pub in_order : AreInOrder v.key.geometry t.taken
  pub history : taken_words v.history ≡ t.taken
  pub exact : v.places ≡ v.key.places → AreExact v.laid t.taken
  pub laid : v.places ≡ v.key.places → SameSums (laid_of v.history) v.laid

abbrev pub quiet_load : Step Entry → Me Entry View → ℕ → Me Entry View → Type 0
quiet_load s m n r =
    (h : List Row)
    × (r ≡ (with_history m.0 h, m.1))
    × (m.0.places ≤ m.0.key.places)
    × Makes m.0 (with_history m.0 h) (λ _. [])
    × BeginsWith h m.0.heard
    × ((t : Track) → m.0.track ≡ Some t → Knows (with_history m.0 h) t)
