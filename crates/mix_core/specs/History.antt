-- Legal histories: lists of events with their replies, each of which the events before it determine.
use Rattle.std.specs.Prelude.{◌≡◌, ◌≢◌, ℕ, ◌+◌, ◌<◌, Bool, ◌==◌, ◌&&◌, true, false, Option, None, Some, List, [], ◌∷◌, ◌++◌, length, fold, ⊤, All, ℤ}
use Rattle.std.specs.List.{filter_map, list_any, slice_index_or}
use Rattle.snd_base.specs.declared.geometry.Geometry.{Geometry}
use Rattle.snd_base.specs.declared.places.Cursor.{Cursor}
use Rattle.snd_base.specs.Places.{IsFrom, first_frame, lap, next_word}
use Rattle.lap_word.specs.Clamp.{clamp_of}
use Rattle.mix_core.specs.declared.port.Entry.{Entry}
use Rattle.mix_core.specs.declared.event.Event.{Event}
use Rattle.mix_core.specs.declared.event.Event.TheVariants.{Add, Withdraw, Take, Publish}
use Rattle.mix_core.specs.declared.event.Reply.{Reply}
use Rattle.mix_core.specs.declared.event.Reply.TheVariants.{In, Late, Outside, Took, Published, LapEnd}
use Rattle.mix_core.specs.declared.event.Taken.{Taken}
use Rattle.mix_core.specs.declared.port.Kind.{Kind}
use Rattle.mix_core.specs.declared.port.Kind.TheVariants.{Added, Withdrawn}
use Rattle.mix_core.specs.Laid.{a_withdrawal, an_add, cursor_of, last_entry, marks_of, standing_of, total}

-- an event and its reply
abbrev pub Row : Type 0
Row = Event × Reply

-- the event of an entry
abbrev pub event_by : Kind → ℕ → ℕ → ℕ → ℤ → Event
event_by Added m f c s = Add m f c s
event_by Withdrawn m f c s = Withdraw m f c s

abbrev pub event_of : Entry → Event
event_of e = event_by e.kind e.member e.frame e.channel e.sample

-- the row of an entry: an add or a withdrawal that was in time
abbrev pub entry_row : Entry → Row
entry_row e = (event_of e, In)

-- the row of an entry that was late: its frame and channel were taken before
abbrev pub late_row : Entry → Row
late_row e = (event_of e, Late)

-- the entry that a row placed: that of an add or a withdrawal with the reply `In`
abbrev pub entry_of : Row → Option Entry
entry_of (Add m f c s, In) = Some (an_add m f c s)
entry_of (Withdraw m f c s, In) = Some (a_withdrawal m f c s)
entry_of (e, r) = None

-- the entries that a history placed, in order
abbrev pub laid_of : List Row → List Entry
laid_of h = filter_map entry_of h

-- what a row took
abbrev pub taking_of : Row → Option Taken
taking_of (Take, Took f c v) = Some (record { frame = f; channel = c; value = v })
taking_of (e, r) = None

-- what a history took, in order
abbrev pub taken_words : List Row → List Taken
taken_words h = filter_map taking_of h

-- whether what was taken has the word of a frame and channel
abbrev pub is_taken : List Taken → ℕ → ℕ → Bool
is_taken ts f c = list_any (λ (t : Taken). (t.frame == f) && (t.channel == c)) ts

-- the next word to be taken: as many words were taken before it
abbrev pub next_to_take : Geometry → List Row → Cursor
next_to_take g h = next_word g (length (taken_words h))

-- the position after one more row: that of a publication is in its reply
abbrev pub position_after : ℕ → Row → ℕ
position_after position (Publish, Published frame) = frame
position_after position (e, r) = position

-- the position that was published last, or the first frame
abbrev pub position_of : Geometry → List Row → ℕ
position_of g h = fold position_after (first_frame g) h

-- a member may add at a frame and channel: both it and the channel are in range, its cursor is not past them, the
-- frame's lap fits a word, and the frame is less than the ring's length past the position
pub record IsInside (g : Geometry) (members : ℕ) (h : List Row) (m f c : ℕ) : Type 0 where
  pub member_in_range : m < members
  pub channel_in_range : c < g.channels
  pub from_cursor : IsFrom (cursor_of g m (laid_of h)) f c
  pub lap_fits : lap g f < 4294967295
  pub ahead : f < position_of g h + g.frames

-- some entry is this sample at a frame and channel
abbrev pub IsSample : Option Entry → ℕ → ℕ → ℤ → Type 0
IsSample None f c s = ⊥
IsSample (Some e) f c s = (e.frame ≡ f) × (e.channel ≡ c) × (e.sample ≡ s)

-- a member may withdraw a sample at a frame and channel: both it and the channel are in range, its last standing add is
-- this sample there, and its floor is not past them
pub record IsHeld (g : Geometry) (members : ℕ) (h : List Row) (m f c : ℕ) (s : ℤ) : Type 0 where
  pub member_in_range : m < members
  pub channel_in_range : c < g.channels
  pub last : IsSample (last_entry (standing_of m (laid_of h))) f c s
  pub from_floor : IsFrom (marks_of g m (laid_of h)).floor f c

-- the reply to an event is the one that the history before it determines:
-- an add is outside exactly where the member may not add there; any other add is late exactly where its frame and
-- channel were taken, and in time otherwise; a take is refused exactly where the lap of the next word's frame is
-- 4294967295, and otherwise takes the next word, whose value is the total there, saturated once to a sample; a publication
-- publishes the frame of the next word
abbrev pub IsReply : Geometry → ℕ → List Row → Row → Type 0
IsReply g members h (Add m f c s, Outside) = ¬ (IsInside g members h m f c)
IsReply g members h (Add m f c s, Late) = IsInside g members h m f c × (is_taken (taken_words h) f c ≡ true)
IsReply g members h (Add m f c s, In) = IsInside g members h m f c × (is_taken (taken_words h) f c ≡ false)
IsReply g members h (Withdraw m f c s, Outside) = ¬ (IsHeld g members h m f c s)
IsReply g members h (Withdraw m f c s, Late) = IsHeld g members h m f c s × (is_taken (taken_words h) f c ≡ true)
IsReply g members h (Withdraw m f c s, In) = IsHeld g members h m f c s × (is_taken (taken_words h) f c ≡ false)
IsReply g members h (Take, LapEnd) = lap g (next_to_take g h).frame ≡ 4294967295
IsReply g members h (Take, Took f c v) =
    (lap g (next_to_take g h).frame ≢ 4294967295) × (f ≡ (next_to_take g h).frame) × (c ≡ (next_to_take g h).channel)
    × (v ≡ clamp_of (total (laid_of h) f c))
IsReply g members h (Publish, Published frame) = frame ≡ (next_to_take g h).frame
IsReply g members h (e, r) = ⊥

-- each of the rows that follow a history has the reply that the rows before it determine
abbrev pub AreReplies : Geometry → ℕ → List Row → List Row → Type 0
AreReplies g members h [] = ⊤
AreReplies g members h (r ∷ rs) = IsReply g members h r × AreReplies g members (h ++ r ∷ []) rs

-- a legal history: each reply is the one that the events before it determine
abbrev pub IsLegal : Geometry → ℕ → List Row → Type 0
IsLegal g members h = AreReplies g members [] h

-- where a taken word was
abbrev pub taken_place : Taken → Cursor
taken_place t = record { frame = t.frame; channel = t.channel }

-- the list of everything that was taken is in order: its i-th is at the next word after i taken words
abbrev pub AreInOrder : Geometry → List Taken → Type 0
AreInOrder g ts = (i : ℕ) (d : Taken) → i < length ts → taken_place (slice_index_or ts i d) ≡ next_word g i

-- each taken value is the total of what was placed there, saturated once to a sample
abbrev pub AreExact : List Entry → List Taken → Type 0
AreExact es ts = All (λ (t : Taken). t.value ≡ clamp_of (total es t.frame t.channel)) ts
