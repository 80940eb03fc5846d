-- What contracts see of a core: its ring's words and geometry, its members' marks, and how far the player is.
use Rattle.std.specs.Prelude.{◌≡◌, ℕ, ◌+◌, ◌<◌, ◌≤◌, Bool, List, length, slice_index, slice_index_or}
use Rattle.snd_base.specs.declared.geometry.Geometry.{Geometry}
use Rattle.snd_base.specs.declared.places.Cursor.{Cursor}
use Rattle.snd_base.specs.Places.{IsFrom, first_free, lap, word_index}
use Rattle.lap_word.specs.Word.{lap_of}
use Rattle.mix_core.specs.declared.marks.Marks.{Marks}
use Rattle.mix_core.specs.declared.port.Entry.{Entry}

-- a core: its geometry, the words slot by slot, each member's marks, the next word to be taken, the position that was
-- published last, and whether the card is gone
pub record View : Type 0 where
  pub geometry : Geometry
  pub words : List ℕ
  pub marks : List Marks
  pub next : Cursor
  pub position : ℕ
  pub gone : Bool

-- a member's marks, and its cursor
abbrev pub marks_at : View → ℕ → Marks
marks_at v m = slice_index_or v.marks m (record { cursor = v.next; floor = v.next; high = v.next })

abbrev pub cursor_at : View → ℕ → Cursor
cursor_at v m = (marks_at v m).cursor

-- the word at a frame and channel
abbrev pub word_at : View → ℕ → ℕ → ℕ
word_at v f c = slice_index v.words (word_index v.geometry f c)

-- a word of a frame and channel that were taken: the ring shows it there, and its lap is past the frame's
pub record IsLateWord (v : View) (f c word : ℕ) : Type 0 where
  pub shown : word_at v f c ≡ word
  pub past : lap v.geometry f < lap_of word
  pub taken : f < first_free v.next c

-- a frame and channel that are not taken: they are at the next word or after it, and not before the position
pub record IsUntaken (v : View) (f c : ℕ) : Type 0 where
  pub untaken : first_free v.next c ≤ f
  pub published : v.position ≤ f

-- an entry's member may add at its frame and channel, be they taken or not: both it and the channel are in range, its
-- cursor is not past them, the frame's lap fits a word, and the frame is less than the ring's length past the position
pub record MayAdd (v : View) (e : Entry) : Type 0 where
  pub member_in_range : e.member < length v.marks
  pub channel_in_range : e.channel < v.geometry.channels
  pub from_cursor : IsFrom (cursor_at v e.member) e.frame e.channel
  pub lap_fits : lap v.geometry e.frame < 4294967295
  pub ahead : e.frame < v.position + v.geometry.frames
