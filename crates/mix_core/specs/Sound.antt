-- What is true of every core, whatever history it represents.
use Rattle.std.specs.Prelude.{◌≡◌, ℕ, ◌+◌, ◌*◌, ◌<◌, ◌≤◌, List, length, nat_lt, if◌then◌else◌, All, pos, ◌+ℤ◌, ◌≤ℤ◌}
use Rattle.std.specs.List.{sum_by}
use Rattle.mix_core.specs.declared.marks.Marks.{Marks}
use Rattle.snd_base.specs.declared.geometry.Geometry.{Geometry}
use Rattle.snd_base.specs.declared.places.Cursor.{Cursor}
use Rattle.snd_base.specs.Places.{IsWithin, end_frame, first_frame, first_free, lap}
use Rattle.lap_word.specs.Word.{count_of, lap_of, sum_of}
use Rattle.mix_core.specs.View.{View, word_at}

-- how many entries of a member may be at a frame and channel: none from its high on, two from its cursor on, one from its
-- floor on, and else three
abbrev pub hold_at : ℕ → ℕ → ℕ → ℕ → ℕ
hold_at f floor cursor high = if nat_lt f high then (if nat_lt f cursor then (if nat_lt f floor then 3 else 1) else 2) else 0

abbrev pub may_hold : Marks → ℕ → ℕ → ℕ
may_hold m f c = hold_at f (first_free m.floor c) (first_free m.cursor c) (first_free m.high c)

-- and how many of all members
abbrev pub all_hold : List Marks → ℕ → ℕ → ℕ
all_hold ms f c = sum_by (λ (m : Marks). may_hold m f c) ms

-- a word has a lap, and no greater count, nor a greater sum, than so many additions and withdrawals give
pub record HoldsAtMost (w l most : ℕ) : Type 0 where
  pub of_lap : lap_of w ≡ l
  pub count : count_of w ≤ most
  pub low : pos 0 ≤ℤ (sum_of w +ℤ pos (32768 * count_of w))
  pub high : sum_of w ≤ℤ pos (32768 * count_of w)

-- the ring has the word of a frame and channel now: it is the first of its slot that is not taken
pub record IsNow (g : Geometry) (at : Cursor) (f c : ℕ) : Type 0 where
  pub channel : c < g.channels
  pub low : first_free at c ≤ f
  pub high : f < first_free at c + g.frames

-- the marks of a member are in the order of floor or cursor, and high, and within the ring's frames
pub record AreWithin (g : Geometry) (m : Marks) : Type 0 where
  pub cursor : IsWithin g m.cursor.frame
  pub floor : IsWithin g m.floor.frame
  pub high : IsWithin g m.high.frame
  pub cursor_high : (c : ℕ) → first_free m.cursor c ≤ first_free m.high c
  pub floor_high : (c : ℕ) → first_free m.floor c ≤ first_free m.high c

-- the words are those of the frames that the ring has now, and each has at most one sample of each member past it
pub record IsSound (v : View) : Type 0 where
  pub room : length v.words ≡ v.geometry.frames * v.geometry.channels
  pub members : length v.marks ≤ 64
  pub next_channel : v.next.channel < v.geometry.channels
  pub next_least : first_frame v.geometry ≤ v.next.frame
  pub next_most : v.next.frame ≤ end_frame v.geometry
  pub position_least : first_frame v.geometry ≤ v.position
  pub position_most : v.position ≤ v.next.frame
  pub marks_within : All (λ (m : Marks). AreWithin v.geometry m) v.marks
  pub words_now : (f c : ℕ) → IsNow v.geometry v.next f c → HoldsAtMost (word_at v f c) (lap v.geometry f) (all_hold v.marks f c)
