-- Captured samples, which are stored one after the other in the order of frames and channels, and the words that hold the last
-- of them.
use Rattle.std.specs.Prelude.{◌≡◌, ℕ, ◌+◌, ◌-◌, ◌*◌, ◌<◌, ◌≤◌, List, length, ℤ, pos}
use Rattle.std.specs.List.{slice_index_or}
use Rattle.snd_base.specs.declared.geometry.Geometry.{Geometry}
use Rattle.snd_base.specs.declared.places.Cursor.{Cursor}
use Rattle.snd_base.specs.Places.{first_frame, first_free, lap, next_word}
use Rattle.snoop_core.specs.declared.port.Frame.{Frame}
use Rattle.snoop_core.specs.Word.{HoldsSample, laps_of}

-- the place of a frame and channel among all samples
abbrev pub stored_place : Geometry → ℕ → ℕ → ℕ
stored_place g f c = (f - first_frame g) * g.channels + c

-- the sample that was stored at a frame and channel
abbrev pub sample_at : Geometry → List ℤ → ℕ → ℕ → ℤ
sample_at g xs f c = slice_index_or xs (stored_place g f c) (pos 0)

-- the frame and channel that are stored next
abbrev pub next_after_stored : Geometry → List ℤ → Cursor
next_after_stored g xs = next_word g (length xs)

-- a frame is the stored one of its number: all its channels were stored, and these are its samples
pub record IsCaptured (g : Geometry) (xs : List ℤ) (frame : Frame) : Type 0 where
  pub least : first_frame g ≤ frame.number
  pub whole : frame.number < (next_after_stored g xs).frame
  pub size : length frame.samples ≡ g.channels
  pub samples : (c : ℕ) → c < g.channels → slice_index_or frame.samples c (pos 0) ≡ sample_at g xs frame.number c

-- a frame is the last one whose channel was stored in its slot
pub record IsLast (g : Geometry) (next : Cursor) (f c : ℕ) : Type 0 where
  pub channel : c < g.channels
  pub least : first_frame g ≤ f
  pub stored : f < first_free next c
  pub last : first_free next c ≤ f + g.frames

-- nothing was stored yet in the slot and channel of a frame of the first lap
pub record IsUnused (g : Geometry) (next : Cursor) (f c : ℕ) : Type 0 where
  pub channel : c < g.channels
  pub unstored : first_free next c ≤ f
  pub first_lap : f < first_frame g + g.frames

-- each word, by its frame and channel, has the lap of the last frame that was stored there
abbrev pub HaveLaps : Geometry → Cursor → (ℕ → ℕ → ℕ) → Type 0
HaveLaps g next word = (f c : ℕ) → IsLast g next f c → laps_of (word f c) ≡ lap g f + 1

-- each word holds the last sample that was stored there, or what a new ring has
pub record HoldLast (g : Geometry) (word : ℕ → ℕ → ℕ) (xs : List ℤ) : Type 0 where
  pub last : (f c : ℕ) → IsLast g (next_after_stored g xs) f c → HoldsSample (word f c) (lap g f + 1) (sample_at g xs f c)
  pub unused : (f c : ℕ) → IsUnused g (next_after_stored g xs) f c → HoldsSample (word f c) g.first_lap (pos 0)
