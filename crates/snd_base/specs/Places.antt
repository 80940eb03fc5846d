-- Places of a ring in time: frames are absolute numbers, which never wrap, and each has its slot and lap.
use Rattle.std.specs.Prelude.{ℕ, ◌+◌, ◌*◌, ◌/◌, ◌%◌, ◌≤◌, nat_lt, if◌then◌else◌}
use Rattle.snd_base.specs.declared.geometry.Geometry.{Geometry}
use Rattle.snd_base.specs.declared.places.Cursor.{Cursor}

-- the number of the first frame
abbrev pub first_frame : Geometry → ℕ
first_frame g = g.first_lap * g.frames

-- one past the last frame: the first frame of the lap that no word can have
abbrev pub end_frame : Geometry → ℕ
end_frame g = 4294967295 * g.frames

-- the slot of a frame in the ring
abbrev pub slot : Geometry → ℕ → ℕ
slot g f = f % g.frames

-- the lap of a frame: how often the ring was passed before it
abbrev pub lap : Geometry → ℕ → ℕ
lap g f = f / g.frames

-- the place of a frame and channel among the ring's words, slot by slot
abbrev pub word_index : Geometry → ℕ → ℕ → ℕ
word_index g f c = slot g f * g.channels + c

-- the next place after n words were used, in the order of frames and then channels
abbrev pub next_word : Geometry → ℕ → Cursor
next_word g n = record { frame = first_frame g + n / g.channels; channel = n % g.channels }

-- the first frame whose channel c is at a cursor or after it
abbrev pub first_free : Cursor → ℕ → ℕ
first_free at c = if nat_lt c at.channel then at.frame + 1 else at.frame

-- a frame and channel are at a cursor or after it, by frame and then by channel
abbrev pub IsFrom : Cursor → ℕ → ℕ → Type 0
IsFrom at f c = first_free at c ≤ f

-- the cursor right after a frame and channel
abbrev pub cursor_after : Geometry → ℕ → ℕ → Cursor
cursor_after g f c =
    if nat_lt (c + 1) g.channels then record { frame = f; channel = c + 1 } else record { frame = f + 1; channel = 0 }

-- a frame number from the first frame to one past the last
pub record IsWithin (g : Geometry) (f : ℕ) : Type 0 where
  pub least : first_frame g ≤ f
  pub most : f ≤ end_frame g
