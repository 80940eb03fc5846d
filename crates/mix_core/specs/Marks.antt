-- How far a member has got: its cursor, its floor and its high, and how they move.
use Rattle.std.specs.Prelude.{ℕ, ◌-◌, Bool, ◌==◌, ◌&&◌, ◌||◌, nat_eq, nat_lt, if◌then◌else◌, Option, Some, None}
use Rattle.snd_base.specs.declared.geometry.Geometry.{Geometry}
use Rattle.snd_base.specs.declared.places.Cursor.{Cursor}
use Rattle.snd_base.specs.Places.{cursor_after, first_frame}
use Rattle.mix_core.specs.declared.marks.Marks.{Marks}

-- a cursor is before another, by frame and then by channel
abbrev pub is_before : Cursor → Cursor → Bool
is_before a b = nat_lt a.frame b.frame || ((a.frame == b.frame) && nat_lt a.channel b.channel)

-- the later one of two cursors
abbrev pub later_of : Cursor → Cursor → Cursor
later_of a b = if is_before a b then b else a

-- where everybody begins
abbrev pub start_of : Geometry → Cursor
start_of g = record { frame = first_frame g; channel = 0 }

abbrev pub start_marks : Geometry → Marks
start_marks g = record { cursor = start_of g; floor = start_of g; high = start_of g }

-- the floor after an add: where the cursor was before the high, nothing before the high is withdrawn any more
abbrev pub floor_after : Cursor → Cursor → Cursor → Cursor
floor_after cursor floor high = if is_before cursor high then high else floor

-- the marks after an add at a frame and channel, and after a withdrawal there
abbrev pub added_at : Geometry → Marks → ℕ → ℕ → Marks
added_at g m f c = record { cursor = cursor_after g f c; floor = floor_after m.cursor m.floor m.high; high = later_of m.high (cursor_after g f c) }

abbrev pub withdrawn_at : Marks → ℕ → ℕ → Marks
withdrawn_at m f c = record { cursor = record { frame = f; channel = c }; floor = m.floor; high = m.high }

-- the last frame before a cursor, in whole or in part
abbrev pub last_before : Cursor → ℕ
last_before at = if nat_eq at.channel 0 then at.frame - 1 else at.frame

-- the last frame in which a member with these marks placed a sample, withdrawn or not, if it placed one
abbrev pub high_frame : Geometry → Marks → Option ℕ
high_frame g marks = if is_before (start_of g) marks.high then Some (last_before marks.high) else None
