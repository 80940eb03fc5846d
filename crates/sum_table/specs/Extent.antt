-- How far a seat has placed samples, and what it may still withdraw.
use Rattle.std.specs.Prelude.{ℕ, Option, None, Some}
use Rattle.snd_base.specs.declared.geometry.Geometry.{Geometry}
use Rattle.snd_base.specs.declared.places.Cursor.{Cursor}
use Rattle.snd_base.specs.Places.{cursor_after}
use Rattle.mix_core.specs.declared.marks.Marks.{Marks}
use Rattle.mix_core.specs.declared.port.Kind.{Kind}
use Rattle.mix_core.specs.Laid.{marks_with}
use Rattle.mix_core.specs.Marks.{start_marks}
use Rattle.sum_table.specs.declared.seats.reach.Apart.{Apart}
use Rattle.sum_table.specs.Cuts.{joined_marks}
use Rattle.sum_table.specs.Known.{greater}

-- the ring's geometry, the seat's marks, and the greatest frame that it placed in
pub record Extent : Type 0 where
  pub geometry : Geometry
  pub marks : Marks
  pub last : Option ℕ

-- before anything was placed
abbrev pub start_extent : Geometry → Extent
start_extent g = record { geometry = g; marks = start_marks g; last = None }

-- after an entry of a kind at a frame and channel
abbrev pub extent_after : Kind → Extent → ℕ → ℕ → Extent
extent_after k e f c = record { geometry = e.geometry; marks = marks_with k e.geometry e.marks f c; last = greater e.last (Some f) }

-- of two seats that are joined, the second with so many places
abbrev pub joined_extent : Extent → Extent → ℕ → Extent
joined_extent e d n = record { geometry = e.geometry; marks = joined_marks e.marks d.marks n; last = greater e.last d.last }

-- of a frame and channel that were placed last, the floor, and the other marks where they aren't right after that frame and channel
abbrev pub extent_of : Geometry → ℕ → ℕ → Cursor → Option Apart → Extent
extent_of g f c floor None = record { geometry = g; marks = record { cursor = cursor_after g f c; floor = floor; high = cursor_after g f c }; last = Some f }
extent_of g f c floor (Some a) = record { geometry = g; marks = record { cursor = a.cursor; floor = floor; high = a.high }; last = a.last }
