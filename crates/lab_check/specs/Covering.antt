-- At which frames a segment has a sample of a channel, by its numbers.
use Rattle.std.specs.Prelude.{ℕ, ◌-◌, ◌==◌, ◌&&◌, nat_le, nat_lt, if◌then◌else◌, Bool, false, List, length, Option, Some, None, slice_index, take}
use Rattle.std.specs.List.{list_any}
use Rattle.snd_base.specs.declared.places.Segment.{Segment}
use Rattle.bindings.specs.Bound.{rising}

-- one of the first so many client channels, by rising card channel, is bound to a card channel
abbrev pub reaches_channel : List ℕ → ℕ → ℕ → Bool
reaches_channel bindings places channel =
    list_any (λ q. slice_index bindings q == channel) (take places (rising bindings))

-- how many frames behind a segment's first one its last sample of a card channel is, if it has one: behind the whole frames, where the channel is one of
-- the part, or in the last of them, where it is bound
abbrev pub last_on : List ℕ → Segment → ℕ → Option ℕ
last_on bindings segment channel =
    if reaches_channel bindings segment.part channel then Some segment.whole
    else (if nat_lt 0 segment.whole && reaches_channel bindings (length bindings) channel
    then Some (segment.whole - 1) else None)

-- a frame is at most so many frames behind a first one, if there is such a number
abbrev pub reaches_frame : ℕ → Option ℕ → ℕ → Bool
reaches_frame first None frame = false
reaches_frame first (Some count) frame = nat_le first frame && nat_le (frame - first) count
