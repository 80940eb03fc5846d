-- The local ring: the frame with a number is in the slot of that number mod the buffer size.
use Rattle.std.specs.Prelude.{ℕ, zero, suc, ◌+◌, ◌*◌, ◌%◌, ℤ, List, ◌++◌, drop, length, take}

-- a list with a part written over, from a place on
abbrev pub written_over : List ℤ → ℕ → List ℤ → List ℤ
written_over ring place part = take place ring ++ part ++ drop (place + length part) ring

-- the ring with the first n of some interleaved frames, as the frames from a number on
abbrev pub with_frames : ℕ → ℕ → List ℤ → ℕ → List ℤ → ℕ → List ℤ
with_frames buffer channels ring from samples zero = ring
with_frames buffer channels ring from samples (suc n) =
    written_over (with_frames buffer channels ring from samples n) ((from + n) % buffer * channels)
    (take channels (drop (n * channels) samples))
