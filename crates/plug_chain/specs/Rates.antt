-- Frames at one rate made into frames at another, on straight lines between them.
use Rattle.std.specs.Prelude.{◌≡◌, ℕ, zero, suc, ◌+◌, ◌-◌, ◌*◌, ◌/◌, ◌%◌, ◌<◌, ◌≤◌, ◌++◌, min, List, [], ◌∷◌, length, replicate, slice_index_or, ℤ, pos, negsuc, ◌+ℤ◌, ◌-ℤ◌, ◌*ℤ◌, ◌≤ℤ◌}
use Rattle.std.specs.List.{flat_map, range_with_len}
use Rattle.std.specs.Int.{int_div_euclid}

-- frames per second that come in and go out
pub record RatePair : Type 0 where
  pub input : ℕ
  pub output : ℕ

-- both rates are at least 1, and the output is at most 192000
pub record AreRates (r : RatePair) : Type 0 where
  pub some_input : 1 ≤ r.input
  pub some_output : 1 ≤ r.output
  pub most_output : r.output ≤ 192000

-- the number at `part` of `parts` on the line from one number to another, rounded down
abbrev pub on_line : ℕ → ℕ → ℤ → ℤ → ℤ
on_line part parts from to = from +ℤ int_div_euclid ((to -ℤ from) *ℤ pos part) (pos parts)

-- a difference of two samples
pub record IsRise (rise : ℤ) : Type 0 where
  pub low : negsuc 65534 ≤ℤ rise
  pub high : rise ≤ℤ pos 65535

-- the number on the line, for each channel of two frames
abbrev pub frame_between : ℕ → ℕ → List ℤ → List ℤ → List ℤ
frame_between part parts [] to = []
frame_between part parts (x ∷ from) [] = on_line part parts x (pos 0) ∷ frame_between part parts from []
frame_between part parts (x ∷ from) (y ∷ to) = on_line part parts x y ∷ frame_between part parts from to

-- the frame at a place; the last one stays past the end
abbrev pub frame_at : List (List ℤ) → ℕ → List ℤ
frame_at frames i = slice_index_or frames (min i (length frames - 1)) []

-- output frame j lies at j·input/output frames
unfoldable pub output_frame : RatePair → List (List ℤ) → ℕ → List ℤ
output_frame r frames j =
    let i = j * r.input / r.output in
    frame_between (j * r.input % r.output) r.output (frame_at frames i) (frame_at frames (i + 1))

-- the samples of so many output frames from one on
unfoldable pub output_frames : RatePair → List (List ℤ) → ℕ → ℕ → List ℤ
output_frames r frames first count = flat_map (output_frame r frames) (range_with_len first count)

-- how many output frames lie before the end of n frames: those with j·input/output below n
abbrev pub output_count : RatePair → ℕ → ℕ
output_count r n = (n * r.output + (r.input - 1)) / r.input

-- how many lie at the last of n frames or before it, so that no later frame changes them
abbrev pub known_count : RatePair → ℕ → ℕ
known_count r zero = 0
known_count r (suc n) = n * r.output / r.input + 1

-- all samples that go out
abbrev pub resampled_samples : RatePair → List (List ℤ) → List ℤ
resampled_samples r frames = output_frames r frames 0 (output_count r (length frames))

-- those that are known before the end
abbrev pub known_samples : RatePair → List (List ℤ) → List ℤ
known_samples r frames = output_frames r frames 0 (known_count r (length frames))

-- a frame of zeros
abbrev pub silence : ℕ → List ℤ
silence channels = replicate channels (pos 0)

-- after these frames this frame is the last, and the next output frame lies so many parts past the frame before it
pub record IsRateAt (r : RatePair) (channels : ℕ) (frames : List (List ℤ)) (last : List ℤ)
    (place : ℕ) : Type 0 where
  pub last_is : last ≡ slice_index_or frames (length frames - 1) (silence channels)
  pub place_is : known_count r (length frames) * r.input + r.output
      ≡ length frames * r.output + place

-- a frame of so many channels, and a place that the next frame or the one after it reaches
pub record IsCourse (r : RatePair) (channels : ℕ) (last : List ℤ) (place : ℕ) : Type 0 where
  pub same_channels : length last ≡ channels
  pub begun : 1 ≤ place
  pub near : place < r.input + r.output

-- a list grew by output frames, from the first that wasn't known of the first `before` frames on; the next lies at this place
pub record IsUnderway (r : RatePair) (frames : List (List ℤ)) (before place : ℕ)
    (old new : List ℤ) : Type 0 where
  pub count : ℕ
  pub new_is : new ≡ old ++ output_frames r frames (known_count r before) count
  pub place_is : (known_count r before + count) * r.input + r.output ≡ before * r.output + place
