-- Sums of the samples at some frames of the card, interleaved, to which entries are added one after the other.
use Rattle.std.specs.Prelude.{FitsSigned, ◌≡◌, ℕ, ◌+◌, ◌/◌, ◌%◌, ◌<◌, ℤ, pos, ◌+ℤ◌, List, length, slice_index_or}
use Rattle.std.specs.Int.{int_wrap, w64}
use Rattle.std.specs.List.{flat_map}
use Rattle.snd_base.specs.declared.places.Segment.{Segment}
use Rattle.mix_core.specs.declared.port.Entry.{Entry}
use Rattle.mix_core.specs.Laid.{total}
use Rattle.wav_io.specs.Sound.{Sound}
use Rattle.lab_lines.specs.declared.script.Script.{Script}
use Rattle.lab_check.specs.Late.{entries_of_segment}

-- The entries are added to the sums, the first of which is that of the card's channel 0 at a frame: each is more by the total of the entries at its
-- frame and channel, up to a multiple of 2^64.
pub record IsSummed (channels from : ℕ) (es : List Entry) (old new : List ℤ) : Type 0 where
  pub same : length new ≡ length old
  pub sums : (k : ℕ) → k < length old
      → int_wrap w64 (slice_index_or new k (pos 0))
      ≡ int_wrap w64 (slice_index_or old k (pos 0) +ℤ total es (from + k / channels) (k % channels))

-- what some segments placed, each of them once
abbrev pub entries_of_segments : Script → List Sound → List (ℕ × Segment) → List Entry
entries_of_segments script wavs segments =
    flat_map (λ (pair : ℕ × Segment). entries_of_segment script wavs pair.0 pair.1) segments

-- no total of some entries passes 64 bits
abbrev pub TotalsFit : List Entry → Type 0
TotalsFit es = (frame channel : ℕ) → FitsSigned w64 (total es frame channel)
