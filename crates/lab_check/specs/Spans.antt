-- Spans of frames, in which a frame is looked up.
use Rattle.std.specs.Prelude.{◌≡◌, ℕ, ◌+◌, ◌*◌, ◌^◌, ◌<◌, ◌&&◌, nat_le, max, Bool, false, List, [], ◌∷◌, Option, Some, None, slice_get}
use Rattle.std.specs.List.{list_any}
use Rattle.std.specs.List.Sorted.{IsNonDecreasingBy}
use Rattle.snd_base.specs.declared.places.Segment.{Segment}
use Rattle.wav_io.specs.Sound.{Sound}
use Rattle.lab_lines.specs.declared.script.Script.{Script}
use Rattle.lab_check.specs.declared.spans.FrameSpan.{FrameSpan}
use Rattle.lab_check.specs.Late.{covers}

-- a frame is in a span
abbrev pub is_in_span : ℕ → FrameSpan → Bool
is_in_span frame span = nat_le span.first frame && nat_le frame span.last

-- it is in the span that there is
abbrev pub is_in_some : ℕ → Option FrameSpan → Bool
is_in_some frame None = false
is_in_some frame (Some span) = is_in_span frame span

-- the greatest of a number and the last frames of the spans up to each of them
abbrev pub greatest_ends : ℕ → List FrameSpan → List ℕ
greatest_ends most [] = []
greatest_ends most (span ∷ spans) = max most span.last ∷ greatest_ends (max most span.last) spans

-- spans stand by rising first frame
abbrev pub AreRising : List FrameSpan → Type 0
AreRising spans = IsNonDecreasingBy (λ (span : FrameSpan). span.first) spans

-- and these numbers are the greatest last frames so far
pub record IsIndexed (spans : List FrameSpan) (ends : List ℕ) : Type 0 where
  pub rising : AreRising spans
  pub ends_are : ends ≡ greatest_ends 0 spans

-- a client has a sample on a channel at a frame, by some segments
abbrev pub has_client_sample : Script → List Sound → List (ℕ × Segment) → ℕ → ℕ → ℕ → Bool
has_client_sample script wavs segments number channel frame =
    list_any (covers script wavs number frame channel) segments

-- a frame is in one of the spans of an index that there is
abbrev pub is_in_index : ℕ → Option (List FrameSpan) → Bool
is_in_index frame None = false
is_in_index frame (Some spans) = list_any (is_in_span frame) spans

-- the indexes of all clients, channel by channel, have the frames of 64 bits at which the client has a sample on the channel
abbrev pub AreIndexes : Script → List Sound → List (ℕ × Segment) → List (List FrameSpan) → Type 0
AreIndexes script wavs segments indexes = (number channel frame : ℕ)
    → channel < script.card.channels → frame < 2 ^ 64
    → is_in_index frame (slice_get indexes (number * script.card.channels + channel))
    ≡ has_client_sample script wavs segments number channel frame
