-- What a segment represents: the entries that the client placed.
use Rattle.mix_core.specs.declared.port.Kind.TheVariants.{Added}
use Rattle.std.specs.Prelude.{ℕ, ◌+◌, ◌*◌, ℤ, pos, List, ◌++◌, length, map, slice_index, slice_index_or, take}
use Rattle.std.specs.List.{flat_map, range_with_len}
use Rattle.snd_base.specs.declared.places.Segment.{Segment}
use Rattle.mix_core.specs.declared.port.Entry.{Entry}
use Rattle.bindings.specs.Bound.{rising}

-- the sample of a frame and channel among interleaved samples
abbrev pub sample_at : List ℤ → ℕ → ℕ → ℕ → ℤ
sample_at samples channels frame channel =
    slice_index_or samples (frame * channels + channel) (pos 0)

-- the entries of a frame of the card, by its client channels' samples, in so many channels by rising card channel
abbrev pub frame_entries : ℕ → List ℕ → (ℕ → ℤ) → ℕ → ℕ → List Entry
frame_entries member bindings sample_of channels card =
    map
    (λ q. record {
      member = member;
      frame = card;
      channel = slice_index bindings q;
      sample = sample_of q;
      kind = Added;
    })
    (take channels (rising bindings))

-- the entries of whole frames and then of so many channels of one more, where frame j is at the card's frame
-- `card + j`, from a first one on
abbrev pub run_entries : ℕ → List ℕ → (ℕ → ℕ → ℤ) → ℕ → ℕ → ℕ → ℕ → List Entry
run_entries member bindings sample_of card first whole part =
    flat_map (λ j. frame_entries member bindings (sample_of j) (length bindings) (card + j))
    (range_with_len first whole)
    ++ frame_entries member bindings (sample_of (first + whole)) part (card + (first + whole))

-- the entries of a client's segment, whose samples are interleaved
abbrev pub expand : ℕ → Segment → List ℤ → List ℕ → List Entry
expand member segment samples bindings =
    run_entries member bindings (λ j. sample_at samples (length bindings) (segment.source + j))
    segment.card 0 segment.whole segment.part
