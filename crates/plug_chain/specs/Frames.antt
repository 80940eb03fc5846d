-- Bytes divided into frames.
use Rattle.std.specs.Prelude.{ℕ, zero, suc, ◌*◌, ◌/◌, List, [], ◌∷◌, length, take, drop, ℤ}
use Rattle.plug_chain.specs.declared.wide.Wide.{Wide}
use Rattle.plug_chain.specs.Samples.{bytes_of, wide_sample}
use Rattle.plug_chain.specs.Tables.{ChannelTable, output_samples}
use Rattle.plug_chain.specs.Rates.{RatePair}

-- how bytes are converted: the width of a sample, the table of channels, the rates
pub record Conversion : Type 0 where
  pub from : Wide
  pub table : ChannelTable
  pub rates : RatePair

-- how many bytes a frame has
abbrev pub frame_bytes : Conversion → ℕ
frame_bytes c = c.table.inputs * bytes_of c.from

-- the first n samples
abbrev pub samples_in : Wide → ℕ → List ℕ → List ℤ
samples_in from zero bytes = []
samples_in from (suc n) bytes =
    wide_sample from (take (bytes_of from) bytes) ∷ samples_in from n (drop (bytes_of from) bytes)

-- the output channels of one frame's bytes
abbrev pub frame_from_bytes : Conversion → List ℕ → List ℤ
frame_from_bytes c bytes = output_samples c.table (samples_in c.from c.table.inputs bytes)

-- the first n frames
abbrev pub first_frames : Conversion → ℕ → List ℕ → List (List ℤ)
first_frames c zero bytes = []
first_frames c (suc n) bytes =
    frame_from_bytes c (take (frame_bytes c) bytes) ∷ first_frames c n (drop (frame_bytes c) bytes)

-- how many whole frames there are
abbrev pub frame_count : Conversion → List ℕ → ℕ
frame_count c bytes = length bytes / frame_bytes c

-- all whole frames
unfoldable pub frames_of_bytes : Conversion → List ℕ → List (List ℤ)
frames_of_bytes c bytes = first_frames c (frame_count c bytes) bytes

-- the bytes after the last whole frame
unfoldable pub rest_of : Conversion → List ℕ → List ℕ
rest_of c bytes = drop (frame_count c bytes * frame_bytes c) bytes
