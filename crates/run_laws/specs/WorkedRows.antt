-- Small runs and a small segment, by which the definitions can be tried.
use Rattle.std.specs.Prelude.{ℕ, ℤ, pos, List, [], ◌∷◌}
use Rattle.snd_base.specs.declared.places.Segment.{Segment}
use Rattle.mix_core.specs.declared.port.Entry.{Entry}
use Rattle.dmix_client.specs.Expansion.{expand}

-- one whole frame at frame 64 of the card, and one channel of frame 65
abbrev pub a_segment : Segment
a_segment = record { source = 0; card = 64; whole = 1; part = 1 }

-- two frames of a file of two channels
abbrev pub some_samples : List ℤ
some_samples = pos 10 ∷ pos 20 ∷ pos 30 ∷ pos 40 ∷ []

-- the file's channel 0 goes to the card's channel 1, and its channel 1 to the card's channel 0
abbrev pub exchanged_channels : List ℕ
exchanged_channels = 1 ∷ 0 ∷ []

abbrev pub some_entries : List Entry
some_entries = expand 0 a_segment some_samples exchanged_channels

-- two runs of frames
abbrev pub two_runs : List (ℕ × ℕ)
two_runs = (5, 2) ∷ (9, 1) ∷ []
