-- The samples that a card captures: those of the capture file, and silence where it has none.
use Rattle.std.specs.Prelude.{◌≡◌, ℕ, ◌+◌, ◌-◌, ℤ, pos, nat_lt, if◌then◌else◌, List, map, Option, Some, None, refl}
use Rattle.std.proofs.Common.{ap, arith}
use Rattle.std.specs.List.{flat_map, range_with_len}
use Rattle.dmix_client.specs.Expansion.{sample_at}
use Rattle.lab_lines.specs.Script.{first_frame}
use Rattle.lab_run.specs.LabRun.{captured_sample}
use Rattle.lab_run.specs.Stage.{Session}
use Rattle.wav_io.specs.Sound.{Sound}

-- the sample of a file at a frame, counted from the file's first, and a channel: 0 where the file has none
abbrev pub sample_in : Sound → ℕ → ℕ → ℤ
sample_in wav frame channel =
    if nat_lt channel wav.channels then sample_at wav.samples wav.channels frame channel else pos 0

-- the captured sample of a frame, counted from the card's first, and a channel of the card
abbrev pub captured_at : Option Sound → ℕ → ℕ → ℤ
captured_at None frame channel = pos 0
captured_at (Some wav) frame channel = sample_in wav frame channel

-- the captured samples of a frame, in the order of the card's channels, and of so many frames from one on, interleaved
abbrev pub captured_frame : Option Sound → ℕ → ℕ → List ℤ
captured_frame capture channels frame = map (captured_at capture frame) (range_with_len 0 channels)

abbrev pub captured_frames : Option Sound → ℕ → ℕ → ℕ → List ℤ
captured_frames capture channels from frames =
    flat_map (captured_frame capture channels) (range_with_len from frames)

-- it is the captured sample of a run
pub captured-at : (session : Session) (capture : Option Sound) (frame channel : ℕ) → captured_sample session capture (first_frame session.card + frame) channel ≡ captured_at capture frame channel
captured-at session None frame channel = refl
captured-at session (Some wav) frame channel =
    ap (λ (k : ℕ). if nat_lt channel wav.channels then sample_at wav.samples wav.channels k channel else pos 0)
    (let e : first_frame session.card + frame - first_frame session.card ≡ frame = omega arith in e)
