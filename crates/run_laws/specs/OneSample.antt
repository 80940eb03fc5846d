-- Where clients share a card by channels (alsa-lib's dshare), no two of their samples meet.
use Rattle.std.specs.Prelude.{◌≡◌, ℕ, ◌+◌, ◌*◌, ◌<◌, ◌≤◌, ℤ, pos, List, [], ◌∷◌, All, IfSome, None, slice_index_or}
use Rattle.bindings.specs.Bound.{AreBindings}
use Rattle.lap_word.specs.Clamp.{IsSample}
use Rattle.mix_core.specs.Laid.{at, count, total}
use Rattle.wav_io.specs.Sound.{Sound}
use Rattle.lab_lines.specs.declared.script.Share.TheVariants.{Dshare}
use Rattle.lab_lines.specs.declared.report.Report.{Report}
use Rattle.lab_run.specs.LabRun.{Outcome}
use Rattle.lab_run.specs.Stage.{Session, Setup}
use Rattle.run_laws.specs.Mix.{placed_entries}

-- each client that can be opened is bound to 1 to 8 channels of the card, each to another one
abbrev pub AreBound : Session → Type 0
AreBound session =
    (number : ℕ)
    → IfSome (slice_index_or session.clients number None)
    (λ (setup : Setup). AreBindings setup.bindings)

-- the only one of some samples, or silence where there is none
abbrev pub only_of : List ℤ → ℤ
only_of [] = pos 0
only_of (sample ∷ rest) = sample

-- at each frame and channel at most one sample is placed, and the sum of what is placed there is that sample, or 0
abbrev pub HasOneSample : Session → Report → Type 0
HasOneSample session report = session.card.share ≡ Dshare → (frame channel : ℕ)
    → (count (placed_entries session report) frame channel ≤ 1)
    × (total (placed_entries session report) frame channel
    ≡ only_of (at (placed_entries session report) frame channel))

-- each sample of some sounds is a number of 16 bits, as every sample of a WAV file is
abbrev pub AreSamples : List Sound → Type 0
AreSamples wavs = All (λ (wav : Sound). All IsSample wav.samples) wavs

-- What is played at a frame and channel is the one sample that is placed there, or silence where none is: nothing is added to it, and nothing of it is
-- cut off.
abbrev pub PlaysOneSample : Session → Outcome → Type 0
PlaysOneSample session outcome = session.card.share ≡ Dshare → (frame channel : ℕ)
    → frame < outcome.report.frames → channel < session.card.channels
    → slice_index_or outcome.played (frame * session.card.channels + channel) (pos 0)
    ≡ only_of (at (placed_entries session outcome.report) (outcome.report.first + frame) channel)
