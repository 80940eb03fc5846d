-- The frames of a reader: captured ones, each after the one before it.
use Rattle.std.specs.Prelude.{ℕ, ◌+◌, ◌<◌, ◌≤◌, List, [], ◌∷◌, length, Option, ⊤}
use Rattle.wav_io.specs.Sound.{Sound}
use Rattle.lab_lines.specs.declared.script.Script.{Script}
use Rattle.lab_lines.specs.Limits.{IsScript}
use Rattle.lab_run.specs.LabRun.{LabRun, Outcome}
use Rattle.lab_run.specs.Openings.{IsSessionOf}
use Rattle.lab_run.specs.OwnRows.{runs_by}
use Rattle.lab_run.specs.Stage.{Session}

-- frames that rise, from a least one to before an end
abbrev pub AreRisingFrames : ℕ → ℕ → List ℕ → Type 0
AreRisingFrames least end [] = least ≤ end
AreRisingFrames least end (frame ∷ frames) = (least ≤ frame) × AreRisingFrames (frame + 1) end frames

-- runs of such frames: each has a frame, ends at the end at most, and begins past the frame after the run before it, with which it would be one run
abbrev pub AreCapturedRuns : ℕ → ℕ → List (ℕ × ℕ) → Type 0
AreCapturedRuns least end [] = ⊤
AreCapturedRuns least end ((first, count) ∷ runs) =
    (0 < count) × (least ≤ first) × (first + count ≤ end) × AreCapturedRuns (first + count + 1) end runs

-- each reader of a script has, in a run of it, runs of frames that the card captured
abbrev pub ReadersCapture : Type 0
ReadersCapture =
    (script : Script) (wavs : List Sound) (session : Session) (capture : Option Sound)
    (client_stops reader_stops : ℕ → ℕ) (outcome : Outcome)
    → IsScript script → IsSessionOf script wavs session
    → LabRun session capture script.body client_stops reader_stops outcome
    → (number : ℕ) → number < length script.readers
    → AreCapturedRuns outcome.report.first (outcome.report.first + outcome.report.frames)
    (runs_by number outcome.report.runs)
