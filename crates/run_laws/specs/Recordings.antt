-- What the readers recorded, by the report alone: the captured frames of each reader's runs, through its bindings.
use Rattle.std.specs.Prelude.{◌≡◌, ℕ, ◌+◌, ◌*◌, ◌<◌, ℤ, List, [], ◌∷◌, length, map, slice_get, slice_index_or, Option, Some, None, ◌⊎◌}
use Rattle.std.specs.List.{flat_map, range_with_len}
use Rattle.wav_io.specs.Sound.{Sound}
use Rattle.lab_lines.specs.declared.script.ReaderLine.{ReaderLine}
use Rattle.lab_lines.specs.declared.script.Script.{Script}
use Rattle.lab_lines.specs.declared.report.Report.{Report}
use Rattle.lab_run.specs.LabRun.{bindings_of, captured_sample}
use Rattle.lab_run.specs.Openings.{read_by}
use Rattle.lab_run.specs.OwnRows.{rows_by, runs_by}
use Rattle.lab_run.specs.Phases.{is_reader}
use Rattle.lab_run.specs.Stage.{Session}
use Rattle.lab_run.specs.Stretches.{AreSlices}

-- the frames of some runs, in order: a run is its first frame, and how many frames follow one another from there
abbrev pub frames_of_runs : List (ℕ × ℕ) → List ℕ
frames_of_runs runs = flat_map (λ (run : ℕ × ℕ). range_with_len run.0 run.1) runs

-- and how many they are
abbrev pub frames_in_runs : List (ℕ × ℕ) → ℕ
frames_in_runs [] = 0
frames_in_runs ((first, count) ∷ runs) = count + frames_in_runs runs

-- the captured frames of some runs, interleaved: of each frame the channels that the bindings name, in their order, each with the sample that
-- the capture file has of that frame and channel, or 0
abbrev pub recording_of : Session → Option Sound → List ℕ → List (ℕ × ℕ) → List ℤ
recording_of session capture bindings runs =
    flat_map (λ frame. map (captured_sample session capture frame) bindings) (frames_of_runs runs)

-- the card's channels that a reader's channels are bound to
abbrev pub bindings_at : Session → ℕ → List ℕ
bindings_at session number = bindings_of (slice_index_or session.readers number None)

-- The samples of a reader are the captured frames of its runs in the report. In each of its stretches, from a start to a row that is answered by an
-- xrun, a drop, a close or a stop, the frames that its rows read are one slice.
pub record IsRecordingOf (session : Session) (capture : Option Sound) (report : Report)
    (number : ℕ) (samples : List ℤ) : Type 0 where
  pub frames : samples
      ≡ recording_of session capture (bindings_at session number) (runs_by number report.runs)
  pub samples_are : length samples
      ≡ frames_in_runs (runs_by number report.runs) * length (bindings_at session number)
  pub after : Option ℕ
  pub stretches : AreSlices None (rows_by (is_reader number) report.rows)
      (frames_of_runs (runs_by number report.runs)) after

-- each reader has its recording, in the order of the script's lines
pub record AreRecordingsOf (session : Session) (capture : Option Sound)
    (report : Report) (recorded : List (List ℤ)) : Type 0 where
  pub readers : length recorded ≡ length session.readers
  pub each : (number : ℕ) → number < length session.readers
      → IsRecordingOf session capture report number (slice_index_or recorded number [])

-- a reader that could be opened is bound as its line says, or to each of the card's channels; one that couldn't has no samples
abbrev pub IsBoundBy : Script → Session → ℕ → ReaderLine → Type 0
IsBoundBy script session number line =
    (slice_index_or session.readers number None ≡ None)
    ⊎ (bindings_at session number ≡ read_by script.card line)

abbrev pub ReadersAreBound : Script → Session → Type 0
ReadersAreBound script session =
    (number : ℕ) (line : ReaderLine) → slice_get script.readers number ≡ Some line
    → IsBoundBy script session number line

-- a reader that couldn't be opened has no runs
abbrev pub UnopenedHaveNoRuns : Session → Report → Type 0
UnopenedHaveNoRuns session report =
    (number : ℕ) → slice_index_or session.readers number None ≡ None → runs_by number report.runs ≡ []
