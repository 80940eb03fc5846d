-- The frames of a reader in a whole run: in each of its stretches they are one slice. A stretch ends at a row that is answered by an xrun, at
-- a drop, at a close, and where the reader was stopped.
use Rattle.std.specs.Prelude.{◌≡◌, ℕ, zero, suc, ◌+◌, ◌<◌, Bool, true, false, List, [], ◌∷◌, ◌++◌, length, map, slice_index_or, Option, Some, None, ⊤}
use Rattle.std.specs.List.{flat_map, range_with_len}
use Rattle.snd_base.specs.declared.errors.PcmError.TheVariants.{Stopped, Xrun}
use Rattle.wav_io.specs.Sound.{Sound}
use Rattle.lab_lines.specs.declared.line.Item.{Item}
use Rattle.lab_lines.specs.declared.line.Op.{Op}
use Rattle.lab_lines.specs.declared.line.Op.TheVariants as op
use Rattle.lab_lines.specs.declared.row.Answer.{Answer}
use Rattle.lab_lines.specs.declared.row.Answer.TheVariants.{Count, Failed}
use Rattle.lab_lines.specs.declared.row.Row.{Row}
use Rattle.lab_run.specs.LabRun.{LabRun, Outcome, bindings_of, captured_sample, runs_of}
use Rattle.lab_run.specs.OwnRows.{rows_by, runs_by}
use Rattle.lab_run.specs.Phases.{is_reader}
use Rattle.lab_run.specs.Stage.{Session}

-- how many frames a row of a reader got: those that a read answered
abbrev pub got_by : Op → Answer → ℕ
got_by (op.Read n) (Count count) = count
got_by asked answer = 0

-- a row ends a stretch
abbrev pub ends_by_row : Op → Answer → Bool
ends_by_row op.Drop answer = true
ends_by_row op.Closes answer = true
ends_by_row asked (Failed (Xrun why)) = true
ends_by_row asked (Failed Stopped) = true
ends_by_row asked answer = false

-- the frame that a stretch goes on at after a row that got so many frames from a first one on, if the stretch has frames yet and didn't end
abbrev pub goes_on_after : Bool → Option ℕ → ℕ → ℕ → Option ℕ
goes_on_after true at first count = None
goes_on_after false at first zero = at
goes_on_after false at first (suc count) = Some (first + suc count)

abbrev pub IsFirstOf : Option ℕ → ℕ → Type 0
IsFirstOf None first = ⊤
IsFirstOf (Some next) first = first ≡ next

-- rows got these frames, each row one slice; in a stretch each slice begins where the one before it ended
abbrev pub AreSlices : Option ℕ → List Row → List ℕ → Option ℕ → Type 0
AreSlices at [] frames after = (frames ≡ []) × (after ≡ at)
AreSlices at (row ∷ rows) frames after =
    (first : ℕ) × (others : List ℕ) × IsFirstOf at first
    × (frames ≡ range_with_len first (got_by row.op row.answer) ++ others)
    × AreSlices (goes_on_after (ends_by_row row.op row.answer) at first (got_by row.op row.answer))
    rows others after

-- a reader's frames: its runs in the report, its samples, and the slices of its rows
pub record ReadsInSlices (session : Session) (capture : Option Sound) (outcome : Outcome)
    (number : ℕ) : Type 0 where
  pub frames : List ℕ
  pub runs : runs_by number outcome.report.runs ≡ runs_of frames
  pub samples : slice_index_or outcome.recorded number []
      ≡ flat_map (λ frame. map (captured_sample session capture frame)
      (bindings_of (slice_index_or session.readers number None))) frames
  pub after : Option ℕ
  pub slices : AreSlices None (rows_by (is_reader number) outcome.report.rows) frames after

-- each reader of each run
abbrev pub ReadersReadInSlices : Session → Option Sound → List Item → Type 0
ReadersReadInSlices session capture body =
    (client_stops reader_stops : ℕ → ℕ) (outcome : Outcome)
    → LabRun session capture body client_stops reader_stops outcome
    → (number : ℕ) → number < length session.readers → ReadsInSlices session capture outcome number
