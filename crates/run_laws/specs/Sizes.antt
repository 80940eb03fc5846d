-- The samples that a run leaves: whole frames, and few enough for a WAV file.
use Rattle.std.specs.Prelude.{◌≡◌, ℕ, ◌*◌, ◌%◌, ◌≤◌, ℤ, List, [], length, slice_get, slice_index_or, Option, Some}
use Rattle.wav_io.specs.Sound.{Sound}
use Rattle.lab_lines.specs.declared.line.Item.{Item}
use Rattle.lab_lines.specs.declared.script.ReaderLine.{ReaderLine}
use Rattle.lab_lines.specs.declared.script.Script.{Script}
use Rattle.lab_lines.specs.Script.{first_frame}
use Rattle.lab_run.specs.LabRun.{Outcome, outcome_of}
use Rattle.lab_run.specs.Openings.{read_by}
use Rattle.lab_run.specs.ScriptWords.{IsReached}
use Rattle.lab_run.specs.Stage.{Session, Stage}

-- samples are whole frames of 1 to 8 channels, at most 4,194,304 frames of 8
pub record AreWholeFrames (channels : ℕ) (samples : List ℤ) : Type 0 where
  pub some_channel : 1 ≤ channels
  pub few_channels : channels ≤ 8
  pub whole : length samples % channels ≡ 0
  pub few : length samples ≤ 33554432

-- what the card played: the frames from its first one on, at most as many as a script may play, with a sample for each channel
pub record IsPlayed (script : Script) (outcome : Outcome) : Type 0 where
  pub first : outcome.report.first ≡ first_frame script.card
  pub few_frames : outcome.report.frames ≤ 4194304
  pub each : length outcome.played ≡ outcome.report.frames * script.card.channels
  pub frames : AreWholeFrames script.card.channels outcome.played

-- what the reader of a number read: whole frames of its line's channels, no more frames than the card played
pub record IsRecorded (script : Script) (outcome : Outcome) (number : ℕ)
    (line : ReaderLine) : Type 0 where
  pub frames : AreWholeFrames (length (read_by script.card line))
      (slice_index_or outcome.recorded number [])
  pub captured : length (slice_index_or outcome.recorded number []) ≤ outcome.report.frames * length
      (read_by script.card line)

-- the samples of a card and of its readers fit WAV files
pub record HasSizes (script : Script) (outcome : Outcome) : Type 0 where
  pub played : IsPlayed script outcome
  pub readers : length outcome.recorded ≡ length script.readers
  pub recorded : (number : ℕ) (line : ReaderLine) → slice_get script.readers number ≡ Some line
      → IsRecorded script outcome number line

-- at each stage of a run of a script
abbrev pub StagesHaveSizes : Type 0
StagesHaveSizes =
    (script : Script) (wavs : List Sound) (session : Session) (capture : Option Sound)
    (done others : List Item) (stage : Stage)
    → IsReached script wavs session done others stage
    → HasSizes script (outcome_of session capture stage)
