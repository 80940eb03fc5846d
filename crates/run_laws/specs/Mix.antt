-- What the card played, by the report alone: at each frame and channel the saturated sum of the samples that the report's segments placed there.
use Rattle.std.specs.Prelude.{◌≡◌, ℕ, ◌+◌, ◌*◌, ◌<◌, ℤ, pos, List, length, slice_index_or}
use Rattle.lap_word.specs.Clamp.{clamp_of}
use Rattle.mix_core.specs.Laid.{total}
use Rattle.mix_core.specs.declared.port.Entry.{Entry}
use Rattle.lab_lines.specs.Script.{first_frame}
use Rattle.lab_lines.specs.declared.report.Report.{Report}
use Rattle.lab_run.specs.LabRun.{entries_of}
use Rattle.lab_run.specs.Stage.{Session}

-- the samples that a report's segments placed: each segment gives those of its client's file from its source frame on, through the client's
-- bindings (`expand`), and each segment is there once
abbrev pub placed_entries : Session → Report → List Entry
placed_entries session report = entries_of session report.segments

-- The played samples are interleaved, with the card's channels, from the report's first frame on. The sample of a frame and channel is the sum
-- of exactly those that the segments placed there, saturated once, after the last of them was added.
pub record IsMixOf (session : Session) (report : Report) (played : List ℤ) : Type 0 where
  pub first : report.first ≡ first_frame session.card
  pub samples : length played ≡ report.frames * session.card.channels
  pub sums : (frame channel : ℕ) → frame < report.frames → channel < session.card.channels
      → slice_index_or played (frame * session.card.channels + channel) (pos 0)
      ≡ clamp_of (total (placed_entries session report) (report.first + frame) channel)
