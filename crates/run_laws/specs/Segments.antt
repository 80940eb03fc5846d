-- Which segments the report of a run has: each of a client with a file, of samples that the file has, and from the card's first frame on.
use Rattle.std.specs.Prelude.{◌≡◌, ℕ, ◌+◌, ◌<◌, ◌≤◌, List, length, All, Some, slice_get}
use Rattle.snd_base.specs.declared.places.Segment.{Segment}
use Rattle.wav_io.specs.Sound.{Sound}
use Rattle.lab_lines.specs.declared.report.Report.{Report}
use Rattle.lab_lines.specs.declared.script.ClientLine.{ClientLine}
use Rattle.lab_lines.specs.declared.script.Script.{Script}
use Rattle.lab_lines.specs.Script.{first_frame}
use Rattle.lab_run.specs.Client.{frames_of}
use Rattle.lab_run.specs.Openings.{bound_by}

-- a segment of a file of so many channels and frames has a sample; it isn't before a frame of the card; its last frame has less than all channels; and the
-- file has each frame of which it takes samples
pub record IsOfFrames (first channels frames : ℕ) (segment : Segment) : Type 0 where
  pub some : 0 < segment.whole + segment.part
  pub part : segment.part < channels
  pub card : first ≤ segment.card
  pub source : segment.source + segment.whole ≤ frames
  pub begun : 0 < segment.part → segment.source + segment.whole < frames

-- the segment's client has a line and a file, with a binding for each of the file's channels, of which the card has as many
pub record IsOfClient (script : Script) (wavs : List Sound) (number : ℕ) (segment : Segment) : Type 0 where
  pub line : ClientLine
  pub wav : Sound
  pub line_is : slice_get script.clients number ≡ Some line
  pub wav_is : slice_get wavs number ≡ Some wav
  pub bound : length (bound_by line wav) ≡ wav.channels
  pub channels : wav.channels ≤ script.card.channels
  pub frames : IsOfFrames (first_frame script.card) wav.channels (frames_of wav) segment

-- each segment of a report
abbrev pub AreOfClients : Script → List Sound → Report → Type 0
AreOfClients script wavs report =
    All (λ (pair : ℕ × Segment). IsOfClient script wavs pair.0 pair.1) report.segments
