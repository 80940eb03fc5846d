-- What the segments of a report are, by the script and the clients' files alone.
use Rattle.std.specs.Prelude.{◌≡◌, ℕ, ◌+◌, ◌*◌, ◌<◌, ℤ, pos, List, [], length, Option, Some, slice_get, slice_index_or}
use Rattle.std.specs.List.{flat_map}
use Rattle.snd_base.specs.declared.places.Segment.{Segment}
use Rattle.lap_word.specs.Clamp.{clamp_of}
use Rattle.mix_core.specs.declared.port.Entry.{Entry}
use Rattle.mix_core.specs.Laid.{total}
use Rattle.wav_io.specs.Sound.{Sound}
use Rattle.dmix_client.specs.Expansion.{expand}
use Rattle.lab_lines.specs.declared.script.ClientLine.{ClientLine}
use Rattle.lab_lines.specs.declared.script.Script.{Script}
use Rattle.lab_lines.specs.Script.{first_frame}
use Rattle.lab_lines.specs.declared.report.Report.{Report}
use Rattle.lab_run.specs.Openings.{bound_by}
use Rattle.lab_run.specs.Stage.{Session}
use Rattle.run_laws.specs.Mix.{placed_entries}

-- what a segment of a client placed, with the client's line and file: the file's samples from the segment's source frame on, each channel of the file at
-- the card's channel that the line binds it to, or at that of its own number
abbrev pub file_samples : ℕ → Segment → Option ClientLine → Option Sound → List Entry
file_samples number segment (Some line) (Some wav) =
    expand number segment wav.samples (bound_by line wav)
file_samples number segment line wav = []

-- what all segments of a report placed, each of them once
abbrev pub placed_from : Script → List Sound → Report → List Entry
placed_from script wavs report =
    flat_map (λ (pair : ℕ × Segment). file_samples pair.0 pair.1
    (slice_get script.clients pair.0) (slice_get wavs pair.0)) report.segments

-- a report's segments placed what the script and the files say of them
abbrev pub IsPlacedFrom : Script → List Sound → Session → Report → Type 0
IsPlacedFrom script wavs session report = placed_entries session report ≡ placed_from script wavs report

-- so the played samples are the saturated sums of what the script and the files say of the report's segments
pub record IsMixOfFiles (script : Script) (wavs : List Sound) (report : Report)
    (played : List ℤ) : Type 0 where
  pub first : report.first ≡ first_frame script.card
  pub samples : length played ≡ report.frames * script.card.channels
  pub sums : (frame channel : ℕ) → frame < report.frames → channel < script.card.channels
      → slice_index_or played (frame * script.card.channels + channel) (pos 0)
      ≡ clamp_of (total (placed_from script wavs report) (report.first + frame) channel)
