-- The rows that are answered late: at the place that one names its client has no sample, or, of a rewind, one.
use Rattle.std.specs.Prelude.{ℕ, ◌&&◌, nat_eq, nat_lt, Bool, true, false, not, if◌then◌else◌, List, Option, Some, None, slice_get}
use Rattle.std.specs.List.{flat_map, list_any}
use Rattle.snd_base.specs.declared.errors.PcmError.TheVariants.{Xrun}
use Rattle.snd_base.specs.declared.errors.XrunWhy.TheVariants as why
use Rattle.snd_base.specs.declared.places.Segment.{Segment}
use Rattle.mix_core.specs.declared.port.Entry.{Entry}
use Rattle.mix_core.specs.Laid.{is_at}
use Rattle.wav_io.specs.Sound.{Sound}
use Rattle.lab_lines.specs.declared.line.Actor.{Actor}
use Rattle.lab_lines.specs.declared.line.Actor.TheVariants as actor
use Rattle.lab_lines.specs.declared.report.Report.{Report}
use Rattle.lab_lines.specs.declared.row.Answer.{Answer}
use Rattle.lab_lines.specs.declared.row.Answer.TheVariants.{Failed}
use Rattle.lab_lines.specs.declared.row.Row.{Row}
use Rattle.lab_lines.specs.declared.script.Script.{Script}
use Rattle.run_laws.specs.LateRows.{is_rewind}
use Rattle.lab_run.specs.OwnRows.{segments_by}
use Rattle.run_laws.specs.Files.{file_samples}

-- the frame and channel that a late answer names
abbrev pub late_place : Answer → Option (ℕ × ℕ)
late_place (Failed (Xrun (why.Late frame channel seen))) = Some (frame, channel)
late_place other = None

-- some entries have a sample at a frame and channel
abbrev pub has_sample : List Entry → ℕ → ℕ → Bool
has_sample es frame channel = list_any (is_at frame channel) es

-- what a segment of a client of this number placed, by the script and the clients' files
abbrev pub entries_of_segment : Script → List Sound → ℕ → Segment → List Entry
entries_of_segment script wavs number segment =
    file_samples number segment (slice_get script.clients number) (slice_get wavs number)

-- and what all segments of the client placed
abbrev pub entries_of_client : Script → List Sound → Report → ℕ → List Entry
entries_of_client script wavs report number =
    flat_map (entries_of_segment script wavs number) (segments_by number report.segments)

-- a segment is of this client, and has a sample at a frame and channel
abbrev pub covers : Script → List Sound → ℕ → ℕ → ℕ → ℕ × Segment → Bool
covers script wavs number frame channel (client, segment) =
    nat_eq client number && has_sample (entries_of_segment script wavs number segment) frame channel

-- a segment of an actor has a sample at a frame and channel; the card and readers have no segments
abbrev pub is_covered : Script → List Sound → Report → Actor → ℕ → ℕ → Bool
is_covered script wavs report (actor.Client number) frame channel =
    list_any (covers script wavs number frame channel) report.segments
is_covered script wavs report other frame channel = false

-- a row names this place, of a channel of the card: its client has no sample there, or, if the row is of a rewind, one
abbrev pub is_right_place : Script → List Sound → Report → Row → Option (ℕ × ℕ) → Bool
is_right_place script wavs report row None = true
is_right_place script wavs report row (Some (frame, channel)) =
    nat_lt channel script.card.channels
    && (if is_rewind row.op then is_covered script wavs report row.actor frame channel
    else not (is_covered script wavs report row.actor frame channel))

-- a row can be: it isn't answered late, or it names a place that is right
abbrev pub is_right_row : Script → List Sound → Report → Row → Bool
is_right_row script wavs report row =
    is_right_place script wavs report row (late_place row.answer)
