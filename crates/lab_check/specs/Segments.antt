-- Which segments a report can have, by the script and the clients' files.
use Rattle.std.specs.Prelude.{ℕ, ◌+◌, ◌&&◌, nat_eq, nat_lt, nat_le, if◌then◌else◌, Bool, false, List, length, Option, Some, slice_get}
use Rattle.snd_base.specs.declared.places.Segment.{Segment}
use Rattle.wav_io.specs.Sound.{Sound}
use Rattle.lab_lines.specs.declared.script.CardLine.{CardLine}
use Rattle.lab_lines.specs.declared.script.ClientLine.{ClientLine}
use Rattle.lab_lines.specs.declared.script.Script.{Script}
use Rattle.lab_lines.specs.Script.{first_frame}
use Rattle.lab_run.specs.Client.{frames_of}
use Rattle.lab_run.specs.Openings.{bound_by}

-- a client's bindings name as many channels as its file has; where its line names none, the card has a channel for each of the file's
abbrev pub is_bound : CardLine → ClientLine → Sound → Bool
is_bound card line wav =
    nat_eq (length (bound_by line wav)) wav.channels && nat_le wav.channels card.channels

-- how many frames of its client a segment takes samples of
abbrev pub frames_taken : Segment → ℕ
frames_taken segment = segment.whole + (if nat_eq segment.part 0 then 0 else 1)

-- a segment has a sample, its last frame is no whole one, it isn't before the card's first frame, and the client has the frames that it takes
abbrev pub is_within : CardLine → Segment → ℕ → ℕ → Bool
is_within card segment channels frames =
    nat_lt 0 (segment.whole + segment.part) && nat_lt segment.part channels
    && nat_le (first_frame card) segment.card
    && nat_le (segment.source + frames_taken segment) frames

-- a segment of a client with this line and file can be; a client without a line, or without a file, has none
abbrev pub is_segment_of : CardLine → Segment → Option ClientLine → Option Sound → Bool
is_segment_of card segment (Some line) (Some wav) =
    is_bound card line wav && is_within card segment wav.channels (frames_of wav)
is_segment_of card segment line wav = false

-- a segment of a report, with the number of its client, can be
abbrev pub is_right_segment : Script → List Sound → ℕ × Segment → Bool
is_right_segment script wavs (client, segment) =
    is_segment_of script.card segment (slice_get script.clients client) (slice_get wavs client)
