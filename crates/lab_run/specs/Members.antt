-- The member of a client: at a place of the ring it is the place's number, and in a run it is the client's own. Nothing of a report depends
-- on it, and no frame, channel or sample that is placed.
use Rattle.std.specs.Prelude.{◌≡◌, ℕ, ℤ, List, map, Some}
use Rattle.snd_base.specs.declared.geometry.Geometry.{Geometry}
use Rattle.snd_base.specs.declared.places.Segment.{Segment}
use Rattle.mix_core.specs.declared.port.Entry.{Entry}
use Rattle.mix_core.specs.Laid.{total}
use Rattle.dmix_client.specs.declared.stream.PlaybackStream.{PlaybackStream}
use Rattle.dmix_client.specs.Expansion.{expand, run_entries}
use Rattle.lab_lines.specs.declared.line.Op.{Op}
use Rattle.lab_lines.specs.declared.row.Answer.{Answer}
use Rattle.lab_run.specs.Client.{ended_by, row_by, stretch_of}
use Rattle.lab_run.specs.Stage.{Setup, opened_client}

-- a client with another member
abbrev pub with_member : ℕ → PlaybackStream → PlaybackStream
with_member member c = record c { identity = record c.identity { member = member } }

-- an entry of another member
abbrev pub of_member : ℕ → Entry → Entry
of_member member e = record e { member = member }

-- a client is opened the same whatever its member, and what a report has of it is the same: its rows, and its segments
pub record MembersAreUnreported (member : ℕ) : Type 0 where
  pub opening : (ring : Geometry) (other : ℕ) (setup : Setup)
      → with_member member (opened_client ring other setup) ≡ opened_client ring member setup
  pub row : (phase number : ℕ) (asked : Op) (c : PlaybackStream) (answer : Answer)
      → row_by phase number asked (Some (with_member member c)) answer
      ≡ row_by phase number asked (Some c) answer
  pub stretch : (c : PlaybackStream) → stretch_of (with_member member c) ≡ stretch_of c
  pub ended : (asked : Op) (answer : Answer) (c d : PlaybackStream)
      → ended_by asked answer (with_member member c) (with_member member d)
      ≡ ended_by asked answer c d

-- the entries of one member have the frames, channels, samples and kinds of those of another: those of a segment and its file, and those of
-- any samples that a client places from frame to frame; and they give each frame and channel the same total
pub record MembersLayAlike (member other : ℕ) : Type 0 where
  pub segment : (segment : Segment) (samples : List ℤ) (bindings : List ℕ)
      → expand member segment samples bindings
      ≡ map (of_member member) (expand other segment samples bindings)
  pub run : (bindings : List ℕ) (sample_of : ℕ → ℕ → ℤ) (card first whole part : ℕ)
      → run_entries member bindings sample_of card first whole part
      ≡ map (of_member member) (run_entries other bindings sample_of card first whole part)
  pub totals : (es : List Entry) (frame channel : ℕ)
      → total (map (of_member member) es) frame channel ≡ total es frame channel
