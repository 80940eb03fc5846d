-- The lines of a client in a phase.
use Rattle.std.specs.Prelude.{ℕ, ◌-◌, ◌/◌, Bool, true, false, not, ◌&&◌, nat_eq, min, if◌then◌else◌, List, [], ◌∷◌, ◌++◌, length, Option, Some, None, Result, Ok, Err}
use Rattle.snd_base.specs.declared.errors.PcmError.{PcmError}
use Rattle.snd_base.specs.declared.errors.PcmError.TheVariants.{BadState, Invalid, Stopped, Xrun}
use Rattle.snd_base.specs.declared.errors.Why.TheVariants.{Config}
use Rattle.snd_base.specs.declared.errors.XrunWhy.TheVariants as why
use Rattle.snd_base.specs.declared.places.Cursor.{Cursor}
use Rattle.snd_base.specs.declared.places.Segment.{Segment}
use Rattle.mix_core.specs.declared.marks.Marks.{Marks}
use Rattle.pcm_states.specs.declared.states.State.TheVariants.{Open}
use Rattle.pcm_states.specs.declared.calls.Call.TheVariants as call
use Rattle.wav_io.specs.Sound.{Sound}
use Rattle.course.specs.Course.{◌>>=◌, Course, ends}
use Rattle.dmix_client.specs.declared.stream.PlaybackStream.{PlaybackStream}
use Rattle.dmix_client.specs.Calls.{Answered, avail_answer, delay_answer, after_drop, is_paused, is_running, after_prepare, segment_of}
use Rattle.dmix_client.specs.Course.{if_admitted, drain_course, fills, number_course, pause_course, start_course, sync_course, writes_on}
use Rattle.dmix_client.specs.Rewind.{rewind_course, rewindable_course}
use Rattle.lab_lines.specs.declared.line.Actor.TheVariants as actor
use Rattle.lab_lines.specs.declared.line.Op.{Op}
use Rattle.lab_lines.specs.declared.line.Op.TheVariants as op
use Rattle.lab_lines.specs.declared.row.Answer.{Answer}
use Rattle.lab_lines.specs.declared.row.Answer.TheVariants.{Count, Done, Failed}
use Rattle.lab_lines.specs.declared.row.Row.{Row}
use Rattle.lab_run.specs.Lines.{Kind}
use Rattle.lab_run.specs.Rules.{AtPort}

-- the frames of a WAV file
abbrev pub frames_of : Sound → ℕ
frames_of wav = length wav.samples / wav.channels

-- an error as a report has it: without the words and positions that its row has, or doesn't say
abbrev pub reported_error : PcmError → PcmError
reported_error (Xrun (why.Avail avail seen)) = Xrun (why.Avail avail 0)
reported_error (Xrun (why.Late frame channel seen)) = Xrun (why.Late frame channel 0)
reported_error (Xrun (why.Overtaken frame channel seen)) = Xrun (why.Overtaken frame channel 0)
reported_error (Invalid why) = Invalid Config
reported_error other = other

abbrev pub done_answer : Result (Unit {0}) PcmError → Answer
done_answer (Ok done) = Done
done_answer (Err e) = Failed (reported_error e)

abbrev pub count_answer : Result ℕ PcmError → Answer
count_answer (Ok n) = Count n
count_answer (Err e) = Failed (reported_error e)

-- a client of a script: its stream where it is open, and its segments so far but that of its present stretch
pub record Client : Type 0 where
  pub own : Option PlaybackStream
  pub ended : List Segment

-- the segment of a stretch, where at least one of its samples is in the card's ring
abbrev pub stretch_of : PlaybackStream → List Segment
stretch_of c =
    if nat_eq c.stretch.committed 0 && nat_eq c.stretch.part 0 then [] else segment_of c ∷ []

abbrev pub present_of : Option PlaybackStream → List Segment
present_of None = []
present_of (Some c) = stretch_of c

abbrev pub segments_of : Client → List Segment
segments_of client = client.ended ++ present_of client.own

-- A stretch ends at a prepare that succeeds, and at a resume that begins a new one: where the client, `c` before the call and `d`
-- after it, isn't paused any more.
abbrev pub ended_by : Op → Answer → PlaybackStream → PlaybackStream → List Segment
ended_by op.Prepare Done c d = stretch_of c
ended_by op.Resume answer c d =
    if is_paused c.status.state && not (is_paused d.status.state) then stretch_of c else []
ended_by asked answer c d = []

-- a write of n frames. No sample of them matters to what a run may be, so the course is that of a client with silence.
abbrev pub write_course : PlaybackStream → Cursor → ℕ → Course (Answered ℕ)
write_course c cursor n =
    if is_running c.status.state then writes_on c [] [] n else fills c [] [] cursor n

-- a call with its answer
abbrev pub call_answer : {X : Type 0} → (Result X PcmError → Answer) → Course (Answered X)
    → Course (PlaybackStream × Answer)
call_answer answer course = course >>= λ done. ends (done.0, answer done.1)

-- the call that a line of an open client names, of a client with a file and with marks at its port
abbrev pub call_of : Sound → Marks → PlaybackStream → Op → Course (PlaybackStream × Answer)
call_of wav marks c (op.Write n) =
    call_answer count_answer
    (if_admitted c call.Transfer (write_course c marks.cursor (min n (frames_of wav - c.fed))))
call_of wav marks c op.Start =
    call_answer done_answer (if_admitted c call.Start (start_course c [] marks.cursor))
call_of wav marks c op.Sync = call_answer done_answer (if_admitted c call.Sync (sync_course c []))
call_of wav marks c op.Avail =
    call_answer count_answer (if_admitted c call.Sync (number_course avail_answer c []))
call_of wav marks c op.Delay =
    call_answer count_answer (if_admitted c call.Sync (number_course delay_answer c []))
call_of wav marks c op.Drain =
    call_answer done_answer (if_admitted c call.Drain (drain_course c [] marks.cursor))
call_of wav marks c op.Drop = call_answer done_answer (if_admitted c call.Drop (ends (after_drop c, Ok tt)))
call_of wav marks c op.Prepare =
    call_answer done_answer (if_admitted c call.Prepare (ends (after_prepare c, Ok tt)))
call_of wav marks c op.Pause =
    call_answer done_answer (if_admitted c call.Pause (pause_course true c [] marks.cursor))
call_of wav marks c op.Resume =
    call_answer done_answer (if_admitted c call.Resume (pause_course false c [] marks.cursor))
call_of wav marks c (op.Rewind n) =
    call_answer count_answer (if_admitted c call.Transfer (rewind_course c [] marks.floor n))
call_of wav marks c op.Rewindable =
    call_answer count_answer (if_admitted c call.Transfer (rewindable_course c marks.floor))
call_of wav marks c other = ends (c, Failed BadState)

-- the client after a call
abbrev pub after_call : Client → PlaybackStream → Op → PlaybackStream × Answer → Client × Answer
after_call client before asked (after, answer) = (
  record { own = Some after; ended = client.ended ++ ended_by asked answer before after },
  answer,
)

-- a line of an open client: after a stop in this phase nothing is done any more
abbrev pub line_if : Bool → Sound → Marks → Client → PlaybackStream → Op → Course (Client × Answer)
line_if true wav marks client c asked = ends (client, Failed Stopped)
line_if false wav marks client c (op.Die k) = ends (client, Done)
line_if false wav marks client c asked =
    call_of wav marks c asked >>= λ done. ends (after_call client c asked done)

-- a line of a client
abbrev pub line_by : Sound → Marks → Client → Option PlaybackStream → Op → Course (Client × Answer)
line_by wav marks client None asked = ends (client, Failed BadState)
line_by wav marks client (Some c) asked = line_if c.status.stopped wav marks client c asked

-- from a `die` of an open actor on so many asks pass
abbrev pub dies_if : Bool → Op → AtPort → AtPort
dies_if false (op.Die k) a = record a { left = Some k }
dies_if stopped asked a = a

abbrev pub begins : Option PlaybackStream → Op → AtPort → AtPort
begins None asked a = a
begins (Some c) asked a = dies_if c.status.stopped asked a

-- the row of a client's line, by the client after it
abbrev pub row_by : ℕ → ℕ → Op → Option PlaybackStream → Answer → Row
row_by phase number asked None answer =
    record {
      phase = phase;
      actor = actor.Client number;
      op = asked;
      answer = answer;
      state = Open;
      seen = None;
    }
row_by phase number asked (Some c) answer =
    record {
      phase = phase;
      actor = actor.Client number;
      op = asked;
      answer = answer;
      state = c.status.state;
      seen = c.seen;
    }

-- the client of a number, with its file, in a phase
abbrev pub client_kind : ℕ → Sound → ℕ → Kind Client
client_kind phase wav number = record {
  begins = λ client asked a. begins client.own asked a;
  course = λ a client asked. line_by wav a.marks client client.own asked;
  row = λ asked client answer. row_by phase number asked client.own answer;
}
