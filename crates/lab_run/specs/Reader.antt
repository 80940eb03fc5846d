-- The lines of a reader in a phase.
use Rattle.std.specs.Prelude.{ℕ, ◌-◌, Bool, true, false, List, [], ◌++◌, Option, Some, None, Result, Ok}
use Rattle.std.specs.List.{range_with_len}
use Rattle.snd_base.specs.declared.errors.PcmError.{PcmError}
use Rattle.snd_base.specs.declared.errors.PcmError.TheVariants.{BadState, NotSupported, Stopped}
use Rattle.pcm_states.specs.declared.states.State.TheVariants.{Open, Prepared, Setup}
use Rattle.pcm_states.specs.declared.calls.Call.TheVariants as call
use Rattle.course.specs.Course.{◌>>=◌, Course, ends}
use Rattle.dsnoop_client.specs.declared.stream.CaptureStream.{CaptureStream}
use Rattle.dsnoop_client.specs.Calls.{Answered, in_state}
use Rattle.dsnoop_client.specs.Course.{if_admitted, avail_course, read_course, starts, sync_course}
use Rattle.lab_lines.specs.declared.line.Actor.TheVariants as actor
use Rattle.lab_lines.specs.declared.line.Op.{Op}
use Rattle.lab_lines.specs.declared.line.Op.TheVariants as op
use Rattle.lab_lines.specs.declared.row.Answer.{Answer}
use Rattle.lab_lines.specs.declared.row.Answer.TheVariants.{Count, Done, Failed}
use Rattle.lab_lines.specs.declared.row.Row.{Row}
use Rattle.lab_run.specs.Client.{count_answer, dies_if, done_answer}
use Rattle.lab_run.specs.Lines.{Kind}
use Rattle.lab_run.specs.Rules.{AtPort}

-- a reader of a script: its stream where it is open, and the captured frames in its file so far, by their numbers
pub record Reader : Type 0 where
  pub own : Option CaptureStream
  pub frames : List ℕ

-- a call with its answer
abbrev pub call_answer : {X : Type 0} → (Result X PcmError → Answer) → Course (Answered X)
    → Course (CaptureStream × Answer)
call_answer answer course = course >>= λ done. ends (done.0, answer done.1)

-- the call that a line of an open reader names
abbrev pub call_of : CaptureStream → Op → Course (CaptureStream × Answer)
call_of r (op.Read n) = call_answer count_answer (if_admitted r call.Transfer (read_course r n))
call_of r op.Start = call_answer done_answer (if_admitted r call.Start (starts r call.Start))
call_of r op.Sync = call_answer done_answer (if_admitted r call.Sync (sync_course r))
call_of r op.Avail = call_answer count_answer (if_admitted r call.Sync (avail_course r))
call_of r op.Drop = call_answer done_answer (if_admitted r call.Drop (ends (in_state r Setup, Ok tt)))
call_of r op.Prepare =
    call_answer done_answer (if_admitted r call.Prepare (ends (in_state r Prepared, Ok tt)))
call_of r op.Pause = ends (r, Failed NotSupported)
call_of r other = ends (r, Failed BadState)

-- the frames that a line got: those that a read counts, which end before the next frame of the reader
abbrev pub frames_by : Op → Answer → CaptureStream → List ℕ
frames_by (op.Read n) (Count count) r = range_with_len (r.next - count) count
frames_by asked answer r = []

-- the reader after a call
abbrev pub after_call : Reader → Op → CaptureStream × Answer → Reader × Answer
after_call reader asked (after, answer) =
    (record { own = Some after; frames = reader.frames ++ frames_by asked answer after }, answer)

-- a line of an open reader: after a stop in this phase nothing is done any more
abbrev pub line_if : Bool → Reader → CaptureStream → Op → Course (Reader × Answer)
line_if true reader r asked = ends (reader, Failed Stopped)
line_if false reader r (op.Die k) = ends (reader, Done)
line_if false reader r asked = call_of r asked >>= λ done. ends (after_call reader asked done)

-- a line of a reader
abbrev pub line_by : Reader → Option CaptureStream → Op → Course (Reader × Answer)
line_by reader None asked = ends (reader, Failed BadState)
line_by reader (Some r) asked = line_if r.status.stopped reader r asked

abbrev pub begins : Option CaptureStream → Op → AtPort → AtPort
begins None asked a = a
begins (Some r) asked a = dies_if r.status.stopped asked a

-- the row of a reader's line, by the reader after it
abbrev pub row_by : ℕ → ℕ → Op → Option CaptureStream → Answer → Row
row_by phase number asked None answer =
    record {
      phase = phase;
      actor = actor.Reader number;
      op = asked;
      answer = answer;
      state = Open;
      seen = None;
    }
row_by phase number asked (Some r) answer =
    record {
      phase = phase;
      actor = actor.Reader number;
      op = asked;
      answer = answer;
      state = r.status.state;
      seen = r.seen;
    }

-- the reader of a number in a phase
abbrev pub reader_kind : ℕ → ℕ → Kind Reader
reader_kind phase number = record {
  begins = λ reader asked a. begins reader.own asked a;
  course = λ a reader asked. line_by reader reader.own asked;
  row = λ asked reader answer. row_by phase number asked reader.own answer;
}
