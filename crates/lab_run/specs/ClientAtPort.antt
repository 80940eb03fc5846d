-- A client's line, as the client did it at its port: the part that it has of a run.
use Rattle.std.specs.Prelude.{◌≡◌, ℕ, ◌-◌, min, Bool, true, false, ℤ, List, ◌++◌, Option, Some, None, Ok, ⊤}
use Rattle.snd_base.specs.declared.geometry.Geometry.{Geometry}
use Rattle.mix_core.specs.declared.gate.Gate as gates
use Rattle.mix_core.specs.declared.marks.Marks.{Marks}
use Rattle.mix_core.specs.declared.port.MixPort as mixport
use Rattle.pcm_states.specs.declared.calls.Call.TheVariants as call
use Rattle.wav_io.specs.Sound.{Sound}
use Rattle.course.specs.AtPort.{TakesAt}
use Rattle.course.specs.Course.{Course, ends}
use Rattle.dmix_client.specs.declared.stream.PlaybackStream.{PlaybackStream}
use Rattle.dmix_client.specs.Calls.{avail_answer, delay_answer, after_drop, after_prepare}
use Rattle.dmix_client.specs.Course.{if_admitted, drain_course, number_course, pause_course, start_course, sync_course, write_course}
use Rattle.dmix_client.specs.Rewind.{rewind_course, rewindable_course}
use Rattle.dmix_client.specs.Writes.{frames_in}
use Rattle.lab_lines.specs.declared.line.Op.{Op}
use Rattle.lab_lines.specs.declared.line.Op.TheVariants as op
use Rattle.lab_lines.specs.declared.row.Answer.{Answer}
use Rattle.lab_lines.specs.declared.row.Answer.TheVariants.{Done, Failed}
use Rattle.snd_base.specs.declared.errors.PcmError.TheVariants.{BadState, Stopped}
use Rattle.lab_run.specs.ActorPart.{Doing, Findings, LineDone}
use Rattle.lab_run.specs.Client.{Client, call_answer, client_kind, count_answer, done_answer, ended_by, frames_of}
use Rattle.lab_run.specs.Members.{with_member}
use Rattle.lab_run.specs.PortSteps.{IsAtPort}
use Rattle.lab_run.specs.Rules.{AtPort}

-- the call that a line of an open client names, as the client makes it: with what its local ring holds, with the samples that it is given,
-- and with the marks of its port
abbrev pub made_call : List ℤ → List ℤ → Marks → PlaybackStream → Op
    → Course (PlaybackStream × Answer)
made_call ring samples marks c (op.Write n) =
    call_answer count_answer (if_admitted c call.Transfer (write_course c ring samples marks.cursor))
made_call ring samples marks c op.Start =
    call_answer done_answer (if_admitted c call.Start (start_course c ring marks.cursor))
made_call ring samples marks c op.Sync =
    call_answer done_answer (if_admitted c call.Sync (sync_course c ring))
made_call ring samples marks c op.Avail =
    call_answer count_answer (if_admitted c call.Sync (number_course avail_answer c ring))
made_call ring samples marks c op.Delay =
    call_answer count_answer (if_admitted c call.Sync (number_course delay_answer c ring))
made_call ring samples marks c op.Drain =
    call_answer done_answer (if_admitted c call.Drain (drain_course c ring marks.cursor))
made_call ring samples marks c op.Drop =
    call_answer done_answer (if_admitted c call.Drop (ends (after_drop c, Ok tt)))
made_call ring samples marks c op.Prepare =
    call_answer done_answer (if_admitted c call.Prepare (ends (after_prepare c, Ok tt)))
made_call ring samples marks c op.Pause =
    call_answer done_answer (if_admitted c call.Pause (pause_course true c ring marks.cursor))
made_call ring samples marks c op.Resume =
    call_answer done_answer (if_admitted c call.Resume (pause_course false c ring marks.cursor))
made_call ring samples marks c (op.Rewind n) =
    call_answer count_answer (if_admitted c call.Transfer (rewind_course c ring marks.floor n))
made_call ring samples marks c op.Rewindable =
    call_answer count_answer (if_admitted c call.Transfer (rewindable_course c marks.floor))
made_call ring samples marks c other = ends (c, Failed BadState)

-- a write is given the next frames of the client's file, as many as it asks for, or those that are left
abbrev pub IsOffered : Sound → PlaybackStream → List ℤ → Op → Type 0
IsOffered wav c samples (op.Write n) = frames_in c samples ≡ min n (frames_of wav - c.fed)
IsOffered wav c samples other = ⊤

abbrev pub is_die : Op → Bool
is_die (op.Die k) = true
is_die other = false

-- a line makes a call of an open client: it isn't stopped, and the line isn't a `die`
pub record MakesCall (client : Client) (c : PlaybackStream) (asked : Op) : Type 0 where
  pub is_open : client.own ≡ Some c
  pub goes : c.status.stopped ≡ false
  pub asks : is_die asked ≡ false

-- a client of a run, which has its own number as member, after a call that left the client at its seat so
abbrev pub after_seat_call : ℕ → Client → PlaybackStream → Op → PlaybackStream → Answer → Client
after_seat_call number client c asked after answer =
    record {
      own = Some (with_member number after);
      ended = client.ended ++ ended_by asked answer c after;
    }

-- a line of a client was done at a port, after which it is so
pub record IsClientLine {S T : Type 0} (P : mixport.Ghosts S) (left : T → Option ℕ)
    (by_gate at_gate : T → ℕ) (first : S) (ring : Geometry) (from : ℕ) (t : S × T)
    (phase : ℕ) (wav : Sound) (number : ℕ) (before : Doing) (client : Client)
    (asked : Op) (after : Client) (answer : Answer) : Type 0 where
  pub doing : Doing
  pub done : LineDone (client_kind phase wav number) ring ((before.0, client), before.1)
      asked ((doing.0, after), doing.1) answer
  pub at : IsAtPort P left by_gate at_gate first ring from t doing

-- Each line that makes a call is a part of its client. The client that makes it has the member of its seat; that of the run is the same with its
-- own number as member, before the call and after it.
abbrev pub ClientLinesAreParts : {S T : Type 0} → mixport.Ghosts S → gates.Ghosts T
    → (T → Option ℕ) → (T → ℕ) → (T → ℕ) → S → Geometry → ℕ → Type 0
ClientLinesAreParts {S = S} {T = T} P G left by_gate at_gate first ring from =
    (s t : S × T) (phase : ℕ) (wav : Sound) (number : ℕ) (before : Doing)
    (client : Client) (c : PlaybackStream) (held samples : List ℤ) (asked : Op)
    (after : PlaybackStream) (answer : Answer) → MakesCall client (with_member number c) asked
    → IsOffered wav c samples asked
    → IsAtPort P left by_gate at_gate first ring from s before
    → TakesAt P G s (made_call held samples (P.view s.0).marks c asked) t (after, answer)
    → IsClientLine P left by_gate at_gate first ring from t phase wav number before client
    asked (after_seat_call number client c asked after answer) answer

-- the lines that make no call: of a client that isn't open, of one that was stopped in this phase, and a `die`
pub record ClientLinesWithoutCall (ring : Geometry) (phase : ℕ) (wav : Sound)
    (number : ℕ) : Type 0 where
  pub closed : (a : AtPort) (found : Findings) (client : Client) (asked : Op) → client.own ≡ None
      → LineDone (client_kind phase wav number) ring ((a, client), found) asked
      ((a, client), found) (Failed BadState)
  pub stopped : (a : AtPort) (found : Findings) (client : Client) (c : PlaybackStream) (asked : Op)
      → client.own ≡ Some c → c.status.stopped ≡ true
      → LineDone (client_kind phase wav number) ring ((a, client), found) asked
      ((a, client), found) (Failed Stopped)
  pub dies : (a : AtPort) (found : Findings) (client : Client) (c : PlaybackStream) (k : ℕ)
      → client.own ≡ Some c → c.status.stopped ≡ false
      → LineDone (client_kind phase wav number) ring ((a, client), found) (op.Die k)
      ((record a { left = Some k }, client), found) Done
