-- The calls of a client at its seat: what each does there, step by step, what it answers, and what it leaves.
use Rattle.std.specs.Prelude.{◌≡◌, ℕ, ◌*◌, Bool, true, false, List, [], length, replicate, pos, ℤ, Result, Ok}
use Rattle.snd_base.specs.declared.errors.PcmError.{PcmError}
use Rattle.snd_base.specs.declared.geometry.Geometry.{Geometry}
use Rattle.mix_core.specs.declared.gate.NeverStops.{NeverStops}
use Rattle.mix_core.specs.declared.marks.Marks.{Marks}
use Rattle.sum_table.specs.declared.seats.mix.MixSeat.{MixSeat}
use Rattle.sum_table.specs.Seats.{IsLaterSeat, seat_view}
use Rattle.course.specs.AtPort.{TakesAt}
use Rattle.course.specs.Course.{◌>>=◌, Course, ends}
use Rattle.pcm_states.specs.declared.calls.Call.TheVariants as call
use Rattle.pcm_stream.specs.declared.direction.Direction.TheVariants.{Playback}
use Rattle.pcm_stream.specs.Status.{refusal_of}
use Rattle.dmix_client.specs.Calls.{Answered, after_drop, after_hw_free, after_prepare, avail_answer, configured_with, delay_answer}
use Rattle.dmix_client.specs.Course.{drain_course, if_admitted, number_course, pause_course, start_course, write_course}
use Rattle.dmix_client.specs.Growth.{Follows, Keeps}
use Rattle.dmix_client.specs.Port.{CanUse}
use Rattle.dmix_client.specs.Rewind.{rewind_course, rewindable_course}
use Rattle.dmix_client.specs.View.{ClientView}
use Rattle.dmix_client.specs.Writes.{frames_in}
use Rattle.dmix_c.specs.declared.params.StreamHwParams.{StreamHwParams}
use Rattle.dmix_c.specs.declared.client_calls.ClientCall.{ClientCall}
use Rattle.dmix_c.specs.declared.client_calls.ClientCall.TheVariants as asked
use Rattle.dmix_c.specs.Answers.{done_of}
use Rattle.dmix_c.specs.Backed.{StaysBacked}
use Rattle.dmix_c.specs.Params.{config_with}
use Rattle.dmix_c.specs.SeatPort.{no_gate, seat_port}
use Rattle.dmix_c.specs.SettingUp.{SetsUp}

-- a call that gives nothing gives 0
abbrev pub done_course : Course (Answered (Unit {0})) → Course (Answered ℕ)
done_course course = course >>= λ done. ends (done.0, done_of done.1)

-- the call, unless the state table refuses it, of a client as it is, at a seat with these marks
abbrev pub call_course : ClientCall → ClientView → Marks → Course (Answered ℕ)
call_course asked.HwFree c marks =
    done_course (if_admitted c.stream call.HwFree (ends (after_hw_free c.stream, Ok tt)))
call_course asked.Prepare c marks =
    done_course (if_admitted c.stream call.Prepare (ends (after_prepare c.stream, Ok tt)))
call_course asked.Start c marks =
    done_course (if_admitted c.stream call.Start (start_course c.stream c.ring marks.cursor))
call_course asked.Drop c marks =
    done_course (if_admitted c.stream call.Drop (ends (after_drop c.stream, Ok tt)))
call_course asked.Drain c marks =
    done_course (if_admitted c.stream call.Drain (drain_course c.stream c.ring marks.cursor))
call_course asked.Pause c marks =
    done_course (if_admitted c.stream call.Pause (pause_course true c.stream c.ring marks.cursor))
call_course asked.Resume c marks =
    done_course (if_admitted c.stream call.Resume (pause_course false c.stream c.ring marks.cursor))
call_course asked.AvailUpdate c marks =
    if_admitted c.stream call.Sync (number_course avail_answer c.stream c.ring)
call_course asked.Delay c marks =
    if_admitted c.stream call.Sync (number_course delay_answer c.stream c.ring)
call_course asked.Rewindable c marks =
    if_admitted c.stream call.Transfer (rewindable_course c.stream marks.floor)
call_course (asked.Rewind n) c marks =
    if_admitted c.stream call.Transfer (rewind_course c.stream c.ring marks.floor n)

-- a pause, or a resume
abbrev pub pause_of : Bool → ClientCall
pause_of true = asked.Pause
pause_of false = asked.Resume

-- the local ring after a call: a configuration that is given up takes it along
abbrev pub ring_after : ClientCall → Result ℕ PcmError → List ℤ → List ℤ
ring_after asked.HwFree (Ok done) ring = []
ring_after other made ring = ring

-- a client made a call at its seat, isn't stopped by it, and can use the seat again; its segment is what stands at the end of what the seat
-- placed, by whichever samples it was before
pub record HasMade (asked : ClientCall) (s : MixSeat) (c : ClientView) (t : MixSeat) (d : ClientView) (made : Result ℕ PcmError) : Type 0 where
  pub before : NeverStops
  pub after : NeverStops
  pub takes : TakesAt seat_port no_gate (s, before) (call_course asked c (seat_view s).marks) (t, after) (d.stream, made)
  pub ring : d.ring ≡ ring_after asked made c.ring
  pub unstopped : c.stream.status.stopped ≡ false → d.stream.status.stopped ≡ false
  pub usable : CanUse d.stream (seat_view t)
  pub goes : IsLaterSeat s t
  pub stays : StaysBacked s c t d

-- a client wrote samples at its seat: it took the course of a write, and for each list of samples that it represents, and that has the
-- offered ones after those which it accepted, its segment grew by exactly what it placed, and it represents the list afterwards; it isn't
-- stopped by it
pub record Writes (s : MixSeat) (c : ClientView) (t : MixSeat) (d : ClientView) (samples : List ℤ) (written : Result ℕ PcmError) : Type 0 where
  pub before : NeverStops
  pub after : NeverStops
  pub takes : TakesAt seat_port no_gate (s, before)
      (if_admitted c.stream call.Transfer (write_course c.stream c.ring samples (seat_view s).marks.cursor))
      (t, after) (d.stream, written)
  pub keeps : Keeps seat_port no_gate (s, before) (t, after) c d written (λ all. Follows c.stream all samples (frames_in c.stream samples))
  pub unstopped : c.stream.status.stopped ≡ false → d.stream.status.stopped ≡ false
  pub goes : IsLaterSeat s t

-- a client with a configuration and bindings, prepared, with a silent local ring for the buffer
abbrev pub set_up_with : ClientView → StreamHwParams → List ℕ → ClientView
set_up_with c params bindings = record {
  stream = configured_with c.stream (config_with params) bindings;
  ring = replicate (params.buffer_size * length bindings) (pos 0);
}

-- a client was set up with parameters and bindings, or refused them
abbrev pub HasSetUp : Geometry → ℕ → StreamHwParams → List ℕ → ClientView → ClientView → Result ℕ PcmError → Type 0
HasSetUp g rate params list c d made =
    SetsUp (refusal_of Playback c.stream.status call.HwParams) (set_up_with c params) g rate params list c d made
