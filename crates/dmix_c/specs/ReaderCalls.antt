-- The calls of a reader at its seat: what each does there, step by step, what it answers, and what it leaves.
use Rattle.std.specs.Prelude.{◌≡◌, ℕ, false, ℤ, List, Result, Ok}
use Rattle.snd_base.specs.declared.errors.PcmError.{PcmError}
use Rattle.snd_base.specs.declared.geometry.Geometry.{Geometry}
use Rattle.mix_core.specs.declared.gate.NeverStops.{NeverStops}
use Rattle.snoop_table.specs.declared.seats.reader.ReaderSeat.{ReaderSeat}
use Rattle.snoop_table.specs.Readers.{IsLaterSeat, seat_view}
use Rattle.course.specs.AtSnoopPort.{TakesAtSnoop}
use Rattle.course.specs.Course.{◌>>=◌, Course, ends}
use Rattle.pcm_states.specs.declared.calls.Call.TheVariants as call
use Rattle.pcm_states.specs.declared.states.State.TheVariants as state
use Rattle.pcm_stream.specs.declared.direction.Direction.TheVariants.{Capture}
use Rattle.pcm_stream.specs.Status.{refusal_of}
use Rattle.dsnoop_client.specs.declared.stream.CaptureStream.{CaptureStream}
use Rattle.dsnoop_client.specs.Calls.{Answered, after_hw_free, configured_with, in_state}
use Rattle.dsnoop_client.specs.Course.{avail_course, if_admitted, read_course, starts}
use Rattle.dsnoop_client.specs.Reads.{GivesFrames}
use Rattle.dsnoop_client.specs.View.{CanUse, frames_in}
use Rattle.dmix_c.specs.declared.params.StreamHwParams.{StreamHwParams}
use Rattle.dmix_c.specs.declared.reader_calls.ReaderCall.{ReaderCall}
use Rattle.dmix_c.specs.declared.reader_calls.ReaderCall.TheVariants as asked
use Rattle.dmix_c.specs.Answers.{done_of}
use Rattle.dmix_c.specs.Params.{config_with}
use Rattle.dmix_c.specs.ReaderPort.{reader_port}
use Rattle.dmix_c.specs.SeatPort.{no_gate}
use Rattle.dmix_c.specs.SettingUp.{SetsUp}

-- a call that gives nothing gives 0
abbrev pub reader_done : Course (Answered (Unit {0})) → Course (Answered ℕ)
reader_done course = course >>= λ done. ends (done.0, done_of done.1)

-- the call, unless the state table refuses it, of a reader as it is
abbrev pub reader_course : ReaderCall → CaptureStream → Course (Answered ℕ)
reader_course asked.HwFree c =
    reader_done (if_admitted c call.HwFree (ends (after_hw_free c, Ok tt)))
reader_course asked.Prepare c =
    reader_done (if_admitted c call.Prepare (ends (in_state c state.Prepared, Ok tt)))
reader_course asked.Start c =
    reader_done (if_admitted c call.Start (starts c call.Start))
reader_course asked.Drop c =
    reader_done (if_admitted c call.Drop (ends (in_state c state.Setup, Ok tt)))
reader_course asked.AvailUpdate c =
    if_admitted c call.Sync (avail_course c)

-- a reader made a call at its seat, isn't stopped by it, and can use the seat again
pub record ReaderHasMade (asked : ReaderCall) (s : ReaderSeat) (c : CaptureStream) (t : ReaderSeat) (d : CaptureStream) (made : Result ℕ PcmError) : Type 0 where
  pub before : NeverStops
  pub after : NeverStops
  pub takes : TakesAtSnoop reader_port no_gate (s, before) (reader_course asked c) (t, after) (d, made)
  pub unstopped : c.status.stopped ≡ false → d.status.stopped ≡ false
  pub usable : CanUse d (seat_view t)
  pub goes : IsLaterSeat s t

-- a reader read into some room at its seat: it took the course of a read, and gives the samples of the frames that its seat got, one after the
-- other, through its bindings; and it isn't stopped by it, and can use the seat again
pub record ReadsAt (s : ReaderSeat) (c : CaptureStream) (t : ReaderSeat) (d : CaptureStream) (old new : List ℤ) (made : Result ℕ PcmError) : Type 0 where
  pub before : NeverStops
  pub after : NeverStops
  pub takes : TakesAtSnoop reader_port no_gate (s, before) (if_admitted c call.Transfer (read_course c (frames_in c old))) (t, after) (d, made)
  pub gives : GivesFrames reader_port s t c d old new made
  pub unstopped : c.status.stopped ≡ false → d.status.stopped ≡ false
  pub usable : CanUse d (seat_view t)
  pub goes : IsLaterSeat s t

-- a reader was set up with parameters and bindings, or refused them
abbrev pub ReaderHasSetUp : Geometry → ℕ → StreamHwParams → List ℕ → CaptureStream → CaptureStream → Result ℕ PcmError → Type 0
ReaderHasSetUp g rate params list c d made =
    SetsUp (refusal_of Capture c.status call.HwParams) (configured_with c (config_with params)) g rate params list c d made
