-- What a call does to a reader that a handle stands for, and what it answers.
use Rattle.std.specs.Prelude.{◌≡◌, ℕ, ℤ, pos, List, None, Some, Result, Ok, Err, OnErr, OnOk, unwrap_or}
use Rattle.snd_base.specs.declared.errors.PcmError.{PcmError}
use Rattle.pcm_states.specs.declared.calls.Call.TheVariants as call
use Rattle.pcm_states.specs.States.{state_number}
use Rattle.pcm_stream.specs.declared.direction.Direction.TheVariants.{Capture}
use Rattle.pcm_stream.specs.Setup.{Checks}
use Rattle.pcm_stream.specs.Status.{refusal_of}
use Rattle.sw_limits.specs.Boundary.{IsBoundary}
use Rattle.snoop_table.specs.declared.seats.reader.ReaderSeat.{ReaderSeat}
use Rattle.snoop_table.specs.Readers.{SameReader, geometry_of}
use Rattle.dsnoop_client.specs.declared.stream.CaptureStream.{CaptureStream}
use Rattle.dsnoop_client.specs.Calls.{new_reader, with_params}
use Rattle.dsnoop_client.specs.View.{CanRead}
use Rattle.dmix_c.specs.declared.params.StreamHwParams.{StreamHwParams}
use Rattle.dmix_c.specs.declared.params.StreamSwParams.{StreamSwParams}
use Rattle.dmix_c.specs.declared.params.StreamStatus.{StreamStatus}
use Rattle.dmix_c.specs.declared.reader_calls.ReaderCall.{ReaderCall}
use Rattle.dmix_c.specs.declared.reader_calls.ReaderCall.TheVariants.{AvailUpdate}
use Rattle.dmix_c.specs.declared.reader_calls.ReaderRequest.{ReaderRequest}
use Rattle.dmix_c.specs.declared.reader_calls.ReaderRequest.TheVariants as request
use Rattle.dmix_c.specs.declared.recording.Recording.{Recording}
use Rattle.dmix_c.specs.Answers.{done_of, number_of}
use Rattle.dmix_c.specs.Params.{thresholds_of}
use Rattle.dmix_c.specs.ReaderCalls.{ReaderHasMade, ReaderHasSetUp, ReadsAt}
use Rattle.dmix_c.specs.Transfers.{Transfers}

-- a reader keeps its ring, and the ring's rate
pub record KeepsSource (p q : Recording) : Type 0 where
  pub ring : SameReader p.seat q.seat
  pub rate : q.rate ≡ p.rate

-- a reader in OPEN at a seat
pub record IsNewRecording (s : ReaderSeat) (rate : ℕ) (p : Recording) : Type 0 where
  pub seat : p.seat ≡ s
  pub reader : p.reader ≡ new_reader (geometry_of s)
  pub rate_is : p.rate ≡ rate

-- a reader made a call
pub record ReaderHasCalled (asked : ReaderCall) (p q : Recording) (answer : ℤ) : Type 0 where
  pub made : Result ℕ PcmError
  pub answered : answer ≡ number_of made
  pub call : ReaderHasMade asked p.seat p.reader q.seat q.reader made
  pub same : KeepsSource p q

-- a reader read into some room, or refused it with nothing changed
pub record WasRead (p q : Recording) (old new : List ℤ) (made : Result ℕ PcmError) : Type 0 where
  pub moved : Transfers (refusal_of Capture p.reader.status call.Transfer) (CanRead p.reader old) ((q ≡ p) × (new ≡ old))
      (ReadsAt p.seat p.reader q.seat q.reader old new made) made
  pub same : KeepsSource p q

pub record ReaderHasRead (old new : List ℤ) (p q : Recording) (answer : ℤ) : Type 0 where
  pub made : Result ℕ PcmError
  pub answered : answer ≡ number_of made
  pub was_read : WasRead p q old new made

-- a reader was given hardware parameters, with a list of the card's channels
pub record ReaderHasHwParams (params : StreamHwParams) (list : List ℕ) (p q : Recording) (answer : ℤ) : Type 0 where
  pub made : Result ℕ PcmError
  pub answered : answer ≡ number_of made
  pub set_up : ReaderHasSetUp (geometry_of p.seat) p.rate params list p.reader q.reader made
  pub seat : q.seat ≡ p.seat
  pub rate : q.rate ≡ p.rate

-- a reader was given software parameters, or refused them: by its state, or exactly where they have a defect
pub record ReaderSetsSwParams (params : StreamSwParams) (p q : Recording) (made : Result (Unit {0}) PcmError) : Type 0 where
  pub refused : (e : PcmError) → refusal_of Capture p.reader.status call.SwParams ≡ Some e → made ≡ Err e
  pub checked : refusal_of Capture p.reader.status call.SwParams ≡ None
      → (b : ℕ) × IsBoundary p.reader.setup.config.buffer_size b × Checks made (thresholds_of params) b
  pub done : OnOk made (q.reader ≡ with_params p.reader (thresholds_of params))
  pub kept : OnErr made (q.reader ≡ p.reader)
  pub seat : q.seat ≡ p.seat
  pub rate : q.rate ≡ p.rate

pub record ReaderHasSwParams (params : StreamSwParams) (p q : Recording) (answer : ℤ) : Type 0 where
  pub made : Result (Unit {0}) PcmError
  pub answered : answer ≡ number_of (done_of made)
  pub set : ReaderSetsSwParams params p q made

-- a reader told its state
pub record ReaderHasState (p q : Recording) (answer : ℤ) : Type 0 where
  pub same : q ≡ p
  pub answered : answer ≡ pos (state_number p.reader.status.state)

-- a reader served a request, and gave what the call answers
abbrev pub ReaderHasServed : ReaderRequest → Recording → Recording → ℤ → Type 0
ReaderHasServed (request.Call asked) = ReaderHasCalled asked
ReaderHasServed (request.HwParams params list) = ReaderHasHwParams params.now list.now
ReaderHasServed (request.SwParams params) = ReaderHasSwParams params.now
ReaderHasServed request.State = ReaderHasState

-- what a reader is after a sync: its state, the frames that a read can give, which are the delay too, and the position; where the sync was
-- refused, both numbers of frames are 0
pub record IsReaderStatus (c : CaptureStream) (made : Result ℕ PcmError) (status : StreamStatus) : Type 0 where
  pub state : status.state ≡ state_number c.status.state
  pub avail : OnOk made (made ≡ Ok status.avail)
  pub delay : status.delay ≡ status.avail
  pub position : status.position ≡ unwrap_or c.seen 0
  pub no_avail : OnErr made (status.avail ≡ 0)

-- a reader synced as for `AvailUpdate`, and told what it is then; the answer is 0, whatever was found
pub record ReaderHasStatus (status : StreamStatus) (p q : Recording) (answer : ℤ) : Type 0 where
  pub made : Result ℕ PcmError
  pub answered : answer ≡ pos 0
  pub call : ReaderHasMade AvailUpdate p.seat p.reader q.seat q.reader made
  pub told : IsReaderStatus q.reader made status
  pub same : KeepsSource p q
