-- What a call does to a client that a handle stands for, and what it answers.
use Rattle.std.specs.Prelude.{◌≡◌, ℕ, ◌+◌, ◌^◌, ◌<◌, ℤ, pos, List, [], Some, None, Result, Ok, Err, OnErr, OnOk, unwrap_or}
use Rattle.snd_base.specs.declared.errors.PcmError.{PcmError}
use Rattle.sum_table.specs.declared.seats.mix.MixSeat.{MixSeat}
use Rattle.sum_table.specs.Seats.{geometry_of, member_of}
use Rattle.pcm_states.specs.declared.calls.Call.TheVariants as call
use Rattle.pcm_states.specs.States.{state_number}
use Rattle.pcm_stream.specs.declared.direction.Direction.TheVariants.{Playback as playback}
use Rattle.pcm_stream.specs.Setup.{Checks}
use Rattle.pcm_stream.specs.Status.{refusal_of}
use Rattle.sw_limits.specs.Boundary.{IsBoundary}
use Rattle.dmix_client.specs.declared.stream.PlaybackStream.{PlaybackStream}
use Rattle.dmix_client.specs.Calls.{delay_answer, new_client, with_params}
use Rattle.dmix_client.specs.Writes.{IsOffer}
use Rattle.dmix_c.specs.declared.params.StreamHwParams.{StreamHwParams}
use Rattle.dmix_c.specs.declared.params.StreamSwParams.{StreamSwParams}
use Rattle.dmix_c.specs.declared.params.StreamStatus.{StreamStatus}
use Rattle.dmix_c.specs.declared.playback.Playback.{Playback}
use Rattle.dmix_c.specs.declared.client_calls.ClientCall.{ClientCall}
use Rattle.dmix_c.specs.declared.client_calls.ClientCall.TheVariants.{AvailUpdate}
use Rattle.dmix_c.specs.declared.client_calls.ClientRequest.{ClientRequest}
use Rattle.dmix_c.specs.declared.client_calls.ClientRequest.TheVariants as request
use Rattle.dmix_c.specs.Answers.{done_of, number_of}
use Rattle.dmix_c.specs.Params.{thresholds_of}
use Rattle.dmix_c.specs.SamePlace.{IsSamePlace}
use Rattle.dmix_c.specs.ClientCalls.{HasMade, HasSetUp, Writes}
use Rattle.dmix_c.specs.Transfers.{Transfers}

-- a client keeps its place, and the rate of its ring
pub record KeepsPlace (p q : Playback) : Type 0 where
  pub place : IsSamePlace p.seat q.seat
  pub rate : q.rate ≡ p.rate

-- a client in OPEN at a seat, whose start begins so many frames past the position
pub record IsNewPlayback (s : MixSeat) (rate lead : ℕ) (p : Playback) : Type 0 where
  pub seat : p.seat ≡ s
  pub client : p.client ≡ record { stream = new_client (geometry_of s) (member_of s) lead; ring = [] }
  pub rate_is : p.rate ≡ rate

-- a client made a call
pub record HasCalled (asked : ClientCall) (p q : Playback) (answer : ℤ) : Type 0 where
  pub made : Result ℕ PcmError
  pub answered : answer ≡ number_of made
  pub call : HasMade asked p.seat p.client q.seat q.client made
  pub same : KeepsPlace p q

-- a client wrote samples, or refused them with nothing changed
pub record Written (p q : Playback) (samples : List ℤ) (made : Result ℕ PcmError) : Type 0 where
  pub moved : Transfers (refusal_of playback p.client.stream.status call.Transfer) (IsOffer p.client.stream samples) (q ≡ p)
      (Writes p.seat p.client q.seat q.client samples made) made
  pub same : KeepsPlace p q

pub record HasWritten (samples : List ℤ) (p q : Playback) (answer : ℤ) : Type 0 where
  pub made : Result ℕ PcmError
  pub answered : answer ≡ number_of made
  pub written : Written p q samples made

-- a client was given hardware parameters, with a list of the card's channels
pub record HasHwParams (params : StreamHwParams) (list : List ℕ) (p q : Playback) (answer : ℤ) : Type 0 where
  pub made : Result ℕ PcmError
  pub answered : answer ≡ number_of made
  pub set_up : HasSetUp (geometry_of p.seat) p.rate params list p.client q.client made
  pub seat : q.seat ≡ p.seat
  pub rate : q.rate ≡ p.rate

-- a client was given software parameters, or refused them: by its state, or exactly where they have a defect
pub record SetsSwParams (params : StreamSwParams) (p q : Playback) (made : Result (Unit {0}) PcmError) : Type 0 where
  pub refused : (e : PcmError) → refusal_of playback p.client.stream.status call.SwParams ≡ Some e → made ≡ Err e
  pub checked : refusal_of playback p.client.stream.status call.SwParams ≡ None
      → (b : ℕ) × IsBoundary p.client.stream.setup.config.buffer_size b × Checks made (thresholds_of params) b
  pub done : OnOk made (q.client ≡ record p.client { stream = with_params p.client.stream (thresholds_of params) })
  pub kept : OnErr made (q.client ≡ p.client)
  pub seat : q.seat ≡ p.seat
  pub rate : q.rate ≡ p.rate

pub record HasSwParams (params : StreamSwParams) (p q : Playback) (answer : ℤ) : Type 0 where
  pub made : Result (Unit {0}) PcmError
  pub answered : answer ≡ number_of (done_of made)
  pub set : SetsSwParams params p q made

-- a client told its state
pub record HasState (p q : Playback) (answer : ℤ) : Type 0 where
  pub same : q ≡ p
  pub answered : answer ≡ pos (state_number p.client.stream.status.state)

-- a client served a request, and gave what the call answers
abbrev pub HasServed : ClientRequest → Playback → Playback → ℤ → Type 0
HasServed (request.Call asked) = HasCalled asked
HasServed (request.HwParams params list) = HasHwParams params.now list.now
HasServed (request.SwParams params) = HasSwParams params.now
HasServed request.State = HasState
HasServed (request.Write samples) = HasWritten samples.now

-- what a client is after a sync: its state, the frames that a write can take, the frames before the next one that is written, and the
-- position; where the sync was refused, both numbers of frames are 0
pub record IsStatus (c : PlaybackStream) (made : Result ℕ PcmError) (status : StreamStatus) : Type 0 where
  pub state : status.state ≡ state_number c.status.state
  pub avail : OnOk made (made ≡ Ok status.avail)
  pub delay : OnOk made (c.stretch.card + c.stretch.written < 2 ^ 64 → status.delay ≡ delay_answer c)
  pub position : status.position ≡ unwrap_or c.seen 0
  pub no_avail : OnErr made (status.avail ≡ 0)
  pub no_delay : OnErr made (status.delay ≡ 0)

-- a client synced as for `AvailUpdate`, and told what it is then; the answer is 0, whatever was found
pub record HasStatus (status : StreamStatus) (p q : Playback) (answer : ℤ) : Type 0 where
  pub made : Result ℕ PcmError
  pub answered : answer ≡ pos 0
  pub call : HasMade AvailUpdate p.seat p.client q.seat q.client made
  pub told : IsStatus q.client.stream made status
  pub same : KeepsPlace p q
