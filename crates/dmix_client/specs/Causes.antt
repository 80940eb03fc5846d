-- Why a call that took steps answered an error: by the position that it loaded, and by where its commit ended.
use Rattle.std.specs.Prelude.{◌≡◌, ℕ, ◌+◌, ◌≤◌, ◌↔◌, ◌<◌, ℤ, false, true, List, length, slice_index, Option, None, Some, IfErr, IfNone, OnOk, Result, Ok, Err, ⊤}
use Rattle.snd_base.specs.declared.errors.PcmError.{PcmError}
use Rattle.snd_base.specs.declared.errors.PcmError.TheVariants.{Again, LapEnd, NoDevice, Stopped, Xrun}
use Rattle.snd_base.specs.declared.errors.XrunWhy.TheVariants.{Avail, Late}
use Rattle.snd_base.specs.declared.places.Cursor.{Cursor}
use Rattle.mix_core.specs.declared.gate.Gate as gates
use Rattle.mix_core.specs.declared.port.MixPort as mixport
use Rattle.course.specs.AtPort.{TakesAt}
use Rattle.dmix_client.specs.declared.commit.Commit.{Commit}
use Rattle.dmix_client.specs.Calls.{after_start, start_count, started_in, sync_count}
use Rattle.mix_core.specs.declared.port.Position.{Position}
use Rattle.mix_core.specs.Port.{IsPast, PortView}
use Rattle.bindings.specs.Bound.{rising}
use Rattle.pcm_states.specs.declared.states.State.TheVariants.{Draining, Running}
use Rattle.pcm_states.specs.declared.calls.Call.TheVariants as call
use Rattle.dmix_client.specs.declared.stream.PlaybackStream.{PlaybackStream}
use Rattle.dmix_client.specs.Calls.{Answered, seen_at, after_sync}
use Rattle.dmix_client.specs.View.{ClientView, avail_of}
use Rattle.dmix_client.specs.Course.{write_on}
use Rattle.dmix_client.specs.Port.{TakesStep}
use Rattle.dmix_client.specs.Writes.{ring_with, taken_after}

-- a position was loaded, and it says that the card is gone
abbrev pub IsGone : Option Position → Type 0
IsGone None = ⊥
IsGone (Some position) = position.gone ≡ true

-- a stream in RUNNING had so many frames available at the position loaded, a frame number, and its stop threshold says no more
abbrev pub Reaches : PlaybackStream → Option Position → ℕ → ℕ → Type 0
Reaches c None avail frame = ⊥
Reaches c (Some position) avail frame =
    (position.gone ≡ false) × (c.status.state ≡ Running) × (c.setup.params.stop_threshold ≤ avail)
    × (avail ≡ avail_of (seen_at c position)) × (frame ≡ position.frame)

-- a frame and channel are the first of a client's segment in which nothing is placed, and the port shows that they were taken
pub record IsMissed {S : Type 0} (view : S → PortView) (shows : S → ℕ → ℕ → Option ℕ) (q : S)
    (d : PlaybackStream) (frame channel word : ℕ) : Type 0 where
  pub frame_is : frame ≡ d.stretch.card + d.stretch.committed
  pub channel_is : channel ≡ slice_index d.setup.bindings
      (slice_index (rising d.setup.bindings) d.stretch.part)
  pub past : IsPast view shows q frame channel word

-- the errors that a call can find in its steps, once it was admitted
abbrev pub IsOfSteps : PcmError → Type 0
IsOfSteps NoDevice = ⊤
IsOfSteps Stopped = ⊤
IsOfSteps Again = ⊤
IsOfSteps (Xrun (Avail avail seen)) = ⊤
IsOfSteps (Xrun (Late frame channel seen)) = ⊤
IsOfSteps other = ⊥

-- why a call of a client, which loaded a position unless the gate stopped it before, answered so, where a late answer says what `Missed`
-- has of a frame, a channel and a word
pub record IsCausedBy {X : Type 0} (Missed : ℕ → ℕ → ℕ → Type 0) (c : PlaybackStream)
    (load : Option Position) (answer : Result X PcmError) : Type 0 where
  pub unless_stopped : IfNone load (answer ≡ Err Stopped)
  pub of_steps : IfErr answer IsOfSteps
  pub no_device : (answer ≡ Err NoDevice) ↔ IsGone load
  pub reached : (avail frame : ℕ) → (answer ≡ Err (Xrun (Avail avail frame)))
      ↔ Reaches c load avail frame
  pub late : (frame channel word : ℕ) → answer ≡ Err (Xrun (Late frame channel word))
      → Missed frame channel word
  pub never_lap_end : answer ≡ Err LapEnd → ⊥

-- of one that left the client as `d`: what was late is the first of the segment in which nothing is placed
abbrev pub IsCaused : {S X : Type 0} → (S → PortView) → (S → ℕ → ℕ → Option ℕ) → S
    → PlaybackStream → PlaybackStream → Option Position → Result X PcmError → Type 0
IsCaused view shows q c d load answer = IsCausedBy (IsMissed view shows q d) c load answer

-- what the step of a call did, and why it answered so by the position that this step loaded
pub record Explains {S T X : Type 0} (P : mixport.Ghosts S) (G : gates.Ghosts T) (s t : S × T)
    (c : ClientView) (at : Position → PlaybackStream) (count : Position → ℕ)
    (call : Option Position → Commit → Answered X) (done : Answered X) : Type 0 where
  pub step : TakesStep P G s t c.ring at count (length c.stream.setup.bindings) call done
  pub why : IsCaused P.view P.shows t.0 c.stream done.0 step.load done.1

-- a write of n frames into a stream that runs: its sync, and what followed it; why it answered so by the position that the sync
-- loaded; and that it is to be made again exactly where the sync went well, there are frames to write, and none can be taken
pub record ExplainsWrite {S T : Type 0} (P : mixport.Ghosts S) (G : gates.Ghosts T) (s t : S × T)
    (c : PlaybackStream) (ring new_ring samples : List ℤ) (n : ℕ) (done : Answered ℕ) : Type 0 where
  pub between : S × T
  pub middle : Answered (Unit {0})
  pub first : TakesStep P G s between ring (λ position. c) (sync_count c) (length c.setup.bindings)
      (after_sync c call.Transfer) middle
  pub rest : TakesAt P G between (write_on ring samples n middle) t done
  pub ring_is : new_ring ≡ ring_with middle.0 ring samples (taken_after middle n)
  pub why : IsCaused P.view P.shows t.0 c done.0 first.load done.1
  pub again : (done.1 ≡ Err Again) ↔ ((middle.1 ≡ Ok tt) × (0 < n) × (avail_of middle.0 ≡ 0))

-- a drain of a stream that is prepared and has frames: its start, and why that answered so by the position that it loaded; a start that
-- failed ended it; and after one that went well its sync, and why that answered so by the position that the sync loaded
pub record ExplainsDrain {S T : Type 0} (P : mixport.Ghosts S) (G : gates.Ghosts T) (s t : S × T)
    (c : ClientView) (cursor : Cursor) (done : Answered (Unit {0})) : Type 0 where
  pub between : S × T
  pub begun : Answered (Unit {0})
  pub start : Explains P G s between c (λ position. started_in c.stream Running position cursor)
      (λ position. start_count c.stream cursor position c.stream.stretch.written)
      (after_start c.stream Draining cursor) begun
  pub failed : IfErr begun.1 (λ e. (t ≡ between) × (done ≡ (begun.0, Err e)))
  pub sync : OnOk begun.1
      (Explains P G between t (record { stream = begun.0; ring = c.ring }) (λ position. begun.0)
      (sync_count begun.0) (after_sync begun.0 call.Drain) done)
