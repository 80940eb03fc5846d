-- What each call of a client that takes steps at a port does: a relation between port, gate and client before and after, and the call's
-- answer. Each is `Calls` with the call's own course, frame and cause, but for a write, `WritesFrames`, which has more fields; its `takes`
-- and `refused` say the same as those of `Calls`.
use Rattle.std.specs.Prelude.{◌≡◌, ◌↔◌, ℕ, ◌+◌, ◌<◌, Bool, true, false, ℤ, List, None, Some, Result, Ok, Err}
use Rattle.snd_base.specs.declared.errors.PcmError.{PcmError}
use Rattle.snd_base.specs.declared.errors.PcmError.TheVariants.{Again}
use Rattle.mix_core.specs.declared.gate.Gate as gates
use Rattle.mix_core.specs.declared.port.MixPort as mixport
use Rattle.course.specs.AtPort.{TakesAt}
use Rattle.course.specs.Course.{Course}
use Rattle.pcm_states.specs.declared.states.State.TheVariants.{Draining, Prepared, Running}
use Rattle.pcm_states.specs.declared.calls.Call.{Call}
use Rattle.pcm_states.specs.declared.calls.Call.TheVariants as call
use Rattle.pcm_stream.specs.declared.direction.Direction.TheVariants.{Playback}
use Rattle.pcm_stream.specs.Status.{is_moving, refusal_of}
use Rattle.dmix_client.specs.declared.stream.PlaybackStream.{PlaybackStream}
use Rattle.dmix_client.specs.Calls.{Answered, accepted_if, after_pause, after_resume, after_start, after_sync, base_of, has_frames, in_draining, pending_of, start_count, started_in, sync_count, taken_of, with_new_base, with_number}
use Rattle.dmix_client.specs.Causes.{Explains, ExplainsDrain, ExplainsWrite}
use Rattle.dmix_client.specs.Course.{drain_course, if_admitted, nothing, number_course, pause_call, pause_course, start_course, sync_course, write_course}
use Rattle.dmix_client.specs.Growth.{AnySamples, Follows, Keeps, KeepsBack}
use Rattle.dmix_client.specs.Port.{CanUse}
use Rattle.dmix_client.specs.Rewind.{rewind_course, rewindable_course, rewindable_of}
use Rattle.dmix_client.specs.RewindCauses.{ExplainsCheck, ExplainsRewind}
use Rattle.dmix_client.specs.View.{ClientView}
use Rattle.dmix_client.specs.Writes.{frames_in, ring_with, starts_with}

-- a call of a client `c`, which it left as `d`: by its place in the state table, its course, what it keeps (`Frame`), and why it answered
-- so once the table admitted it (`Cause`)
pub record Calls {S T X : Type 0} (P : mixport.Ghosts S) (G : gates.Ghosts T) (s t : S × T)
    (c d : ClientView) (answer : Result X PcmError) (call : Call) (course : Course (Answered X))
    (Frame Cause : Type 0) : Type 0 where
  -- what it loads, places and asks, in which order, and its answer, are those of its course
  pub takes : TakesAt P G s (if_admitted c.stream call course) t (d.stream, answer)
  -- where the state refuses it, it answers the table's error and changes nothing
  pub refused : (e : PcmError) → refusal_of Playback c.stream.status call ≡ Some e
      → (answer ≡ Err e) × (d ≡ c) × (t.0 ≡ s.0) × (t.1 ≡ s.1)
  -- the local ring stays
  pub ring : d.ring ≡ c.ring
  -- what client and port keep
  pub keeps : Frame
  -- why it answered so
  pub causes : refusal_of Playback c.stream.status call ≡ None → Cause

-- a sync, whose cause is given for a client that moves frames
abbrev pub Syncs : {S T : Type 0} → mixport.Ghosts S → gates.Ghosts T → S × T → S × T
    → ClientView → ClientView → Result (Unit {0}) PcmError → Type 0
Syncs P G s t c d answer =
    Calls P G s t c d answer call.Sync (sync_course c.stream c.ring)
    (Keeps P G s t c d answer AnySamples)
    (is_moving c.stream.status.state ≡ true
    → Explains P G s t c (λ position. c.stream) (sync_count c.stream)
    (after_sync c.stream call.Sync) (d.stream, answer))

-- a sync that answers a number of the client, and whose cause is given for a client that moves frames
abbrev pub AnswersNumber : {S T : Type 0} → mixport.Ghosts S → gates.Ghosts T → S × T → S × T
    → (PlaybackStream → ℕ) → ClientView → ClientView → Result ℕ PcmError → Type 0
AnswersNumber P G s t number c d answer =
    Calls P G s t c d answer call.Sync (number_course number c.stream c.ring)
    (Keeps P G s t c d answer AnySamples)
    (is_moving c.stream.status.state ≡ true
    → Explains P G s t c (λ position. c.stream) (sync_count c.stream)
    (λ load commit. with_number number (after_sync c.stream call.Sync load commit))
    (d.stream, answer))

-- a start, whose cause is given for a client that has frames
abbrev pub Starts : {S T : Type 0} → mixport.Ghosts S → gates.Ghosts T → S × T → S × T
    → ClientView → ClientView → Result (Unit {0}) PcmError → Type 0
Starts P G s t c d answer =
    Calls P G s t c d answer call.Start
    (start_course c.stream c.ring (P.view s.0).marks.cursor)
    (Keeps P G s t c d answer AnySamples)
    (0 < c.stream.stretch.written
    → Explains P G s t c
    (λ position. started_in c.stream Running position (P.view s.0).marks.cursor)
    (λ position. start_count c.stream (P.view s.0).marks.cursor position c.stream.stretch.written)
    (after_start c.stream Running (P.view s.0).marks.cursor) (d.stream, answer))

-- why a drain answered so
pub record ExplainsAnyDrain {S T : Type 0} (P : mixport.Ghosts S) (G : gates.Ghosts T) (s t : S × T)
    (c d : ClientView) (answer : Result (Unit {0}) PcmError) : Type 0 where
  -- `Again` comes exactly where the client drains on
  pub again : (answer ≡ Err Again)
      ↔ ((d.stream.status.state ≡ Draining) × (d.stream.status.stopped ≡ false))
  -- of a client that moves frames: its sync
  pub syncs : is_moving c.stream.status.state ≡ true
      → Explains P G s t (record { stream = in_draining c.stream; ring = c.ring })
      (λ position. in_draining c.stream) (sync_count (in_draining c.stream))
      (after_sync (in_draining c.stream) call.Drain) (d.stream, answer)
  -- of a prepared client with frames: its start, and, after one that went well, its sync
  pub starts : has_frames c.stream ≡ true
      → ExplainsDrain P G s t c (P.view s.0).marks.cursor (d.stream, answer)

-- a drain
abbrev pub Drains : {S T : Type 0} → mixport.Ghosts S → gates.Ghosts T → S × T → S × T
    → ClientView → ClientView → Result (Unit {0}) PcmError → Type 0
Drains P G s t c d answer =
    Calls P G s t c d answer call.Drain
    (drain_course c.stream c.ring (P.view s.0).marks.cursor)
    (Keeps P G s t c d answer AnySamples) (ExplainsAnyDrain P G s t c d answer)

-- why a pause, where it is `on`, or a resume answered so
pub record ExplainsPause {S T : Type 0} (P : mixport.Ghosts S) (G : gates.Ghosts T) (s t : S × T)
    (on : Bool) (c d : ClientView) (answer : Result (Unit {0}) PcmError) : Type 0 where
  -- a pause changes the state alone
  pub pauses : on ≡ true → (answer ≡ Ok tt)
      × (d ≡ record { stream = after_pause c.stream; ring = c.ring })
      × (t.0 ≡ s.0) × (t.1 ≡ s.1)
  -- a resume with pending frames is a start of these
  pub resumes : on ≡ false → 0 < pending_of c.stream
      → Explains P G s t (record { stream = with_new_base c.stream; ring = c.ring })
      (λ position. started_in (with_new_base c.stream) Running position (P.view s.0).marks.cursor)
      (λ position. start_count (with_new_base c.stream) (P.view s.0).marks.cursor position
      (pending_of c.stream))
      (after_resume c.stream (P.view s.0).marks.cursor) (d.stream, answer)

-- a pause or a resume, which may find a port that the client can't use, and may base its counts anew
abbrev pub Pauses : {S T : Type 0} → mixport.Ghosts S → gates.Ghosts T → S × T → S × T
    → Bool → ClientView → ClientView → Result (Unit {0}) PcmError → Type 0
Pauses P G s t on c d answer =
    Calls P G s t c d answer (pause_call on)
    (pause_course on c.stream c.ring (P.view s.0).marks.cursor)
    (CanUse c.stream (P.view s.0)
    → Keeps P G s t (record { stream = base_of c.stream d.stream; ring = c.ring }) d answer
    AnySamples)
    (ExplainsPause P G s t on c d answer)

-- a call that answers how many frames a rewind would take back, whose cause is given for a client that runs
abbrev pub CountsRewindable : {S T : Type 0} → mixport.Ghosts S → gates.Ghosts T → S × T → S × T
    → ClientView → ClientView → Result ℕ PcmError → Type 0
CountsRewindable P G s t c d answer =
    Calls P G s t c d answer call.Transfer
    (rewindable_course c.stream (P.view s.0).marks.floor)
    (Keeps P G s t c d answer AnySamples)
    (c.stream.status.state ≡ Running
    → ExplainsCheck P G s t c.stream
    (λ load. with_number (rewindable_of (P.view s.0).marks.floor)
    (after_sync c.stream call.Transfer load nothing))
    (d.stream, answer))

-- a rewind of so many frames, whose cause is given for a client that runs
abbrev pub Rewinds : {S T : Type 0} → mixport.Ghosts S → gates.Ghosts T → S × T → S × T
    → ℕ → ClientView → ClientView → Result ℕ PcmError → Type 0
Rewinds P G s t frames c d answer =
    Calls P G s t c d answer call.Transfer
    (rewind_course c.stream c.ring (P.view s.0).marks.floor frames)
    (KeepsBack P G s t c d answer)
    (c.stream.status.state ≡ Running
    → ExplainsRewind P G s t c.stream c.ring (P.view s.0).marks.floor frames (d.stream, answer))

-- a write of interleaved samples
pub record WritesFrames {S T : Type 0} (P : mixport.Ghosts S) (G : gates.Ghosts T) (s t : S × T)
    (samples : List ℤ) (c d : ClientView) (answer : Result ℕ PcmError) : Type 0 where
  -- what it loads, places and asks, in which order, and its answer, are those of its course
  pub takes : TakesAt P G s
      (if_admitted c.stream call.Transfer
      (write_course c.stream c.ring samples (P.view s.0).marks.cursor)) t (d.stream, answer)
  -- where the state refuses it, it answers the table's error and changes nothing
  pub refused : (e : PcmError) → refusal_of Playback c.stream.status call.Transfer ≡ Some e
      → (answer ≡ Err e) × (d ≡ c) × (t.0 ≡ s.0) × (t.1 ≡ s.1)
  -- the segment grew by exactly what was placed, with samples in which the offered frames come next
  pub keeps : Keeps P G s t c d answer
      (λ all. Follows c.stream all samples (frames_in c.stream samples))
  -- a prepared client has the frames that it takes in its local ring
  pub stores : refusal_of Playback c.stream.status call.Transfer ≡ None
      → c.stream.status.state ≡ Prepared
      → d.ring ≡ ring_with c.stream c.ring samples (taken_of c.stream (frames_in c.stream samples))
  -- a prepared client that thereby reaches its start threshold starts; why it answered so
  pub starts : refusal_of Playback c.stream.status call.Transfer ≡ None
      → c.stream.status.state ≡ Prepared
      → starts_with c.stream (frames_in c.stream samples) ≡ true
      → Explains P G s t (record { stream = c.stream; ring = d.ring })
      (λ position. started_in c.stream Running position (P.view s.0).marks.cursor)
      (λ position. start_count c.stream (P.view s.0).marks.cursor position
      (c.stream.stretch.written + taken_of c.stream (frames_in c.stream samples)))
      (λ load commit. accepted_if (taken_of c.stream (frames_in c.stream samples))
      (after_start c.stream Running (P.view s.0).marks.cursor load commit))
      (d.stream, answer)
  -- why a client that runs answered so, and when the write is to be made again
  pub again : refusal_of Playback c.stream.status call.Transfer ≡ None
      → c.stream.status.state ≡ Running
      → ExplainsWrite P G s t c.stream c.ring d.ring samples (frames_in c.stream samples)
      (d.stream, answer)
