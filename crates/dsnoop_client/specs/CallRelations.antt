-- What each call of a reader that takes steps at a port does: a relation between port, gate and reader before and after, and the call's
-- answer. Each is `Calls` with the call's own course and cause, but for a read, `ReadsFrames`, which has more fields; its `takes` says the
-- same as that of `Calls`, and its `refused` also that the room is as it was.
use Rattle.std.specs.Prelude.{◌≡◌, ℕ, true, ℤ, List, None, Some, Result, Err}
use Rattle.snd_base.specs.declared.errors.PcmError.{PcmError}
use Rattle.mix_core.specs.declared.gate.Gate as gates
use Rattle.snoop_core.specs.declared.port.SnoopPort as snoopport
use Rattle.course.specs.AtSnoopPort.{TakesAtSnoop}
use Rattle.course.specs.Course.{Course}
use Rattle.pcm_states.specs.declared.calls.Call.{Call}
use Rattle.pcm_states.specs.declared.calls.Call.TheVariants as call
use Rattle.pcm_stream.specs.declared.direction.Direction.TheVariants.{Capture}
use Rattle.pcm_stream.specs.Status.{refusal_of}
use Rattle.dsnoop_client.specs.declared.stream.CaptureStream.{CaptureStream}
use Rattle.dsnoop_client.specs.Calls.{Answered, waits as wait_answer}
use Rattle.dsnoop_client.specs.Causes.{Explains, ExplainsRead}
use Rattle.dsnoop_client.specs.Course.{avail_course, if_admitted, read_course, starts, sync_course}
use Rattle.dsnoop_client.specs.Port.{Asks, Keeps}
use Rattle.dsnoop_client.specs.Reads.{GivesFrames}
use Rattle.dsnoop_client.specs.View.{LoadsFor, frames_in, is_running}

-- a call of a reader `c`, which it left as `d`: by its place in the state table, its course, and why it answered so once the table
-- admitted it (`Cause`)
pub record Calls {S T X : Type 0} (P : snoopport.Ghosts S) (G : gates.Ghosts T) (s t : S × T)
    (c d : CaptureStream) (answer : Result X PcmError) (call : Call) (course : Course (Answered X))
    (Cause : Type 0) : Type 0 where
  -- what it loads and asks, in which order, and its answer, are those of its course
  pub takes : TakesAtSnoop P G s (if_admitted c call course) t (d, answer)
  -- where the state refuses it, it answers the table's error and changes nothing
  pub refused : (e : PcmError) → refusal_of Capture c.status call ≡ Some e
      → (answer ≡ Err e) × (d ≡ c) × (t.0 ≡ s.0) × (t.1 ≡ s.1)
  -- what `Keeps` says: the counts fit each other, the reader can use the port again, its ring and its setup are the same, it is stopped
  -- exactly where it answers `Stopped`, and, where it wasn't stopped before, the gate's count of stops rises by one exactly there
  pub keeps : Keeps P G s t c d answer
  -- why it answered so
  pub causes : refusal_of Capture c.status call ≡ None → Cause

-- a sync, whose cause is given for a reader that runs
abbrev pub Syncs : {S T : Type 0} → snoopport.Ghosts S → gates.Ghosts T → S × T → S × T
    → CaptureStream → CaptureStream → Result (Unit {0}) PcmError → Type 0
Syncs P G s t c d answer =
    Calls P G s t c d answer call.Sync (sync_course c)
    (is_running c.status.state ≡ true → Explains P s.0 t.0 c d answer)

-- a sync that answers how many frames can be read, and whose cause is given for a reader that runs
abbrev pub AnswersAvail : {S T : Type 0} → snoopport.Ghosts S → gates.Ghosts T → S × T → S × T
    → CaptureStream → CaptureStream → Result ℕ PcmError → Type 0
AnswersAvail P G s t c d answer =
    Calls P G s t c d answer call.Sync (avail_course c)
    (is_running c.status.state ≡ true → Explains P s.0 t.0 c d answer)

-- a start
abbrev pub Starts : {S T : Type 0} → snoopport.Ghosts S → gates.Ghosts T → S × T → S × T
    → CaptureStream → CaptureStream → Result (Unit {0}) PcmError → Type 0
Starts P G s t c d answer =
    Calls P G s t c d answer call.Start (starts c call.Start) (Explains P s.0 t.0 c d answer)

-- a read into a room for interleaved samples: what the room holds `before` the read and `after` it, which may be the same
pub record ReadsFrames {S T : Type 0} (P : snoopport.Ghosts S) (G : gates.Ghosts T) (s t : S × T)
    (before after : List ℤ) (c d : CaptureStream) (answer : Result ℕ PcmError) : Type 0 where
  -- what it loads and asks, in which order, and its answer, are those of its course
  pub takes : TakesAtSnoop P G s
      (if_admitted c call.Transfer (read_course c (frames_in c before))) t (d, answer)
  -- where the state refuses it, it answers the table's error and changes nothing
  pub refused : (e : PcmError) → refusal_of Capture c.status call.Transfer ≡ Some e
      → (answer ≡ Err e) × (d ≡ c) × (t.0 ≡ s.0) × (t.1 ≡ s.1) × (after ≡ before)
  -- where the read is Ok, the frames that the port got are at the beginning of the room, through the bindings, and the rest of the room is
  -- as it was
  pub reads : GivesFrames P s.0 t.0 c d before after answer
  -- what `Keeps` says: the counts fit each other, the reader can use the port again, its ring and its setup are the same, it is stopped
  -- exactly where it answers `Stopped`, and, where it wasn't stopped before, the gate's count of stops rises by one exactly there
  pub keeps : Keeps P G s t c d answer
  -- one that needs no load changes nothing
  pub waits : refusal_of Capture c.status call.Transfer ≡ None
      → (LoadsFor c (frames_in c before) → ⊥)
      → (answer ≡ wait_answer (frames_in c before)) × (d ≡ c) × (t.0 ≡ s.0) × (t.1 ≡ s.1)
      × (after ≡ before)
  -- why one that loads the position answered so
  pub causes : refusal_of Capture c.status call.Transfer ≡ None → LoadsFor c (frames_in c before)
      → ExplainsRead P s.0 t.0 c d (frames_in c before) answer
  -- and what it asked the gate
  pub asks : refusal_of Capture c.status call.Transfer ≡ None → LoadsFor c (frames_in c before)
      → Asks G s.1 t.1 d (frames_in c before) answer
