-- What a line of an open reader does at its port.
use Rattle.std.specs.Prelude.{◌≡◌, ℕ, ◌≤◌, ⊤, ℤ, All, Contains, List, ◌++◌, length, map, Option, Some}
use Rattle.snd_base.specs.declared.geometry.Geometry.{Geometry}
use Rattle.mix_core.specs.declared.gate.Gate as gates
use Rattle.mix_core.specs.declared.port.Position.{Position}
use Rattle.snoop_core.specs.declared.port.Frame.{Frame}
use Rattle.snoop_core.specs.declared.port.SnoopPort as snoopport
use Rattle.course.specs.AtSnoopPort.{TakesAtSnoop}
use Rattle.dsnoop_client.specs.declared.stream.CaptureStream.{CaptureStream}
use Rattle.dsnoop_client.specs.FewerReads.{most_read}
use Rattle.dsnoop_client.specs.Reads.{through_all}
use Rattle.dsnoop_client.specs.View.{CanUse}
use Rattle.lab_lines.specs.declared.line.Op.{Op}
use Rattle.lab_lines.specs.declared.line.Op.TheVariants as op
use Rattle.lab_lines.specs.declared.row.Answer.{Answer}
use Rattle.lab_run.specs.ActorPart.{Doing}
use Rattle.lab_run.specs.Reader.{call_of, frames_by}
use Rattle.lab_run.specs.ReaderAtPort.{IsAtSnoop, IsReaderLine}
use Rattle.lab_run.specs.Stretches.{got_by}
use Rattle.lab_readers.specs.Progress.{Progress}
use Rattle.lab_readers.specs.Room.{asked_by, wanted_by}

-- a line of at most so many frames as a call takes
abbrev pub IsFewRead : Op → Type 0
IsFewRead (op.Read frames) = frames ≤ 4194304
IsFewRead other = ⊤

-- Samples, interleaved, are those of the frames of these numbers through a reader's bindings. The port got each of these frames; it may have got
-- others, in a read that was answered by an error.
pub record AreSamples {S : Type 0} (P : snoopport.Ghosts S) (p q : S) (r : CaptureStream)
    (numbers : List ℕ) (samples : List ℤ) : Type 0 where
  pub got : List Frame
  pub got_them : P.got p q got
  pub frames : List Frame
  pub among : All (Contains got) frames
  pub numbers_are : map (λ (frame : Frame). frame.number) frames ≡ numbers
  pub whole : All (λ (frame : Frame). length frame.samples ≡ r.geometry.channels) frames
  pub samples_are : samples ≡ through_all r.setup.bindings frames

-- a port loaded some positions
pub record HasLoaded {S : Type 0} (P : snoopport.Ghosts S) (p q : S) : Type 0 where
  pub loads : List Position
  pub loaded_them : P.loaded p q loads

-- a reader has the ring and the setup that it had
pub record HasSameSetup (r after : CaptureStream) : Type 0 where
  pub same_ring : after.geometry ≡ r.geometry
  pub same_setup : after.setup ≡ r.setup

-- a line left the reader so: it can use its port, the frames that it read end before its next one, and their samples were appended
pub record HasRead {S : Type 0} (P : snoopport.Ghosts S) (p q : S) (r after : CaptureStream)
    (before samples : List ℤ) (asked : Op) (answer : Answer) : Type 0 where
  pub usable : CanUse after (P.view q)
  pub same : HasSameSetup r after
  pub below : got_by asked answer ≤ after.next
  pub more : List ℤ
  pub appended : samples ≡ before ++ more
  pub read : AreSamples P p q r (frames_by asked answer after) more

-- an open reader made the call that a line names
pub record HasReaderCalled {S T : Type 0} (P : snoopport.Ghosts S) (G : gates.Ghosts T)
    (s t : S × T) (r after : CaptureStream) (before samples : List ℤ)
    (asked : Op) (answer : Answer) : Type 0 where
  pub takes : TakesAtSnoop P G s (call_of r asked) t (after, answer)
  pub has_read : HasRead P s.0 t.0 r after before samples asked answer

-- An open reader was answered a line, with room for so many frames: whichever frames it had, it is its line as a run has it, where there was room for
-- those that the line may get. It made progress by the frames that it got, which are no more than the line asks for.
pub record HasReaderAnswered {S T : Type 0} (P : snoopport.Ghosts S) (left : T → Option ℕ)
    (by_gate at_gate : T → ℕ) (s t : S × T) (r after : CaptureStream) (before samples : List ℤ)
    (asked : Op) (spare : ℕ) (answer : Answer) : Type 0 where
  pub line : wanted_by (most_read r) asked ≤ spare
      → (phase number : ℕ) (frames : List ℕ) (first : S) (ring : Geometry) (doing : Doing)
      → IsAtSnoop P left by_gate at_gate first ring s doing
      → IsReaderLine P left by_gate at_gate first ring t phase number doing
      (record { own = Some r; frames = frames })
      asked (record { own = Some after; frames = frames ++ frames_by asked answer after }) answer
  pub has_read : HasRead P s.0 t.0 r after before samples asked answer
  pub loaded : HasLoaded P s.0 t.0
  pub progress : Progress (got_by asked answer) r after (P.view s.0) (P.view t.0)
  pub few : got_by asked answer ≤ asked_by asked
