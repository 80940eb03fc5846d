-- A reader's line, as the reader did it at its port: the part that it has of a run.
use Rattle.std.specs.Prelude.{◌≡◌, ℕ, ◌≤◌, true, false, [], Option, Some, None}
use Rattle.snd_base.specs.declared.errors.PcmError.TheVariants.{BadState, Stopped}
use Rattle.snd_base.specs.declared.geometry.Geometry.{Geometry}
use Rattle.mix_core.specs.declared.gate.Gate as gates
use Rattle.snoop_core.specs.declared.port.SnoopPort as snoopport
use Rattle.snoop_core.specs.Port.{IsPast}
use Rattle.course.specs.AtSnoopPort.{TakesAtSnoop}
use Rattle.dsnoop_client.specs.declared.stream.CaptureStream.{CaptureStream}
use Rattle.lab_lines.specs.declared.line.Op.{Op}
use Rattle.lab_lines.specs.declared.line.Op.TheVariants as op
use Rattle.lab_lines.specs.declared.row.Answer.{Answer}
use Rattle.lab_lines.specs.declared.row.Answer.TheVariants.{Done, Failed}
use Rattle.lab_run.specs.ActorPart.{Doing, Each, Findings, LineDone}
use Rattle.lab_run.specs.ClientAtPort.{is_die}
use Rattle.lab_run.specs.Reader.{Reader, after_call, call_of, reader_kind}
use Rattle.lab_run.specs.Rules.{AtPort}

-- an actor at a port to captured frames, with what it found since a first state of the port
pub record IsAtSnoop {S T : Type 0} (P : snoopport.Ghosts S) (left : T → Option ℕ)
    (by_gate at_gate : T → ℕ) (first : S) (ring : Geometry) (s : S × T) (doing : Doing) : Type 0 where
  pub geometry : (P.view s.0).geometry ≡ ring
  pub seen : doing.0.seen ≤ (P.view s.0).seen
  pub left_is : doing.0.left ≡ left s.1
  pub by_gate_is : doing.0.by_gate ≡ by_gate s.1
  pub at_gate_is : doing.0.at_gate ≡ at_gate s.1
  pub loads : P.loaded first s.0 doing.1.loads
  pub late : doing.1.late ≡ []
  pub overtaken : Each
      (λ (place : ℕ × ℕ). (word : ℕ) × IsPast P.view P.shows s.0 place.0 place.1 word)
      doing.1.overtaken

-- a line makes a call of an open reader: it isn't stopped, and the line isn't a `die`
pub record ReadsBy (reader : Reader) (r : CaptureStream) (asked : Op) : Type 0 where
  pub is_open : reader.own ≡ Some r
  pub goes : r.status.stopped ≡ false
  pub asks : is_die asked ≡ false

-- a line of a reader was done at a port, after which it is so
pub record IsReaderLine {S T : Type 0} (P : snoopport.Ghosts S) (left : T → Option ℕ)
    (by_gate at_gate : T → ℕ) (first : S) (ring : Geometry) (t : S × T)
    (phase : ℕ) (number : ℕ) (before : Doing) (reader : Reader) (asked : Op)
    (after : Reader) (answer : Answer) : Type 0 where
  pub doing : Doing
  pub done : LineDone (reader_kind phase number) ring ((before.0, reader), before.1)
      asked ((doing.0, after), doing.1) answer
  pub at : IsAtSnoop P left by_gate at_gate first ring t doing

-- each line that makes a call is a part of its reader
abbrev pub ReaderLinesAreParts : {S T : Type 0} → snoopport.Ghosts S → gates.Ghosts T
    → (T → Option ℕ) → (T → ℕ) → (T → ℕ) → S → Geometry → Type 0
ReaderLinesAreParts {S = S} {T = T} P G left by_gate at_gate first ring =
    (s t : S × T) (phase number : ℕ) (before : Doing) (reader : Reader)
    (r : CaptureStream) (asked : Op) (after : CaptureStream) (answer : Answer)
    → ReadsBy reader r asked → IsAtSnoop P left by_gate at_gate first ring s before
    → TakesAtSnoop P G s (call_of r asked) t (after, answer)
    → IsReaderLine P left by_gate at_gate first ring t phase number before reader asked
    (after_call reader asked (after, answer)).0 answer

-- the lines that make no call: of a reader that isn't open, of one that was stopped in this phase, and a `die`
pub record ReaderLinesWithoutCall (ring : Geometry) (phase number : ℕ) : Type 0 where
  pub closed : (a : AtPort) (found : Findings) (reader : Reader) (asked : Op) → reader.own ≡ None
      → LineDone (reader_kind phase number) ring ((a, reader), found) asked
      ((a, reader), found) (Failed BadState)
  pub stopped : (a : AtPort) (found : Findings) (reader : Reader) (r : CaptureStream) (asked : Op)
      → reader.own ≡ Some r → r.status.stopped ≡ true
      → LineDone (reader_kind phase number) ring ((a, reader), found) asked
      ((a, reader), found) (Failed Stopped)
  pub dies : (a : AtPort) (found : Findings) (reader : Reader) (r : CaptureStream) (k : ℕ)
      → reader.own ≡ Some r → r.status.stopped ≡ false
      → LineDone (reader_kind phase number) ring ((a, reader), found) (op.Die k)
      ((record a { left = Some k }, reader), found) Done
