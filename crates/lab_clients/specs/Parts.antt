-- What the lines of an open client did in a phase: its part of a run, its rows, and its segments.
use Rattle.std.specs.Prelude.{◌≡◌, ℕ, List, [], ◌∷◌, ◌++◌, Option, Some}
use Rattle.snd_base.specs.declared.geometry.Geometry.{Geometry}
use Rattle.snd_base.specs.declared.places.Segment.{Segment}
use Rattle.mix_core.specs.declared.gate.Gate as gates
use Rattle.mix_core.specs.declared.port.MixPort as mixport
use Rattle.wav_io.specs.Sound.{Sound}
use Rattle.lab_lines.specs.declared.line.Op.{Op}
use Rattle.lab_lines.specs.declared.row.Answer.{Answer}
use Rattle.lab_lines.specs.declared.row.Row.{Row}
use Rattle.lab_run.specs.ActorPart.{ActorPart, Doing}
use Rattle.lab_run.specs.Client.{Client, client_kind, row_by}
use Rattle.lab_run.specs.ClientAtPort.{IsClientLine}
use Rattle.lab_run.specs.GateAsks.{HasAsked}
use Rattle.lab_run.specs.Members.{with_member}
use Rattle.lab_run.specs.PortSteps.{IsAtPort}
use Rattle.lab_actors.specs.Shares.{left_in, stops_in, at_gate_in}
use Rattle.lab_clients.specs.declared.lines.ClientActor.{ClientActor}
use Rattle.lab_clients.specs.Lines.{ExtendsStretches}

-- the client of an actor, as a run has it
abbrev pub client_of : ClientActor → Client
client_of a = record { own = Some (with_member a.number a.client.stream); ended = a.ended.items }

-- what stays of an actor
abbrev pub IsSameClient : ClientActor → ClientActor → Type 0
IsSameClient a b = b.number ≡ a.number

-- lines were done at a port and a gate, after which it is so
pub record HasClientDone {S T : Type 0} (P : mixport.Ghosts S) (left : T → Option ℕ)
    (by_gate at_gate : T → ℕ) (first : S) (ring : Geometry) (from : ℕ) (t : S × T)
    (phase : ℕ) (wav : Sound) (number : ℕ) (before : Doing) (client : Client)
    (ops : List Op) (after : Client) (rows : List Row) : Type 0 where
  pub doing : Doing
  pub done : ActorPart (client_kind phase wav number) ring ((before.0, client), before.1)
      ops ((doing.0, after), doing.1) rows
  pub at : IsAtPort P left by_gate at_gate first ring from t doing

-- An actor did one line. Whichever state of the port is taken as the first, and up to whichever frame others used the port before: the line
-- is a line of the client, as a run has it.
pub record ClientLine {S T : Type 0} (P : mixport.Ghosts S) (left : T → Option ℕ) (by_gate at_gate : T → ℕ)
    (s t : S × T) (phase : ℕ) (wav : Sound) (a b : ClientActor) (asked : Op) : Type 0 where
  pub answer : Answer
  pub rows_are : b.rows.items ≡ a.rows.items
      ++ row_by phase a.number asked (Some b.client.stream) answer ∷ []
  pub line : (first : S) (ring : Geometry) (from : ℕ) (before : Doing)
      → IsAtPort P left by_gate at_gate first ring from s before
      → IsClientLine P left by_gate at_gate first ring from t phase wav a.number before
      (client_of a) asked (client_of b) answer
  pub ended : List Segment
  pub ended_are : b.ended.items ≡ a.ended.items ++ ended
  pub extends : ExtendsStretches P wav.samples s.0 t.0 a.client.stream b.client.stream ended
  pub same : IsSameClient a b

-- an actor did some lines, likewise
pub record ClientPart {S T : Type 0} (P : mixport.Ghosts S) (left : T → Option ℕ) (by_gate at_gate : T → ℕ)
    (s t : S × T) (phase : ℕ) (wav : Sound) (a b : ClientActor) (ops : List Op) : Type 0 where
  pub rows : List Row
  pub rows_are : b.rows.items ≡ a.rows.items ++ rows
  pub part : (first : S) (ring : Geometry) (from : ℕ) (before : Doing)
      → IsAtPort P left by_gate at_gate first ring from s before
      → HasClientDone P left by_gate at_gate first ring from t phase wav a.number before
      (client_of a) ops (client_of b) rows
  pub ended : List Segment
  pub ended_are : b.ended.items ≡ a.ended.items ++ ended
  pub extends : ExtendsStretches P wav.samples s.0 t.0 a.client.stream b.client.stream ended
  pub same : IsSameClient a b

-- an actor did some lines with its own gate, and asked it so often, but for the asks of kind Again
pub record ClientTurn {S T : Type 0} (P : mixport.Ghosts S) (G : gates.Ghosts T) (s t : S × T)
    (phase : ℕ) (wav : Sound) (a b : ClientActor) (ops : List Op) : Type 0 where
  pub asks : ℕ
  pub asked : HasAsked G.asked s.1 t.1 asks
  pub part : ClientPart P left_in stops_in at_gate_in (s.0, (a.left, G.stops s.1, 0))
      (t.0, (b.left, G.stops t.1, asks)) phase wav a b ops
