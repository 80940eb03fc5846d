use Rattle.lab_clients.specs.Prelude.{length, take, vec_capacity, vec_len, ◌+◌, ◌≤◌, is_client, ops_by, at_gate_of, by_gate_of, KeepsGate, left_of, line_count}
use Rattle.lab_clients.specs.Prelude.{IsReady, ClientPart}
use Rattle.lab_lines.specs.declared.line.Actor.TheVariants as actor
use Rattle.lab_clients.proofs.lines.ClientActor.do_lines.Given as goal

abbrev pub invariant-loop-index : goal.invariant-loop-index
invariant-loop-index g l = record {
  part : ClientPart g.P.MixPort left_of (by_gate_of g.G.Gate.stops) at_gate_of (l.fn.port, l.fn.gate) (l.port, l.gate) l.phase l.wav l.fn.self l.self (ops_by (is_client l.fn.self.number) (take l.index l.lines));
  ready : IsReady g.P.MixPort l.wav l.port l.self.client;
  own_gate : KeepsGate g.G.Gate.asked l.fn.gate l.gate;
  rows_room : vec_len l.self.rows + line_count (actor.Client l.fn.self.number) l.lines ≤ vec_capacity l.self.rows + length (ops_by (is_client l.fn.self.number) (take l.index l.lines));
  ended_room : vec_len l.self.ended + line_count (actor.Client l.fn.self.number) l.lines ≤ vec_capacity l.self.ended + length (ops_by (is_client l.fn.self.number) (take l.index l.lines));
}
