use Rattle.lab_readers.specs.Prelude.{length, take, vec_capacity, vec_len, ◌+◌, ◌≤◌, CanUse, is_reader, ops_by, played_in, at_gate_of, by_gate_of, KeepsGate}
use Rattle.lab_readers.specs.Prelude.{left_of, HasGot, ReaderPart}
use Rattle.lab_readers.proofs.lines.ReaderActor.do_lines.Given as goal

abbrev pub invariant-loop-index : goal.invariant-loop-index
invariant-loop-index g l = record {
  part : ReaderPart g.P.SnoopPort left_of (by_gate_of g.G.Gate.stops) at_gate_of (l.fn.port, l.fn.gate) (l.port, l.gate) l.phase (played_in l.lines) l.fn.self l.self (ops_by (is_reader l.fn.self.number) (take l.index l.lines));
  usable : CanUse l.self.reader (g.P.SnoopPort.view l.port);
  own_gate : KeepsGate g.G.Gate.asked l.fn.gate l.gate;
  rows_room : vec_len l.self.rows + length (ops_by (is_reader l.fn.self.number) l.lines) ≤ vec_capacity l.self.rows + length (ops_by (is_reader l.fn.self.number) (take l.index l.lines));
  runs_room : length (ops_by (is_reader l.fn.self.number) l.lines) ≤ l.self.frames.room + length (ops_by (is_reader l.fn.self.number) (take l.index l.lines));
  got : HasGot (g.P.SnoopPort.view l.fn.port) (g.P.SnoopPort.view l.port) l.fn.self l.self (ops_by (is_reader l.fn.self.number) (take l.index l.lines));
}
