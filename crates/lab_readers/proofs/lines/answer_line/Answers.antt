use Rattle.lab_readers.specs.Prelude.{arith, sym, ◌∙◌, at_gate_of, by_gate_of, KeepsGate, left_of, CountsAsks-down, CountsAsks-keeps, KeepsGate-joined}
use Rattle.lab_readers.specs.Prelude.{KeepsGate-none, KeepsGate-passing, both, TakesAtSnoop-gate, is_die-other, spare_frames}
use Rattle.lab_readers.proofs.Answered.{answered-call, answered-die, answered-stopped}
use Rattle.lab_readers.proofs.lines.answer_line.Goals as goal

pub returns-then-is_stopped : goal.returns-then-is_stopped
returns-then-is_stopped g c = record {
  answered = answered-stopped g.P.SnoopPort g.met.P.SnoopPort.got_composes g.met.P.SnoopPort.loaded_composes left_of (by_gate_of g.G.Gate.stops) at_gate_of c.lines_without_calls.ensures.readers
      (both c.args.port.now c.args.gate.now) c.args.reader.now c.args.samples.now.items c.args.asked (spare_frames c.args.reader.now c.args.samples.now)
      (sym c.is_stopped.ensures ∙ c.if-is_stopped.true) c.requires.usable;
  own_gate = KeepsGate-none g.G.Gate.asked c.args.gate.now;
  room = omega arith;
}

pub returns-in-Die : goal.returns-in-Die
returns-in-Die g c = record {
  answered = rw c.in-Die.is
      (answered-die g.P.SnoopPort g.met.P.SnoopPort.got_composes g.met.P.SnoopPort.loaded_composes left_of (by_gate_of g.G.Gate.stops) at_gate_of c.lines_without_calls.ensures.readers
      c.args.port.now c.args.gate.now c.let_pass.new.self c.args.reader.now c.args.samples.now.items _ (spare_frames c.args.reader.now c.args.samples.now)
      (sym c.is_stopped.ensures ∙ c.if-is_stopped.false) c.let_pass.ensures.left c.let_pass.ensures.by_gate c.let_pass.ensures.at_gate c.requires.usable);
  own_gate = KeepsGate-passing g.G.Gate.asked c.args.gate.now c.let_pass.new.self c.let_pass.ensures.same_gate c.let_pass.ensures.gate c.let_pass.ensures.at_gate;
  room = omega arith;
}

pub returns : goal.returns
returns g c =
    let P = g.P.SnoopPort in
    let stops = g.G.Gate.stops in
    let asked = g.G.Gate.asked in
    let s = both c.args.port.now c.args.gate.now in
    let t = both c.call_fitting.new.port c.call_fitting.new.gate in
    record {
      answered = answered-call P g.met.P.SnoopPort.got_composes g.met.P.SnoopPort.loaded_composes left_of (by_gate_of stops) at_gate_of _
          (λ first ring. c.reader_lines_are_parts.ensures left_of (by_gate_of stops) at_gate_of first ring (CountsAsks-down stops asked))
          s t c.args.reader.now c.call_fitting.new.reader c.args.samples.now.items c.call_fitting.new.samples.items c.args.asked (spare_frames c.args.reader.now c.args.samples.now) c.call_fitting.result
          (sym c.is_stopped.ensures ∙ c.if-is_stopped.false) (is_die-other c.args.asked c.in_default.not-Die) c.call_fitting.ensures.called;
      own_gate = TakesAtSnoop-gate P _ (KeepsGate asked) (KeepsGate-none asked) (KeepsGate-joined asked)
          (λ h k kinds pass asks. CountsAsks-keeps asked stops h k kinds pass asks) s t _ _ c.call_fitting.ensures.called.takes;
      room = c.call_fitting.ensures.room;
    }
