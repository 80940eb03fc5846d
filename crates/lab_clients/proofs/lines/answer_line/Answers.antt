use Rattle.lab_clients.specs.Prelude.{subst, sym, ◌∙◌, Op, Done, at_gate_of, by_gate_of, KeepsGate, left_of, CountsAsks-down, CountsAsks-keeps}
use Rattle.lab_clients.specs.Prelude.{KeepsGate-joined, KeepsGate-none, KeepsGate-passing, both, TakesAt-gate, is_die-other, HasClientAnswered}
use Rattle.lab_clients.proofs.Answered.{answered-call, answered-die, answered-stopped}
use Rattle.lab_clients.proofs.lines.answer_line.Goals as goal

pub returns-then-is_stopped-clause-answered : goal.returns-then-is_stopped-clause-answered
returns-then-is_stopped-clause-answered g c =
    answered-stopped g.P.MixPort g.met.P.MixPort.laid_composes left_of (by_gate_of g.G.Gate.stops) at_gate_of c.lines_without_calls.ensures.clients
    (both c.args.port.now c.args.gate.now) c.args.wav.now c.args.client.now c.args.asked (sym c.is_stopped.ensures ∙ c.if-is_stopped.true) c.requires.ready

pub returns-then-is_stopped-clause-own_gate : goal.returns-then-is_stopped-clause-own_gate
returns-then-is_stopped-clause-own_gate g c = KeepsGate-none g.G.Gate.asked c.args.gate.now

pub returns-in-Die : goal.returns-in-Die
returns-in-Die g c = record {
  answered = subst (λ (asked : Op). HasClientAnswered g.P.MixPort left_of (by_gate_of g.G.Gate.stops) at_gate_of (both c.args.port.now c.args.gate.now) (both c.args.port.now c.let_pass.new.self) c.args.wav.now c.args.client.now c.args.client.now asked Done)
      (sym c.in-Die.is)
      (answered-die g.P.MixPort g.met.P.MixPort.laid_composes left_of (by_gate_of g.G.Gate.stops) at_gate_of c.lines_without_calls.ensures.clients
      c.args.port.now c.args.gate.now c.let_pass.new.self c.args.wav.now c.args.client.now _ (sym c.is_stopped.ensures ∙ c.if-is_stopped.false) c.let_pass.ensures.left c.let_pass.ensures.by_gate c.let_pass.ensures.at_gate c.requires.ready);
  own_gate = KeepsGate-passing g.G.Gate.asked c.args.gate.now c.let_pass.new.self c.let_pass.ensures.same_gate c.let_pass.ensures.gate c.let_pass.ensures.at_gate;
}

pub call-requires : goal.call-requires
call-requires g c = record { few = c.requires.few; unstopped = sym c.is_stopped.ensures ∙ c.if-is_stopped.false; ready = c.requires.ready }

pub returns : goal.returns
returns g c =
    let P = g.P.MixPort in
    let stops = g.G.Gate.stops in
    let asked = g.G.Gate.asked in
    let s = both c.args.port.now c.args.gate.now in
    let t = both c.call.new.port c.call.new.gate in
    record {
      answered = answered-call P g.met.P.MixPort.laid_composes left_of (by_gate_of stops) at_gate_of _
          (λ first ring from. c.client_lines_are_parts.ensures left_of (by_gate_of stops) at_gate_of first ring from (CountsAsks-down stops asked))
          s t c.args.wav.now c.args.client.now c.call.new.client c.args.asked c.call.result
          (sym c.is_stopped.ensures ∙ c.if-is_stopped.false) (is_die-other c.args.asked c.in_default.not-Die) c.call.ensures;
      own_gate = TakesAt-gate P _ (KeepsGate asked) (KeepsGate-none asked) (KeepsGate-joined asked)
          (λ h k kinds pass asks. CountsAsks-keeps asked stops h k kinds pass asks) s t _ _ c.call.ensures.takes;
    }
