use Rattle.lab_clients.specs.Prelude.{arith, subst, sym, take, ℕ, ◌∙◌, ◌≡◌, take_all, Bool, false, true, Line, is_client, ops_by, at_gate_of, by_gate_of}
use Rattle.lab_clients.specs.Prelude.{left_of, KeepsGate-joined, KeepsGate-none, both, line_at, other-line, own-line, room-next, room-own}
use Rattle.lab_clients.proofs.PartLaws.{ClientPart-more, ClientPart-none}
use Rattle.lab_clients.proofs.lines.ClientActor.do_lines.Goals.{else-is_of, then-is_of}
use Rattle.lab_clients.proofs.lines.ClientActor.do_lines.Goals as goal

pub loop-index-init : goal.loop-index-init
loop-index-init g c = record {
  part = ClientPart-none g.P.MixPort g.met.P.MixPort.laid_composes left_of (by_gate_of g.G.Gate.stops) at_gate_of (both c.args.port.now c.args.gate.now) c.args.phase c.args.wav.now c.args.self.now;
  ready = c.requires.ready;
  own_gate = KeepsGate-none g.G.Gate.asked c.args.gate.now;
  rows_room = let room = c.requires.rows_room in omega (arith, room);
  ended_room = let room = c.requires.ended_room in omega (arith, room);
}

pub do_line-requires : goal.do_line-requires
do_line-requires g c =
    let lines = c.args.lines.now in
    let index = c.loop-index.index in
    let line : Line = line_at lines index in
    let within = c.loop-index-test.true in
    let before = c.loop-index.invariant in
    let x = c.loop-index.self in
    let mine = is_client c.args.self.now.number in
    let own : mine line.actor ≡ true = subst (λ (n : ℕ). is_client n line.actor ≡ true) before.part.same (sym c.is_of.ensures ∙ c.if-is_of.true) in
    record {
      few = c.requires.few index _ within;
      ready = before.ready;
      rows_room = room-own mine lines index x.rows within before.rows_room own;
      ended_room = room-own mine lines index x.ended within before.ended_room own;
    }

pub loop-index-preserved : goal.loop-index-preserved
loop-index-preserved g c =
    let lines = c.args.lines.now in
    let index = c.loop-index.index in
    let line : Line = line_at lines index in
    let within = c.loop-index-test.true in
    let before = c.loop-index.invariant in
    let x = c.loop-index.self in
    let mine = is_client c.args.self.now.number in
    let mine_is : (test : Bool) → c.is_of.result ≡ test → mine line.actor ≡ test =
    λ test is_test. subst (λ (n : ℕ). is_client n line.actor ≡ test) before.part.same (sym c.is_of.ensures ∙ is_test) in
    elim c.if-is_of.branch [
      | then-is_of w ↦
          let own = mine_is true w.if-is_of.true in
          let did = w.do_line.ensures in
          rw (w.self-is, w.port-is, w.gate-is) (record {
            part = rw (own-line mine lines index within own)
                (ClientPart-more g.P.MixPort g.met.P.MixPort.laid_composes left_of (by_gate_of g.G.Gate.stops) at_gate_of c.parts_grow.ensures.clients (both c.args.port.now c.args.gate.now)
                (both c.loop-index.port c.loop-index.gate) (both w.do_line.new.port w.do_line.new.gate) c.args.phase c.args.wav.now c.args.self.now x w.do_line.new.self
                (ops_by mine (take index lines)) line.op before.part did.line);
            ready = did.ready;
            own_gate = KeepsGate-joined g.G.Gate.asked c.args.gate.now c.loop-index.gate w.do_line.new.gate before.own_gate did.own_gate;
            rows_room = room-next mine lines index x.rows w.do_line.new.self.rows within own before.rows_room did.rows_room;
            ended_room = room-next mine lines index x.ended w.do_line.new.self.ended within own before.ended_room did.ended_room;
          })
      | else-is_of w ↦
          let other = mine_is false w.if-is_of.false in
          rw (w.self-is, w.port-is, w.gate-is, other-line mine lines index within other) before
    ]

pub returns : goal.returns
returns g c =
    let past = c.loop-index-test.false in
    record {
      part = rw (take_all c.loop-index.index c.args.lines.now (omega (arith, past))) at c.loop-index.invariant.part;
      ready = c.loop-index.invariant.ready;
      own_gate = c.loop-index.invariant.own_gate;
    }
