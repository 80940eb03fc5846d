use Rattle.lab_readers.specs.Prelude.{ap, arith, length, subst, sym, take, ℕ, ◌+◌, ◌∙◌, ◌≡◌, ◌≤◌, take_all, Bool, false, true, Line, is_reader, ops_by}
use Rattle.lab_readers.specs.Prelude.{played_in, at_gate_of, by_gate_of, left_of, KeepsGate-joined, KeepsGate-none, both, few-lines, line_at, other-line}
use Rattle.lab_readers.specs.Prelude.{own-line, own-size, room-next, room-own, channels_of}
use Rattle.pcm_stream.specs.declared.setup.Setup.{Setup}
use Rattle.lab_readers.proofs.AskedFrames.{asked-within}
use Rattle.lab_readers.proofs.PartLaws.{HasGot-more, HasGot-none, ReaderPart-more, ReaderPart-none, line-fits}
use Rattle.lab_readers.proofs.lines.ReaderActor.do_lines.Goals.{else-is_of, then-is_of}
use Rattle.lab_readers.proofs.lines.ReaderActor.do_lines.Goals as goal

pub loop-index-init : goal.loop-index-init
loop-index-init g c = record {
  part = ReaderPart-none g.P.SnoopPort g.met.P.SnoopPort.got_composes g.met.P.SnoopPort.loaded_composes left_of (by_gate_of g.G.Gate.stops) at_gate_of (both c.args.port.now c.args.gate.now) c.args.phase (played_in c.args.lines.now) c.args.self.now;
  usable = c.requires.usable;
  own_gate = KeepsGate-none g.G.Gate.asked c.args.gate.now;
  rows_room = let room = c.requires.room.lines.rows in omega (arith, room);
  runs_room = let room = c.requires.room.lines.runs in omega (arith, room);
  got = HasGot-none (g.P.SnoopPort.view c.args.port.now) c.args.self.now;
}

pub do_line-requires : goal.do_line-requires
do_line-requires g c =
    let lines = c.args.lines.now in
    let index = c.loop-index.index in
    let line : Line = line_at lines index in
    let within = c.loop-index-test.true in
    let before = c.loop-index.invariant in
    let x = c.loop-index.self in
    let mine = is_reader c.args.self.now.number in
    let own : mine line.actor ≡ true = subst (λ (n : ℕ). is_reader n line.actor ≡ true) before.part.same.number (sym c.is_of.ensures ∙ c.if-is_of.true) in
    record {
      few = c.requires.few index _ within;
      usable = before.usable;
      room = record {
        rows = room-own mine lines index x.rows within before.rows_room own;
        runs = (let room = before.runs_room in omega (arith, room, own-size mine lines index within own, few-lines mine lines (index + 1)));
      };
    }

pub loop-index-preserved : goal.loop-index-preserved
loop-index-preserved g c =
    let lines = c.args.lines.now in
    let index = c.loop-index.index in
    let line : Line = line_at lines index in
    let within = c.loop-index-test.true in
    let before = c.loop-index.invariant in
    let x = c.loop-index.self in
    let mine = is_reader c.args.self.now.number in
    let mine_is : (test : Bool) → c.is_of.result ≡ test → mine line.actor ≡ test =
    λ test is_test. subst (λ (n : ℕ). is_reader n line.actor ≡ test) before.part.same.number (sym c.is_of.ensures ∙ is_test) in
    let view = g.P.SnoopPort.view in
    let played = played_in lines in
    let done = ops_by mine (take index lines) in
    let some : 1 ≤ channels_of x = (let first = c.channels-channels.ensures in
    let same : channels_of x ≡ channels_of c.args.self.now = ap (λ (setup : Setup). length setup.bindings) before.part.same.setup.same_setup in
    omega (arith, first.value, first.some, same)) in
    elim c.if-is_of.branch [
      | then-is_of w ↦
          let own = mine_is true w.if-is_of.true in
          let did = w.do_line.ensures in
          let b = w.do_line.new.self in
          rw (w.self-is, w.port-is, w.gate-is) (record {
            part = rw (own-line mine lines index within own)
                (ReaderPart-more g.P.SnoopPort g.met.P.SnoopPort.got_composes g.met.P.SnoopPort.loaded_composes left_of (by_gate_of g.G.Gate.stops) at_gate_of c.parts_grow.ensures.readers
                (both c.args.port.now c.args.gate.now) (both c.loop-index.port c.loop-index.gate) (both w.do_line.new.port w.do_line.new.gate) c.args.phase played c.args.self.now x b done line.op
                did.got.progress.rising
                (λ most. line-fits played (view c.args.port.now) (view c.loop-index.port) c.args.self.now x (ops_by mine lines) done line.op some before.part.same before.got
                (asked-within mine lines index within own) c.requires.room.samples most)
                before.part did.line);
            usable = did.usable;
            own_gate = KeepsGate-joined g.G.Gate.asked c.args.gate.now c.loop-index.gate w.do_line.new.gate before.own_gate did.own_gate;
            rows_room = room-next mine lines index x.rows b.rows within own before.rows_room did.room.rows;
            runs_room = (let room = before.runs_room in let one = did.room.runs in omega (arith, room, one, own-size mine lines index within own));
            got = rw (own-line mine lines index within own)
                (HasGot-more (view c.args.port.now) (view c.loop-index.port) (view w.do_line.new.port) c.args.self.now x b done line.op before.part.same before.got did.got);
          })
      | else-is_of w ↦
          let other = mine_is false w.if-is_of.false in
          rw (w.self-is, w.port-is, w.gate-is, other-line mine lines index within other) before
    ]

pub returns : goal.returns
returns g c =
    let past = c.loop-index-test.false in
    record {
      part = rw (take_all c.loop-index.index c.args.lines.now (omega (arith, past))) at c.loop-index.invariant.part;
      usable = c.loop-index.invariant.usable;
      own_gate = c.loop-index.invariant.own_gate;
    }
