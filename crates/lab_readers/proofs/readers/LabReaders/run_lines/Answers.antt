use Rattle.lab_readers.specs.Prelude.{arith, length, refl, slice_set, ◌<◌, ◌∙◌, ◌≢◌, get_or-set_other, AsksGateAt-other, AsksGateAt-set, AreEach-ended}
use Rattle.lab_readers.specs.Prelude.{HasWalked-map, HasWalked-none, HasWalked-read, readers_of, RunsLines, RunsAt}
use Rattle.lab_readers.proofs.readers.LabReaders.run_lines.Goals as goal

pub loop-index-init : goal.loop-index-init
loop-index-init g c = record {
  spare = refl;
  walked = HasWalked-none (RunsAt g.G.Gate c.args.gates.now c.args.gates.now c.args.phase c.args.lines.now) (readers_of c.args.self.now);
  beyond = λ i e from. refl;
}

pub loop-index-preserved : goal.loop-index-preserved
loop-index-preserved g c =
    let G = g.G.Gate in let phase = c.args.phase in let lines = c.args.lines.now in
    let index = c.loop-index.index in let before = readers_of c.args.self.now in let reader = c.index_mut.result.now in let after = c.run_lines.new.self in
    let first = c.args.gates.now in let gates = c.loop-index.gates in let gate = c.run_lines.new.gate in let now = slice_set gates index gate in
    let inside : index < length before = omega arith in
    let behind : index < length gates = omega arith in
    let had : index < length first = omega (arith, inside, c.requires.gates) in
    let so_far = c.loop-index.invariant in
    record {
      spare = so_far.spare;
      walked = HasWalked-read c.args.self.now.readers c.loop-index.self.readers after reader c.len-index-end.ensures c.loop-index-test.true
          (HasWalked-map (RunsAt G first gates phase lines) (RunsAt G first now phase lines) before (readers_of c.loop-index.self) index
          (λ j r s below run. let other : j ≢ index = omega arith in
          AsksGateAt-other G first gates j index gate (λ stops later asks. RunsLines phase stops later asks lines r s) other run) so_far.walked)
          c.index_mut.ensures.value
          (AsksGateAt-set G first gates index c.index-gates-index.result gate (λ stops later asks. RunsLines phase stops later asks lines reader after) had behind
          (so_far.beyond index c.index-gates-index.result (omega arith)) c.run_lines.ensures);
      beyond = λ j e from. let other : j ≢ index = omega arith in
          get_or-set_other gates index j gate e other ∙ so_far.beyond j e (omega arith);
    }

pub returns : goal.returns
returns g c =
    let l = c.loop-index in
    record {
      spare = l.invariant.spare;
      each = AreEach-ended c.args.self.now.readers l.self.readers c.len-index-end.ensures c.loop-index-test.false l.invariant.walked;
    }
