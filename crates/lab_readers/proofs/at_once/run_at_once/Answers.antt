use Rattle.lab_readers.specs.Prelude.{arith, rules, slice_index_or, AsksGate, AsksGateAt-index, RunsLines, RunsAt}
use Rattle.lab_actors.specs.Pairs.{AreEach-changed, ChangesPair-holds}
use Rattle.lab_readers.proofs.at_once.run_at_once.Goals as goal

pub returns : goal.returns
returns g c =
    let G = g.G.Gate in let phase = c.args.phase in let lines = c.args.lines.now in
    let before = c.args.gates.now in let after = c.for_each_pair.new.gates in
    let long = c.requires.gates in let len = c.for_each_pair.ensures.gates_len in
    AreEach-changed _ (RunsAt G before after phase lines) c.args.readers.now c.for_each_pair.new.items before after long c.for_each_pair.ensures
    (λ i d e inside pair.
    let r = slice_index_or c.args.readers.now i d in let s = slice_index_or c.for_each_pair.new.items i d in
    AsksGateAt-index G before after i e (λ stops later asks. RunsLines phase stops later asks lines r s) (omega (arith, inside, long)) (omega (arith, inside, long, len))
    (ChangesPair-holds _ _ (λ x gate y left. AsksGate G gate left (λ stops later asks. RunsLines phase stops later asks lines x y)) i _ _ _ _ (λ p q p' q' call. search rules) pair))
