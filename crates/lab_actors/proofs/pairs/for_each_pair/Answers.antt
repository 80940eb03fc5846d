use Rattle.lab_actors.proofs.PairLemmas.{ChangesFrom-zero}
use Rattle.lab_actors.proofs.pairs.for_each_pair.Goals as goal

pub returns-then-not-is_empty : goal.returns-then-not-is_empty
returns-then-not-is_empty g c =
    ChangesFrom-zero g.F.Fn c.args.f.now c.args.items.now c.pairs_from.new.items c.args.gates.now c.pairs_from.new.gates c.pairs_from.ensures
