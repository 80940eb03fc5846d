use Rattle.lab_actors.specs.Prelude.{arith, rules, subst, sym, ◌++◌, ◌+◌, ◌∙◌, get_or_default, ChangesFrom, IsReadyFrom}
use Rattle.lab_actors.proofs.PairLemmas.{ChangesFrom-append, ChangesFrom-one, IsReadyFrom-append}
use Rattle.lab_actors.proofs.pairs.+parts.Goals as goal

pub pairs_from-at_one-requires : goal.pairs_from-at_one-requires
pairs_from-at_one-requires g t c p q item gate =
    let some = c.requires.some in let long = c.requires.long in
    subst (λ k. g.F.Fn.pre c.args.f.now (k, (p, (q, tt)))) {x = c.args.base + 0} (omega arith)
    (c.requires.accepts 0 p q some (item ∙ get_or_default c.args.items.now 0 _ _ some) (gate ∙ get_or_default c.args.gates.now 0 _ _ (omega (arith, some, long))))

pub pairs_from-both_parts-requires : goal.pairs_from-both_parts-requires
pairs_from-both_parts-requires g t c κs within =
    let low = c.split_at_mut-low in let near = c.split_at_mut-near in
    let some = c.requires.some in let more = c.if-items-eq1.false in
    let front_len = low.ensures.front_len in let back_len = low.ensures.back_len in let gates_len = near.ensures.front_len in
    let whole = subst (λ gs. IsReadyFrom g.F.Fn c.args.f.now c.args.base (low.result.0.now ++ low.result.1.now) gs) near.ensures.value
    (subst (λ xs. IsReadyFrom g.F.Fn c.args.f.now c.args.base xs c.args.gates.now) low.ensures.value c.requires) in
    let both = IsReadyFrom-append g.F.Fn c.args.f.now c.args.base low.result.0.now low.result.1.now near.result.0.now near.result.1.now
    (omega (arith, some, more, front_len)) (omega (arith, some, more, front_len, back_len)) (omega (arith, front_len, gates_len)) whole in
    let back = subst (λ k. IsReadyFrom g.F.Fn c.args.f.now (c.args.base + k) low.result.1.now near.result.1.now) front_len both.1 in
    (search rules, (within.0, (within.1.0, (within.1.1.0, (within.1.1.1, (search rules, (search rules, (search rules, (search rules, (both.0, back))))))))))

pub pairs_from-returns-then-items-eq1 : goal.pairs_from-returns-then-items-eq1
pairs_from-returns-then-items-eq1 g t c =
    let some = c.requires.some in let long = c.requires.long in
    ChangesFrom-one g.F.Fn c.args.f.now c.args.base c.args.items.now c.args.gates.now _ _ _ _ c.if-items-eq1.true (omega (arith, some, long)) c.at_one.ensures

pub pairs_from-returns : goal.pairs_from-returns
pairs_from-returns g t c =
    let low = c.split_at_mut-low in let near = c.split_at_mut-near in let left = c.both_parts.new in
    let front_len = low.ensures.front_len in let gates_len = near.ensures.front_len in
    let back = subst (λ k. ChangesFrom g.F.Fn c.args.f.now (c.args.base + k) low.result.1.now left.high near.result.1.now left.far) (sym front_len) c.both_parts.ensures.back in
    subst (λ gs. ChangesFrom g.F.Fn c.args.f.now c.args.base c.args.items.now (left.low ++ left.high) gs (left.near ++ left.far)) (sym near.ensures.value)
    (subst (λ xs. ChangesFrom g.F.Fn c.args.f.now c.args.base xs (left.low ++ left.high) (near.result.0.now ++ near.result.1.now) (left.near ++ left.far)) (sym low.ensures.value)
    (ChangesFrom-append g.F.Fn c.args.f.now c.args.base low.result.0.now low.result.1.now left.low left.high near.result.0.now near.result.1.now left.near left.far
    (omega (arith, front_len, gates_len)) c.both_parts.ensures.front back))
