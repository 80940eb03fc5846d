use Rattle.asound_conf.specs.Prelude.{ap, ap₂, arith, length, List, rules, suc, sym, ℕ, ◌+◌, ◌∙◌, ◌∷◌, ◌≡◌, named_nodes, node_of, ConfRow, entries_from, row_at}
use Rattle.asound_conf.specs.Prelude.{Tree}
use Rattle.asound_conf.proofs.items.ItemsIterator.next.Goals as goal

pub returns-in-Some-clause-steps : goal.returns-in-Some-clause-steps
returns-in-Some-clause-steps c =
    let rows : List ConfRow = c.args.self.now.group.table.now.rows in
    let p : ℕ = c.args.self.now.group.number in
    let n : ℕ = c.in-Some.found in
    let after : suc n ≡ n + 1 = omega arith in
    ap named_nodes c.in-Some.ensures.some.entries
    ∙ (ap (λ (k : ℕ). ((row_at rows n).name, node_of rows n) ∷ named_nodes (entries_from p k rows)) after
    ∙ ap₂ (λ (name : List ℕ) (node : Tree). (name, node) ∷ named_nodes (entries_from p (n + 1) rows)) (sym c.name_of.ensures) (sym c.node_of.ensures))

pub returns-in-Some-clause-goes : goal.returns-in-Some-clause-goes
returns-in-Some-clause-goes c =
    let fewer = ap length (returns-in-Some-clause-steps c) in
    search rules

pub returns-in-None-clause-steps : goal.returns-in-None-clause-steps
returns-in-None-clause-steps c =
    let none = ap named_nodes c.in-None.ensures.none in
    (none, none)
