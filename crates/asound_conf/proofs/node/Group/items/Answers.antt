use Rattle.asound_conf.specs.Prelude.{ap, arith, suc, ℕ, ◌+◌, ◌≡◌, named_nodes, entries_from}
use Rattle.asound_conf.proofs.node.Group.items.Goals as goal

pub returns : goal.returns
returns c =
    let p : ℕ = c.args.self.number in
    let after : p + 1 ≡ suc p = omega arith in
    ap (λ (k : ℕ). named_nodes (entries_from p k c.args.self.table.now.rows)) after
