use Rattle.asound_conf.specs.Prelude.{ap, arith, IfOk, length, List, map, OnOk, subst, ℕ, ◌≡◌, length-map, vec_len, Contents, with_row, cell_row, contents_of}
use Rattle.asound_conf.specs.Prelude.{IsTable, new_row}
use Rattle.asound_conf.proofs.table.Table.push.Goals as goal

pub invariant_of-self : goal.invariant_of-self
invariant_of-self c = subst (λ (text : List ℕ). IsTable text c.add.new.cells.items c.add.new.heads.items) c.as_slice.ensures.value c.add.ensures.table

pub returns-clause-number : goal.returns-clause-number
returns-clause-number c =
    let text = c.self.inside.text.items in
    let cells = c.self.inside.cells.items in
    let rows : length (map (cell_row text) cells) ≡ length c.args.self.now.rows = ap (λ (k : Contents). length k.rows) c.self.view_is in
    let count : vec_len c.self.inside.cells ≡ length c.args.self.now.rows = omega (arith, c.self.inside.cells.ok, rows, length-map cells (cell_row text)) in
    subst (λ (k : ℕ). IfOk c.add.result (λ n. n ≡ k)) count c.add.ensures.number

pub returns-clause-rows : goal.returns-clause-rows
returns-clause-rows c =
    let old = c.self.inside.cells.items in
    let new = c.add.new.cells.items in
    subst (λ (k : Contents). OnOk c.add.result (contents_of c.self.inside.text.items new ≡ with_row (new_row k.text c.args.parent c.args.name c.args.text) k)) c.self.view_is
    (subst (λ (text : List ℕ). OnOk c.add.result (contents_of text new ≡ with_row (new_row text c.args.parent c.args.name c.args.text) (contents_of text old))) c.as_slice.ensures.value
    c.add.ensures.rows)

pub returns-clause-memory : goal.returns-clause-memory
returns-clause-memory c = c.add.ensures.memory
