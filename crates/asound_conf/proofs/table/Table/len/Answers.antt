use Rattle.asound_conf.specs.Prelude.{ap, arith, length, map, ◌≡◌, length-map, Contents, cell_row}
use Rattle.asound_conf.proofs.table.Table.len.Goals as goal

pub returns : goal.returns
returns c =
    let text = c.self.inside.text.items in
    let cells = c.self.inside.cells.items in
    let rows : length (map (cell_row text) cells) ≡ length c.args.self.now.rows = ap (λ (k : Contents). length k.rows) c.self.view_is in
    omega (arith, c.len.ensures, c.self.inside.cells.ok, c.self.invariant.indexed.most, rows, length-map cells (cell_row text))
