use Rattle.asound_conf.specs.Prelude.{ap, drop, ◌+◌, ◌∙◌, count_by}
use Rattle.asound_conf.proofs.Counts.{count_of_names-cells, counts}
use Rattle.asound_conf.proofs.table.Table.count.Goals as goal

pub returns : goal.returns
returns c =
    let group = c.args.group in
    c.count_in.ensures ∙ ap (λ cells. count_by (counts group) (drop (group + 1) cells)) c.as_slice.ensures.value ∙ count_of_names-cells c.self.inside.text.items group c.self.inside.cells.items c.args.self.now c.self.view_is
