use Rattle.asound_conf.specs.Prelude.{ap, get_or, sym, true, ◌∙◌, ◌≡◌, get_or_default, Cell, cell_at, lacks, no_cell}
use Rattle.asound_conf.proofs.Changes.{zero_cell}
use Rattle.asound_conf.proofs.Tables.{IsAbsent-lacks}
use Rattle.asound_conf.proofs.table.find.Goals as goal

pub returns-then-lacks-clause-none : goal.returns-then-lacks-clause-none
returns-then-lacks-clause-none c =
    let cells = c.args.cells.now in
    let group = c.args.group in
    let key = c.args.key in
    let same : get_or cells group zero_cell ≡ cell_at cells group = get_or_default cells group zero_cell no_cell c.if-group-cells.true in
    let lacking : lacks (cell_at cells group).content key ≡ true = sym (ap (λ (d : Cell). lacks d.content key) same) ∙ sym c.lacks.ensures ∙ c.if-lacks.true in
    IsAbsent-lacks c.args.text.now cells c.args.heads.now group key c.requires lacking
