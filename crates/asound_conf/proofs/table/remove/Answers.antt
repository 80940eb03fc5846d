use Rattle.asound_conf.specs.Prelude.{ap, arith, length, List, refl, set, subst, sym, ◌∙◌, ◌≡◌, false≢true, length-set, Cell, Removed, cell_at, contents_of}
use Rattle.asound_conf.specs.Prelude.{is_live, IsTable}
use Rattle.asound_conf.proofs.Changes.{IsChanged-read, IsTable-changed, contents-removed, gone-changed}
use Rattle.asound_conf.proofs.table.remove.Goals as goal

pub forget-requires : goal.forget-requires
forget-requires c =
    let text = c.args.text.now in
    let cells = c.args.cells.now.items in
    let n = c.args.number in
    let new = c.with_content.result in
    let it = IsChanged-read cells n Removed c.index.result.now new c.requires.inside (λ live. absurd (false≢true live)) c.index.ensures c.with_content.ensures in
    let is : c.as_slice.result.now ≡ set cells n new = c.as_slice.ensures.value in
    record {
      table = subst (λ (k : List Cell). IsTable text k c.args.heads.now.items) (sym is) (IsTable-changed text cells c.args.heads.now.items n _ new tt it c.requires.table);
      inside = omega (arith, ap (λ (k : List Cell). length k) is, length-set cells n new, c.requires.inside);
      gone = ap (λ (k : List Cell). is_live (cell_at k n).content) is ∙ gone-changed cells n new it;
    }

pub returns-clause-table : goal.returns-clause-table
returns-clause-table c = subst (λ (k : List Cell). IsTable c.args.text.now k c.forget.new.heads.items) c.as_slice.ensures.value c.forget.ensures

pub returns-clause-rows : goal.returns-clause-rows
returns-clause-rows c =
    let text = c.args.text.now in
    let cells = c.args.cells.now.items in
    let n = c.args.number in
    let new = c.with_content.result in
    let it = IsChanged-read cells n Removed c.index.result.now new c.requires.inside (λ live. absurd (false≢true live)) c.index.ensures c.with_content.ensures in
    contents-removed text cells (contents_of text cells) n new it refl
