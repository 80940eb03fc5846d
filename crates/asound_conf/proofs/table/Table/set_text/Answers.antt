use Rattle.asound_conf.specs.declared.cell.Content.TheVariants.{Text}
use Rattle.asound_conf.proofs.Changes.{IsChanged-read, IsTable-changed, contents-text, inside-rows, live-row}
use Rattle.asound_conf.proofs.table.Table.set_text.Goals as goal

pub invariant_of-self : goal.invariant_of-self
invariant_of-self c =
    let text = c.self.inside.text.items in
    let cells = c.self.inside.cells.items in
    let n = c.args.number in
    let inside = inside-rows text cells c.args.self.now n c.self.view_is c.requires.inside in
    IsTable-changed text cells c.self.inside.heads.items n _ c.with_content.result tt
    (IsChanged-read cells n (Text c.args.text) c.index.result.now c.with_content.result inside (λ _. live-row text cells c.args.self.now n inside c.self.view_is c.requires.text) c.index.ensures c.with_content.ensures) c.self.invariant

pub returns : goal.returns
returns c =
    let text = c.self.inside.text.items in
    let cells = c.self.inside.cells.items in
    let n = c.args.number in
    let inside = inside-rows text cells c.args.self.now n c.self.view_is c.requires.inside in
    contents-text text cells c.args.self.now n c.args.text c.with_content.result
    (IsChanged-read cells n (Text c.args.text) c.index.result.now c.with_content.result inside (λ _. live-row text cells c.args.self.now n inside c.self.view_is c.requires.text) c.index.ensures c.with_content.ensures) c.self.view_is c.requires.text
