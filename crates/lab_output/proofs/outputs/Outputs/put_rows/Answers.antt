use Rattle.lab_output.specs.Prelude.{◌∙◌, All-drop, All-take, IsRowOf, PutsText-done, PutsText-memory, PutsText-named, PutsText-passed}
use Rattle.lab_output.proofs.Rows.{rows_text-slice}
use Rattle.lab_output.proofs.outputs.Outputs.put_rows.Goals as goal

pub rows_from-requires : goal.rows_from-requires
rows_from-requires g c = All-take (IsRowOf c.args.script.now) _ _ (All-drop (IsRowOf c.args.script.now) _ _ c.requires.rows)

pub returns-in_err-text-clause-puts_text : goal.returns-in_err-text-clause-puts_text
returns-in_err-text-clause-puts_text g c =
    PutsText-memory g.K.Sink _ c.from_residual.result c.in_err-text.field-0.0 _ c.from_residual.ensures.1 c.in_err-text.ensures.only

pub returns-in_err-put_some-clause-puts_text : goal.returns-in_err-put_some-clause-puts_text
returns-in_err-put_some-clause-puts_text g c =
    PutsText-passed g.K.Sink _ c.from_residual-in_err-put_some.result c.in_err-put_some.field-0.0 _ _ c.from_residual-in_err-put_some.ensures.1
    (PutsText-named g.K.Sink c.deref.result.now _ _ _ _
    (c.deref.ensures.value ∙ c.in_ok-text.ensures.text ∙ rows_text-slice c.args.script.now c.args.self.now.rows c.args.rows.now)
    c.in_err-put_some.ensures)

pub returns-clause-puts_text : goal.returns-clause-puts_text
returns-clause-puts_text g c =
    PutsText-done g.K.Sink _ _ _ _ _
    (PutsText-named g.K.Sink c.deref.result.now _ _ _ _
    (c.deref.ensures.value ∙ c.in_ok-text.ensures.text ∙ rows_text-slice c.args.script.now c.args.self.now.rows c.args.rows.now)
    c.in_ok-put_some.ensures)
