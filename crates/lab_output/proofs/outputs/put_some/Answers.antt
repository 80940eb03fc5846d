use Rattle.lab_output.specs.Prelude.{sym, ◌∙◌, eqb-true, nil_from_length, PutsText-nothing}
use Rattle.lab_output.proofs.outputs.put_some.Goals as goal

pub returns-then-is_empty : goal.returns-then-is_empty
returns-then-is_empty g c =
    PutsText-nothing g.K.Sink c.args.text.now _ _ (nil_from_length _ (eqb-true _ _ (sym c.is_empty.ensures ∙ c.if-is_empty.true)))

pub returns : goal.returns
returns g c = c.put.ensures.puts_text
