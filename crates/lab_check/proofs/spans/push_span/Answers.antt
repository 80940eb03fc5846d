use Rattle.lab_check.specs.Prelude.{ap, sym, ◌∙◌, or-false, list_any, ◌||◌, is_in_some, is_in_span}
use Rattle.lab_check.proofs.spans.push_span.Goals as goal

pub returns-in-None : goal.returns-in-None
returns-in-None c = λ frame.
    sym (or-false (list_any (is_in_span frame) c.args.spans.now.items)) ∙ ap (λ span. list_any (is_in_span frame) c.args.spans.now.items || is_in_some frame span) (sym c.in-None.is)
