use Rattle.lab_check.specs.Prelude.{ap, sym, ◌∙◌, reaches_frame}
use Rattle.lab_check.proofs.SpanSearch.{span-frames}
use Rattle.lab_check.proofs.spans.span_of.Goals as goal

pub returns-in-Some : goal.returns-in-Some
returns-in-Some c = λ frame low.
    span-frames frame c.args.first c.in-Some.count c.saturating_add-last.result low c.saturating_add-last.ensures
    ∙ ap (λ count. reaches_frame c.args.first count frame) (sym c.in-Some.is)
