use Rattle.lab_check.specs.Prelude.{sym, list_any-IsPermutation, is_in_span}
use Rattle.lab_check.proofs.spans.SpanIndex.new.Goals as goal

pub returns : goal.returns
returns c = λ frame. sym (list_any-IsPermutation (is_in_span frame) c.args.spans.items c.sort_spans.new.spans.items c.sort_spans.ensures.moved)
