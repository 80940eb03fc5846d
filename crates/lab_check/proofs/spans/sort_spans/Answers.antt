use Rattle.lab_check.specs.Prelude.{rules, IsNonDecreasingBy-from_sort_by_key, FrameSpan}
use Rattle.lab_check.proofs.spans.sort_spans.Goals as goal

pub returns-clause-rising : goal.returns-clause-rising
returns-clause-rising c = IsNonDecreasingBy-from_sort_by_key (λ (span : FrameSpan). span.first) _ c.sort_unstable_by_key.ensures.sorted (λ a r q k. search rules)
