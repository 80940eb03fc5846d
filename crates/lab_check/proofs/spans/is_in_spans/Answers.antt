use Rattle.lab_check.specs.Prelude.{ap, arith, leb, length, List, rules, sym, ℕ, ◌-◌, ◌∙◌, ◌≡◌, IsPartitionedBy-leb, IsPartitionPoint-from_clause, nat_le}
use Rattle.lab_check.specs.Prelude.{slice_index_or, suc, FrameSpan}
use Rattle.lab_check.proofs.SpanSearch.{ends-length, found, none-begins}
use Rattle.lab_check.proofs.spans.is_in_spans.Goals as goal

pub returns-then-before-eq0 : goal.returns-then-before-eq0
returns-then-before-eq0 c =
    let spans = c.args.spans.now in
    let parted = IsPartitionedBy-leb (λ (span : FrameSpan). span.first) spans c.args.frame c.requires.rising in
    let point = IsPartitionPoint-from_clause (λ (span : FrameSpan). leb span.first c.args.frame) spans c.partition_point-before.result c.partition_point-before.ensures.partitioned parted (λ a r q k. search rules) in
    sym (none-begins c.args.frame spans (λ j d below. point.1 j d (omega (arith, c.if-before-eq0.true)) below))

pub bounds-ends-before : goal.bounds-ends-before
bounds-ends-before c =
    let size : length c.args.ends.now ≡ length c.args.spans.now = ap length c.requires.ends_are ∙ ends-length 0 c.args.spans.now in
    omega (arith, size, c.partition_point-before.ensures.bound, c.if-before-eq0.false)

pub returns : goal.returns
returns c =
    let spans = c.args.spans.now in
    let before = c.partition_point-before.result in
    let parted = IsPartitionedBy-leb (λ (span : FrameSpan). span.first) spans c.args.frame c.requires.rising in
    let point = IsPartitionPoint-from_clause (λ (span : FrameSpan). leb span.first c.args.frame) spans before c.partition_point-before.ensures.partitioned parted (λ a r q k. search rules) in
    let last : before ≡ suc (before - 1) = omega (arith, c.if-before-eq0.false) in
    ap (λ (ends : List ℕ). nat_le c.args.frame (slice_index_or ends (before - 1) 0)) c.requires.ends_are
    ∙ sym (found c.args.frame (before - 1) spans (omega (arith, c.partition_point-before.ensures.bound, last))
    (λ j d below. point.0 j d (omega arith) (omega (arith, last, below))) (λ j d from below. point.1 j d (omega (arith, last, from)) below))
