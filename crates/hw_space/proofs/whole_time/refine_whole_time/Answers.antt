-- The sizes with a whole time are a step, and where there are none, nothing was there.
use Rattle.hw_space.proofs.Results.{OnErr-always}
use Rattle.hw_space.proofs.StepLaws.{IsBoxStep-refined, IsVoid-part}
use Rattle.hw_space.proofs.WholeTimeLaws.{read-IsMissedByNone}
use Rattle.hw_space.proofs.whole_time.refine_whole_time.Goals as goal

pub returns-in_err-changed-clause-empty : goal.returns-in_err-changed-clause-empty
returns-in_err-changed-clause-empty c =
    OnErr-always c.from_residual.result (IsVoid-part c.args.ranges.now c.size-2.result
    (read-IsMissedByNone c.args.ranges.now c.args.span c.requires c.time.ensures c.part-time.ensures c.if-not-time.false c.if-rate.false
    c.size.ensures c.part-size.ensures c.whole_from_to-sizes.ensures c.size-2.ensures c.first_whole-least.ensures.none c.last_whole-greatest.ensures)
    c.in_err-changed.ensures.empty)

pub returns-clause-step : goal.returns-clause-step
returns-clause-step c =
    IsBoxStep-refined c.size-2.result c.requires
    (read-IsMissedByNone c.args.ranges.now c.args.span c.requires c.time.ensures c.part-time.ensures c.if-not-time.false c.if-rate.false
    c.size.ensures c.part-size.ensures c.whole_from_to-sizes.ensures c.size-2.ensures c.first_whole-least.ensures.none c.last_whole-greatest.ensures)
    c.in_ok-changed.ensures.filled c.in_ok-changed.ensures.unchanged c.in_ok-changed.ensures.ok
