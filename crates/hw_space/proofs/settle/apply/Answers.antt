-- A rule that is applied is a step, and where it leaves nothing, nothing was there.
use Rattle.std.proofs.Common.{subst, sym}
use Rattle.hw_space.proofs.Results.{OnErr-always}
use Rattle.hw_space.proofs.RuleLaws.{computed-IsMissedByNone}
use Rattle.hw_space.proofs.StepLaws.{IsBoxStep-refined, IsMissedByNone, IsVoid-part}
use Rattle.hw_space.proofs.settle.apply.Goals as goal

pub returns-in_err-changed-clause-empty : goal.returns-in_err-changed-clause-empty
returns-in_err-changed-clause-empty c =
    let equal = rw (c.part-first.ensures, c.part-second.ensures) at c.compute-computed.ensures in
    OnErr-always c.from_residual.result (IsVoid-part c.args.ranges.now c.args.rule.now.target (subst (IsMissedByNone c.args.ranges.now c.args.rule.now.target) (sym equal)
    (computed-IsMissedByNone c.args.ranges.now c.args.rule.now c.requires.proper c.requires.listed)) c.in_err-changed.ensures.empty)

pub returns-clause-step : goal.returns-clause-step
returns-clause-step c =
    let equal = rw (c.part-first.ensures, c.part-second.ensures) at c.compute-computed.ensures in
    IsBoxStep-refined c.args.rule.now.target c.requires.proper (subst (IsMissedByNone c.args.ranges.now c.args.rule.now.target) (sym equal)
    (computed-IsMissedByNone c.args.ranges.now c.args.rule.now c.requires.proper c.requires.listed))
    c.in_ok-changed.ensures.filled c.in_ok-changed.ensures.unchanged c.in_ok-changed.ensures.ok
