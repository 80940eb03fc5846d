-- A refinement of the formats is a step, and where it leaves nothing, nothing was there.
use Rattle.std.proofs.Common.{subst, sym}
use Rattle.hw_space.proofs.Results.{OnErr-always}
use Rattle.hw_space.proofs.RuleLaws.{formats_of_bits-IsMissedByNone}
use Rattle.hw_space.proofs.StepLaws.{IsBoxStep-formats, IsFormatMissedByNone, IsVoid-format}
use Rattle.hw_space.proofs.settle.refine_format.Goals as goal

pub returns-in_err-changed-clause-empty : goal.returns-in_err-changed-clause-empty
returns-in_err-changed-clause-empty c =
    OnErr-always c.from_residual.result (IsVoid-format c.args.ranges.now (subst (IsFormatMissedByNone c.args.ranges.now)
    (sym c.formats_of_bits-formats.ensures) (formats_of_bits-IsMissedByNone c.args.ranges.now)) c.in_err-changed.ensures.empty)

pub returns-clause-step : goal.returns-clause-step
returns-clause-step c =
    IsBoxStep-formats c.requires (subst (IsFormatMissedByNone c.args.ranges.now) (sym c.formats_of_bits-formats.ensures)
    (formats_of_bits-IsMissedByNone c.args.ranges.now)) c.in_ok-changed.ensures.filled c.in_ok-changed.ensures.unchanged c.in_ok-changed.ensures.ok
