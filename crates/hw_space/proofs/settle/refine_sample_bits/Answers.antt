-- A refinement of the sample bits is a step, and where it leaves nothing, nothing was there.
use Rattle.hw_space.specs.Prelude.{subst, sym, SampleBits}
use Rattle.hw_space.proofs.Results.{OnErr-always}
use Rattle.hw_space.proofs.RuleLaws.{bits_of_formats-IsMissedByNone}
use Rattle.hw_space.proofs.StepLaws.{IsBoxStep-refined, IsMissedByNone, IsVoid-part}
use Rattle.hw_space.proofs.settle.refine_sample_bits.Goals as goal

pub returns-in_err-changed-clause-empty : goal.returns-in_err-changed-clause-empty
returns-in_err-changed-clause-empty c =
    OnErr-always c.from_residual.result (IsVoid-part c.args.ranges.now SampleBits (subst (IsMissedByNone c.args.ranges.now SampleBits)
    (sym c.bits_of_formats-bits.ensures) (bits_of_formats-IsMissedByNone c.args.ranges.now)) c.in_err-changed.ensures.empty)

pub returns-clause-step : goal.returns-clause-step
returns-clause-step c =
    IsBoxStep-refined SampleBits c.requires (subst (IsMissedByNone c.args.ranges.now SampleBits) (sym c.bits_of_formats-bits.ensures)
    (bits_of_formats-IsMissedByNone c.args.ranges.now)) c.in_ok-changed.ensures.filled c.in_ok-changed.ensures.unchanged c.in_ok-changed.ensures.ok
