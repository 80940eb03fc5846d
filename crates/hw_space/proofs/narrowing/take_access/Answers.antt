-- Where the mask has no number left, nothing lies within.
use Rattle.hw_space.specs.Prelude.{ap, sym, ◌∙◌, err_from_is_err_and, refl, common_mask, with_access}
use Rattle.hw_space.proofs.Results.{Leaves-err}
use Rattle.hw_space.proofs.StepLaws.{IsVoid-access}
use Rattle.hw_space.proofs.narrowing.take_access.Goals as goal

pub returns-in_err-refine-clause-left : goal.returns-in_err-refine-clause-left
returns-in_err-refine-clause-left c =
    let p = err_from_is_err_and c.from_residual.result c.from_residual.ensures.1 in
    Leaves-err (with_access c.args.ranges.now c.args.number) c.args.ranges.now c.from_residual.result p.0 p.1
    (IsVoid-access (with_access c.args.ranges.now c.args.number)
    (ap (λ x. (common_mask c.args.ranges.now.access x).bits) (sym c.only.ensures) ∙ c.in_err-refine.ensures.empty.0 refl))
