-- Where the mask has no number left, nothing lies within; else the narrowed box is settled.
use Rattle.hw_space.specs.Prelude.{ap, sym, ◌∙◌, err_from_is_err_and, common_mask, with_format, mask_of_one}
use Rattle.hw_space.proofs.Results.{Leaves-err}
use Rattle.hw_space.proofs.StepLaws.{IsVoid-formats, with_formats-IsProper}
use Rattle.hw_space.proofs.narrowing.take_format.Goals as goal

pub returns-in_err-narrow_format-clause-left : goal.returns-in_err-narrow_format-clause-left
returns-in_err-narrow_format-clause-left c =
    let p = err_from_is_err_and c.from_residual.result c.from_residual.ensures.1 in
    Leaves-err (with_format c.args.ranges.now c.args.number) c.narrow_format.new.ranges c.from_residual.result p.0 p.1
    (IsVoid-formats c.args.ranges.now (mask_of_one c.args.number)
    (ap (λ x. (common_mask c.args.ranges.now.format x).bits) (sym c.only.ensures) ∙ c.in_err-narrow_format.ensures.empty))

pub settle-requires : goal.settle-requires
settle-requires c =
    rw c.in_ok-narrow_format.ensures.ok (with_formats-IsProper c.args.ranges.now c.only.result c.requires.proper c.in_ok-narrow_format.ensures.filled)
