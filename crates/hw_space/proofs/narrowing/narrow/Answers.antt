-- Where the narrowed part is empty, nothing lies within; else the narrowed box is settled.
use Rattle.hw_space.specs.Prelude.{err_from_is_err_and, with_refined}
use Rattle.hw_space.proofs.Results.{Leaves-err}
use Rattle.hw_space.proofs.StepLaws.{IsVoid-refined, with_part-IsProper}
use Rattle.hw_space.proofs.narrowing.narrow.Goals as goal

pub returns-in_err-narrow_part-clause-left : goal.returns-in_err-narrow_part-clause-left
returns-in_err-narrow_part-clause-left c =
    let p = err_from_is_err_and c.from_residual.result c.from_residual.ensures.1 in
    Leaves-err (with_refined c.args.ranges.now c.args.quantity c.args.other.now) c.narrow_part.new.ranges c.from_residual.result p.0 p.1
    (IsVoid-refined c.args.ranges.now c.args.quantity c.args.other.now c.in_err-narrow_part.ensures.empty)

pub settle-requires : goal.settle-requires
settle-requires c =
    rw c.in_ok-narrow_part.ensures.ok
    (with_part-IsProper c.args.ranges.now c.args.quantity c.args.other.now c.requires c.in_ok-narrow_part.ensures.filled)
