use Rattle.lab_check.specs.Prelude.{arith, FitsSigned, get_or, rules, subst, w16, to_z-of_z, take_all, All-more, All, pos, IsSample}
use Rattle.lab_check.proofs.samples.read_samples.Goals as goal

pub loop-sample-preserved : goal.loop-sample-preserved
loop-sample-preserved c =
    let fits : FitsSigned w16 (get_or c.args.samples.now c.loop-sample.sample-index (pos 0)) = search rules in
    All-more IsSample c.args.samples.now c.loop-sample.sample-index (pos 0) (omega arith) c.loop-sample.invariant
    (subst IsSample (to_z-of_z w16 (get_or c.args.samples.now c.loop-sample.sample-index (pos 0)) fits) c.read_sample.ensures)

pub returns : goal.returns
returns c = subst (All IsSample) (take_all c.loop-sample.sample-index c.args.samples.now (omega arith)) c.loop-sample.invariant
