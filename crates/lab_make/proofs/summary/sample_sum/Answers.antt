-- Each sample has 16 bits.
use Rattle.lab_make.specs.Prelude.{arith, ints, to_z-of_z, fold_more}
use Rattle.lab_make.proofs.summary.sample_sum.Goals as goal

pub loop-sample-preserved : goal.loop-sample-preserved
loop-sample-preserved c =
    (grind (arith, ints, to_z-of_z, fold_more), omega (arith, ints), omega (arith, ints))
