use Rattle.lab_check.specs.Prelude.{take, All, IsSample}
use Rattle.lab_check.proofs.samples.read_samples.Given as goal

abbrev pub invariant-loop-sample : goal.invariant-loop-sample
invariant-loop-sample l = All IsSample (take l.sample-index l.samples)
