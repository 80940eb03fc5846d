use Rattle.lab_play.specs.Prelude.{take, All, IsSample}
use Rattle.lab_play.proofs.samples.read_samples.Given as goal

abbrev pub invariant-loop-sample : goal.invariant-loop-sample
invariant-loop-sample l = All IsSample (take l.sample-index l.samples)
