use Rattle.snoop_core.specs.Prelude.{take, ArePartStored}
use Rattle.snoop_core.proofs.ring.SampleRing.store_frame.Given as goal

abbrev pub invariant-loop-sample : goal.invariant-loop-sample
invariant-loop-sample l = ArePartStored l.fn.self l.self (take l.sample-index l.frame)
