use Rattle.std.proofs.Common.{◌≡◌, take, ◌++◌}
use Rattle.plug_chain.proofs.interpolation.push_all.Given as goal

abbrev pub invariant-loop-sample : goal.invariant-loop-sample
invariant-loop-sample l = l.out.items ≡ l.fn.out.items ++ take l.sample-index l.samples
