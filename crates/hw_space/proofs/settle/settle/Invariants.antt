-- So far the box made a step. Each round that changes something makes it smaller.
use Rattle.hw_space.specs.Prelude.{size_of_box, IsBoxStep}
use Rattle.hw_space.proofs.settle.settle.Given as goal

abbrev pub invariant-loop-changed : goal.invariant-loop-changed
invariant-loop-changed l = IsBoxStep l.fn.ranges l.ranges l.changed

abbrev pub decreases-loop-changed : goal.decreases-loop-changed
decreases-loop-changed l = size_of_box l.ranges
