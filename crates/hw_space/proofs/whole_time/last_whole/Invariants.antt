-- No size so far has a whole time.
use Rattle.hw_space.specs.Prelude.{◌+◌, ◌≤◌, HasNoneFrom}
use Rattle.hw_space.proofs.whole_time.last_whole.Given as goal

abbrev pub invariant-loop-size : goal.invariant-loop-size
invariant-loop-size l = record {
  below : l.size ≤ l.most;
  none : HasNoneFrom l.rate (l.size + 1) (l.most + 1);
}

abbrev pub decreases-loop-size : goal.decreases-loop-size
decreases-loop-size l = l.size
