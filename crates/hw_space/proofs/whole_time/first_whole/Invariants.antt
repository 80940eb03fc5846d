-- No size so far has a whole time.
use Rattle.hw_space.specs.WholeTimes.{HasNoneFrom}
use Rattle.hw_space.proofs.whole_time.first_whole.Given as goal

abbrev pub invariant-loop-size : goal.invariant-loop-size
invariant-loop-size l = HasNoneFrom l.rate l.least l.size
