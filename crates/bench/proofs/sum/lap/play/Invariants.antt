use Rattle.sum_table.specs.Players.{PlayerGoes}
use Rattle.bench.proofs.sum.lap.play.Given as goal

abbrev pub invariant-loop : goal.invariant-loop
invariant-loop l = PlayerGoes l.fn.player l.player
