use Rattle.sum_table.specs.Prelude.{suc, ℕ, ◌-◌, ◌≡◌, count_of, Go, placement_asks}
use Rattle.sum_table.proofs.Placing.{IsTrying}
use Rattle.sum_table.proofs.seats.mix.MixSeat.lay.Given as goal

abbrev pub invariant-loop-found : goal.invariant-loop-found
invariant-loop-found g l = record {
  lost : ℕ;
  trying : IsTrying l.fn.self l.self l.frame l.channel l.word lost l.fn.steps l.steps;
  unstopped : g.G.Gate.stops l.gate ≡ g.G.Gate.stops l.fn.gate;
  asked : g.G.Gate.asked l.fn.gate l.gate (placement_asks (suc (suc lost))) Go;
}

-- each exchange that is lost finds a greater count
abbrev pub decreases-loop-found : goal.decreases-loop-found
decreases-loop-found g l = 256 - count_of l.word
