use Rattle.snoop_core.specs.Prelude.{replicate, ◌≡◌, Go, Look}
use Rattle.snoop_core.proofs.Getting.{IsLoading}
use Rattle.snoop_core.proofs.turn.SnoopTurnSnoopPort.load_frame.Given as goal

abbrev pub invariant-loop-channel : goal.invariant-loop-channel
invariant-loop-channel g l = record {
  loading : IsLoading l.fn.self l.self l.frame l.channel l.out;
  unstopped : g.G.Gate.stops l.gate ≡ g.G.Gate.stops l.fn.gate;
  asked : g.G.Gate.asked l.fn.gate l.gate (replicate l.channel Look) Go;
}
