use Rattle.snoop_table.specs.Prelude.{◌+◌, ◌≡◌, lap, Go, Look, index_of}
use Rattle.std.proofs.Common.{replicate}
use Rattle.snoop_table.proofs.Fetching.{IsFetching}
use Rattle.snoop_table.proofs.port.ReaderSeatSnoopPort.load_frame.Given as goal

abbrev pub invariant-loop-channel : goal.invariant-loop-channel
invariant-loop-channel g l = record {
  fetching : IsFetching l.fn.self l.self l.frame l.channel l.out;
  index : l.first ≡ index_of l.fn.self.geometry l.frame 0;
  laps : l.own_laps ≡ lap l.fn.self.geometry l.frame + 1;
  unstopped : g.G.Gate.stops l.gate ≡ g.G.Gate.stops l.fn.gate;
  asked : g.G.Gate.asked l.fn.gate l.gate (replicate l.channel Look) Go;
}
