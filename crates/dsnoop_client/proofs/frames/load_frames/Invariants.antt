use Rattle.dsnoop_client.specs.Prelude.{◌≡◌, Whole, Fills}
use Rattle.dsnoop_client.proofs.Getting.{Rest}
use Rattle.dsnoop_client.proofs.frames.load_frames.Given as goal

abbrev pub invariant-loop-index : goal.invariant-loop-index
invariant-loop-index g l = let port = g.P.SnoopPort in record {
  view_is : port.view l.port ≡ port.view l.fn.port;
  takes : Rest port g.G.Gate l.count l.first (l.fn.port, l.fn.gate) (l.port, l.gate) l.index;
  fills : Fills port l.fn.port l.port l.bindings l.first l.index Whole l.fn.out l.out;
}
