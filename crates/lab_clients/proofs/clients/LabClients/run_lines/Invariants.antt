use Rattle.lab_clients.specs.Prelude.{◌≡◌, clients_of, places_of}
use Rattle.lab_clients.proofs.RunLemmas.{HaveRun}
use Rattle.lab_clients.proofs.clients.LabClients.run_lines.Given as goal

abbrev pub invariant-loop-index : goal.invariant-loop-index
invariant-loop-index g l = record {
  places : places_of l.self ≡ places_of l.fn.self;
  run : HaveRun g.G.Gate l.fn.gates l.gates l.fn.wavs l.phase l.fn.lines (clients_of l.fn.self) (clients_of l.self) l.index;
}
