use Rattle.lab_clients.specs.Prelude.{◌≡◌, HasWalked, clients_of, places_of, HasTakenRoom}
use Rattle.lab_clients.proofs.clients.LabClients.take_room.Given as goal

abbrev pub invariant-loop-index : goal.invariant-loop-index
invariant-loop-index l = record {
  places : places_of l.self ≡ places_of l.fn.self;
  walked : HasWalked (HasTakenRoom l.fn.lines) (clients_of l.fn.self) (clients_of l.self) l.index;
}
