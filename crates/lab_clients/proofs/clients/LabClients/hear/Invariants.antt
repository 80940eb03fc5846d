use Rattle.lab_clients.specs.Prelude.{◌≡◌, HasWalked, clients_of, places_of, IsHeardBy}
use Rattle.lab_card.specs.Meets.{IsSameCard}
use Rattle.lab_clients.proofs.clients.LabClients.hear.Given as goal

abbrev pub invariant-loop-index : goal.invariant-loop-index
invariant-loop-index l = record {
  places : places_of l.self ≡ places_of l.fn.self;
  card : IsSameCard l.fn.card l.card;
  walked : HasWalked (IsHeardBy l.fn.card) (clients_of l.fn.self) (clients_of l.self) l.index;
}
