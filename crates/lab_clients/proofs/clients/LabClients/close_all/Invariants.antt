use Rattle.lab_clients.specs.Prelude.{length, List, ℕ, ◌≡◌, None, ◌<◌, Client, Held, AtPort, Session, IsSameCard, AreAt, clients_of, places_of, HasEnded}
use Rattle.lab_clients.specs.Prelude.{open_at}
use Rattle.lab_clients.proofs.clients.LabClients.close_all.Given as goal

abbrev pub invariant-loop-number : goal.invariant-loop-number
invariant-loop-number l = record {
  ended : (session : Session) (held : Held) (xs : List (AtPort × Client)) → AreAt session held xs l.fn.self → HasEnded session held xs l.self;
  card : IsSameCard (places_of l.fn.self) (places_of l.self);
  len : length (clients_of l.self) ≡ length (clients_of l.fn.self);
  closed : (n : ℕ) → n < l.number → open_at (clients_of l.self) n ≡ None;
}
