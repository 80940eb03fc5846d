use Rattle.lab_clients.specs.Prelude.{length, List, ◌≡◌, Client, Held, AtPort, Session, IsSameCard, AreDone, clients_of, places_of, held_to, reaped_to}
use Rattle.lab_clients.proofs.clients.LabClients.reap.Given as goal

abbrev pub invariant-loop-number : goal.invariant-loop-number
invariant-loop-number l = record {
  reaped : (session : Session) (held : Held) (xs : List (AtPort × Client)) → AreDone session held xs l.fn.self
      → AreDone session (held_to session 0 l.number xs held) (reaped_to session.ring l.number xs) l.self;
  len : length (clients_of l.self) ≡ length (clients_of l.fn.self);
  card : IsSameCard (places_of l.fn.self) (places_of l.self);
}
