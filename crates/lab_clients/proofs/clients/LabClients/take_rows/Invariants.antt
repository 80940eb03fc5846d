use Rattle.lab_clients.specs.Prelude.{take, vec_capacity, ◌++◌, ◌≡◌, ◌≤◌, flat_map, HasWalked, clients_of, places_of, rows_of, HasGivenRows}
use Rattle.lab_clients.proofs.clients.LabClients.take_rows.Given as goal

abbrev pub invariant-loop-index : goal.invariant-loop-index
invariant-loop-index l = record {
  places : places_of l.self ≡ places_of l.fn.self;
  walked : HasWalked HasGivenRows (clients_of l.fn.self) (clients_of l.self) l.index;
  rows : l.rows.items ≡ l.fn.rows.items ++ flat_map rows_of (take l.index (clients_of l.fn.self));
  room : vec_capacity l.fn.rows ≤ vec_capacity l.rows;
}
