use Rattle.lab_clients.specs.Prelude.{take, vec_capacity, ◌++◌, ◌≡◌, ◌≤◌, flat_map, clients_of, segments_by}
use Rattle.lab_clients.proofs.clients.LabClients.segments_into.Given as goal

abbrev pub invariant-loop-index : goal.invariant-loop-index
invariant-loop-index l = record {
  segments : l.all.items ≡ l.fn.all.items ++ flat_map segments_by (take l.index (clients_of l.self));
  room : vec_capacity l.fn.all ≤ vec_capacity l.all;
}
