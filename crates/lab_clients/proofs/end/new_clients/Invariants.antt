use Rattle.lab_clients.specs.Prelude.{length, ◌≡◌, AreNewClients}
use Rattle.lab_clients.proofs.end.new_clients.Given as goal

abbrev pub invariant-loop-number : goal.invariant-loop-number
invariant-loop-number l = record { new : AreNewClients 0 l.clients.items; count : length l.clients.items ≡ l.number }
