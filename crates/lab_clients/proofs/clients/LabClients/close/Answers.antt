use Rattle.lab_clients.specs.Prelude.{arith, ◌≡◌, nat_tests, false, true, held_of, clients_of, is_open}
use Rattle.lab_clients.proofs.ClosingLaws.{AreAfter-closed, AreAfter-closed_already}
use Rattle.lab_clients.proofs.OpenAt.{open_at-some, open_of-none}
use Rattle.lab_clients.proofs.clients.LabClients.close.Goals as goal

pub returns-then-not-is_open-clause-after : goal.returns-then-not-is_open-clause-after
returns-then-not-is_open-clause-after c session stage at =
    let shut : is_open c.index-client.result.now ≡ false = grind (arith, nat_tests) in
    rw c.row.ensures (AreAfter-closed_already session stage c.args.phase c.args.number c.args.self.now c.index-client.result.now at c.requires.number c.index-client.ensures
    (open_of-none c.index-client.result.now shut))

pub give_back-requires-clause-open : goal.give_back-requires-clause-open
give_back-requires-clause-open c =
    let opened : is_open c.index-client.result.now ≡ true = grind (arith, nat_tests) in
    open_at-some (clients_of c.args.self.now) c.args.number c.index-client.result.now c.requires.number c.index-client.ensures opened

pub returns-clause-after : goal.returns-clause-after
returns-clause-after c session stage at =
    let opened : is_open c.index-client.result.now ≡ true = grind (arith, nat_tests) in
    let row = AreAfter-closed session stage c.args.phase c.args.number c.args.self.now c.index-client.result.now at c.requires.number c.index-client.ensures c.give_back.new.self opened
    (c.give_back.ensures.closed session (held_of stage) stage.clients at.are) in
    rw c.seen-seen.ensures row
