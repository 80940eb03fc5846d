use Rattle.lab_clients.specs.Prelude.{ap, arith, sym, ◌∙◌, ◌≡◌, nat_tests, false, true, clients_of, is_open}
use Rattle.std.specs.Option.{option_copied}
use Rattle.lab_clients.proofs.OpenAt.{open_at-none, open_of-none}
use Rattle.lab_clients.proofs.OpeningLaws.{AreAfter-nothing, AreAfter-open_already}
use Rattle.lab_clients.proofs.clients.LabClients.open.Goals as goal

pub returns-then-is_open-clause-after : goal.returns-then-is_open-clause-after
returns-then-is_open-clause-after c session stage before =
    let opened : is_open c.index-client.result.now ≡ true = grind (arith, nat_tests) in
    rw c.row.ensures (AreAfter-open_already session stage c.args.phase c.args.number c.args.self.now c.index-client.result.now before.at c.requires.number c.index-client.ensures opened)

pub open_with-requires-clause-closed : goal.open_with-requires-clause-closed
open_with-requires-clause-closed c =
    let shut : is_open c.index-client.result.now ≡ false = grind (arith, nat_tests) in
    open_at-none (clients_of c.args.self.now) c.args.number c.index-client.result.now c.requires.number c.index-client.ensures shut

pub returns-in_default-clause-after : goal.returns-in_default-clause-after
returns-in_default-clause-after c session stage before =
    let shut : is_open c.index-client.result.now ≡ false = grind (arith, nat_tests) in
    rw c.row-in_default.ensures (AreAfter-nothing session stage c.args.phase c.args.number c.args.self.now c.index-client.result.now before.at c.requires.number c.index-client.ensures
    (open_of-none c.index-client.result.now shut) (sym (ap option_copied c.in_default.is) ∙ before.setup_is))
