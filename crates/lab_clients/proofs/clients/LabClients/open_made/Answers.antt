use Rattle.lab_clients.specs.Prelude.{ap, refl, subst, sym, ◌∙◌, with_item, MixSeat, position_of_player, member_of, held_of, Setup, LabClients, clients_of}
use Rattle.lab_clients.specs.Prelude.{HasKeptLast, HasOpened}
use Rattle.lab_clients.proofs.OpenAt.{open_at-read}
use Rattle.lab_clients.proofs.OpeningLaws.{AreAfter-opened, AreAfter-refused}
use Rattle.lab_clients.proofs.clients.LabClients.open_made.Goals as goal

pub returns-in-Err-clause-after : goal.returns-in-Err-clause-after
returns-in-Err-clause-after c session stage before =
    let setup = c.args.opening.now in
    let at = position_of_player c.args.player.now in
    let ds : LabClients = record { places = c.open.new.self; clients = c.args.self.now.clients } in
    let d = c.index-client.result.now in
    let closed = sym (open_at-read (clients_of c.args.self.now) c.args.number d c.requires.number c.index-client.ensures) ∙ c.requires.closed in
    let opens = c.in-Err.ensures.opens c.args.number (held_of stage) before.at.are.held_by in
    rw c.row.ensures (AreAfter-refused session stage c.args.number setup at c.args.phase c.args.self.now ds d before c.requires.number c.index-client.ensures closed c.in-Err.e
    (rw (ap (λ (s : Setup). s.bindings) c.opening.view_is) at opens)
    c.open.ensures.card refl c.in-Err.ensures.laid)

pub open-requires-2-clause-closed : goal.open-requires-2-clause-closed
open-requires-2-clause-closed c =
    sym (open_at-read (clients_of c.args.self.now) c.args.number c.index_mut-client.result.now c.requires.number c.index_mut-client.ensures.value) ∙ c.requires.closed

pub open-requires-2-clause-kept : goal.open-requires-2-clause-kept
open-requires-2-clause-kept c = subst HasKeptLast (sym c.index_mut-client.ensures.value) (c.requires.kept c.index_mut-client.result.now)

pub open-requires-2-clause-stream : goal.open-requires-2-clause-stream
open-requires-2-clause-stream c =
    let seat : MixSeat = c.in-Ok.seat in
    rw (sym (c.requires.one_ring.1 ∙ sym c.in-Ok.ensures.given.place.of_key)) (c.requires.stream (member_of seat) c.in-Ok.ensures.place)

pub returns-clause-after : goal.returns-clause-after
returns-clause-after c session stage before =
    let setup = c.args.opening.now in
    let at = position_of_player c.args.player.now in
    let ds : LabClients = record { places = c.open.new.self; clients = with_item c.args.self.now.clients c.args.number c.open-2.new.self } in
    let d = c.index_mut-client.result.now in
    let closed = sym (open_at-read (clients_of c.args.self.now) c.args.number d c.requires.number c.index_mut-client.ensures.value) ∙ c.requires.closed in
    let opens = c.in-Ok.ensures.opens c.args.number (held_of stage) before.at.are.held_by in
    let opened = subst (λ n. HasOpened c.in-Ok.seat setup n d c.open-2.new.self) c.position-position.ensures.value c.open-2.ensures in
    rw c.row-2.ensures (AreAfter-opened session stage c.args.number setup at c.args.phase c.args.self.now ds d c.open-2.new.self c.in-Ok.seat before c.requires.number c.index_mut-client.ensures.value closed
    (rw (ap (λ (s : Setup). s.bindings) c.opening.view_is) at opens)
    c.in-Ok.ensures.given opened c.open.ensures.card refl c.in-Ok.ensures.laid)
