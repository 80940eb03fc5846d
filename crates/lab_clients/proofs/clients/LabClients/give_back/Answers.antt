use Rattle.lab_clients.specs.Prelude.{arith, IsSome, refl, subst, with_item, clients_of, IsClientAt}
use Rattle.lab_clients.proofs.ClosingLaws.{AreIn-closed, CanClose-closing, Closing-at, IsClientAt-keeps, OneRing-closing}
use Rattle.lab_clients.proofs.OpenAt.{IsClosedAt-set, open_at-inside, open_at-read}
use Rattle.lab_clients.proofs.clients.LabClients.give_back.Goals as goal

pub index_mut-requires : goal.index_mut-requires
index_mut-requires c = omega (arith, open_at-inside (clients_of c.args.self.now) c.args.number c.requires.open, c.args.self.now.clients.ok.0)

pub close-seat-requires : goal.close-seat-requires
close-seat-requires c =
    let inside = open_at-inside (clients_of c.args.self.now) c.args.number c.requires.open in
    subst IsSome (open_at-read (clients_of c.args.self.now) c.args.number c.index_mut.result.now inside c.index_mut.ensures.value) c.requires.open

pub close-requires : goal.close-requires
close-requires c =
    let inside = open_at-inside (clients_of c.args.self.now) c.args.number c.requires.open in
    let run = c.requires.run in
    let d = c.index_mut.result.now in
    let e = c.close-seat.new.self in
    let seat = c.close-seat.result in
    let closing = Closing-at c.args.self.now c.args.number d e seat.0 seat.1 seat.2 inside c.index_mut.ensures.value c.requires.open c.close-seat.ensures in
    record {
      one_ring = OneRing-closing IsClientAt IsClientAt-keeps run.session run.held run.xs c.args.self.now c.args.number d e seat.0 seat.1 seat.2 run.are inside c.index_mut.ensures.value closing;
      can = CanClose-closing IsClientAt IsClientAt-keeps run.session run.held run.xs c.args.self.now c.args.number d e seat.0 seat.1 seat.2 run.are inside c.index_mut.ensures.value closing;
    }

pub returns : goal.returns
returns c =
    let inside = open_at-inside (clients_of c.args.self.now) c.args.number c.requires.open in
    let d = c.index_mut.result.now in
    let e = c.close-seat.new.self in
    let seat = c.close-seat.result in
    let closing = Closing-at c.args.self.now c.args.number d e seat.0 seat.1 seat.2 inside c.index_mut.ensures.value c.requires.open c.close-seat.ensures in
    record {
      closed = λ session held xs are.
          AreIn-closed IsClientAt IsClientAt-keeps session held xs c.args.self.now c.args.number d e seat.0 seat.1 seat.2 are inside c.index_mut.ensures.value closing
          (record { places = c.close.new.self; clients = with_item c.args.self.now.clients c.args.number e }) c.last_frames_are_own.ensures c.close.ensures.closes c.close.ensures.card refl c.close.ensures.laid;
      clients = IsClosedAt-set (clients_of c.args.self.now) c.args.number e inside closing.closed.closed;
      card = c.close.ensures.card;
    }
