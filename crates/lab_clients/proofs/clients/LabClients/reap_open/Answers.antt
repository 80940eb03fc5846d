use Rattle.lab_clients.specs.Prelude.{IsSome, refl, subst, with_item, clients_of, IsClientDone}
use Rattle.lab_clients.proofs.ClosingLaws.{AreIn-closed, CanClose-closing, Closing-at, IsClientDone-keeps, OneRing-closing}
use Rattle.lab_clients.proofs.OpenAt.{open_at-read}
use Rattle.lab_clients.proofs.clients.LabClients.reap_open.Goals as goal

pub close-seat-requires : goal.close-seat-requires
close-seat-requires c =
    subst IsSome (open_at-read (clients_of c.args.self.now) c.args.number c.index_mut.result.now c.requires.inside c.index_mut.ensures.value) c.requires.open

pub reap-requires : goal.reap-requires
reap-requires c =
    let run = c.requires.run in
    let d = c.index_mut.result.now in
    let e = c.close-seat.new.self in
    let seat = c.close-seat.result in
    let closing = Closing-at c.args.self.now c.args.number d e seat.0 seat.1 seat.2 c.requires.inside c.index_mut.ensures.value c.requires.open c.close-seat.ensures in
    record {
      one_ring = OneRing-closing IsClientDone IsClientDone-keeps run.session run.held run.xs c.args.self.now c.args.number d e seat.0 seat.1 seat.2 run.are c.requires.inside c.index_mut.ensures.value closing;
      can = CanClose-closing IsClientDone IsClientDone-keeps run.session run.held run.xs c.args.self.now c.args.number d e seat.0 seat.1 seat.2 run.are c.requires.inside c.index_mut.ensures.value closing;
    }

pub returns-clause-closed : goal.returns-clause-closed
returns-clause-closed c session held xs are =
    let d = c.index_mut.result.now in
    let e = c.close-seat.new.self in
    let seat = c.close-seat.result in
    let closing = Closing-at c.args.self.now c.args.number d e seat.0 seat.1 seat.2 c.requires.inside c.index_mut.ensures.value c.requires.open c.close-seat.ensures in
    AreIn-closed IsClientDone IsClientDone-keeps session held xs c.args.self.now c.args.number d e seat.0 seat.1 seat.2 are c.requires.inside c.index_mut.ensures.value closing
    (record { places = c.reap.new.self; clients = with_item c.args.self.now.clients c.args.number e }) c.last_frames_are_own.ensures c.reap.ensures.closes c.reap.ensures.card refl c.reap.ensures.laid
