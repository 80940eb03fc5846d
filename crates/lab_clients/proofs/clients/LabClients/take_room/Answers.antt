use Rattle.lab_clients.specs.Prelude.{AreEach-ended, AreEach-part, HasWalked-map, HasWalked-read, clients_of, HasTakenRoom, IsSameWithRows, IsSameWithRows-none}
use Rattle.lab_clients.proofs.Results.{OnErr-always}
use Rattle.lab_clients.proofs.clients.LabClients.take_room.Goals as goal

pub loop-index-preserved : goal.loop-index-preserved
loop-index-preserved c =
    let l = c.loop-index in
    record {
      places = l.invariant.places;
      walked = HasWalked-read c.args.self.now.clients l.self.clients c.take_room.new.self c.index_mut.result.now c.len-index-end.ensures c.loop-index-test.true l.invariant.walked
          c.index_mut.ensures.value (record { room = c.in_ok-take_room.ensures.room; same = c.take_room.ensures.same; rows = c.take_room.ensures.rows });
    }

pub returns-in_err-take_room-clause-same : goal.returns-in_err-take_room-clause-same
returns-in_err-take_room-clause-same c =
    let l = c.loop-index in
    OnErr-always c.from_residual.result
    (AreEach-part IsSameWithRows (clients_of c.args.self.now) _ _ IsSameWithRows-none
    (HasWalked-read c.args.self.now.clients l.self.clients c.take_room.new.self c.index_mut.result.now c.len-index-end.ensures c.loop-index-test.true
    (HasWalked-map (HasTakenRoom c.args.lines.now) IsSameWithRows (clients_of c.args.self.now) (clients_of l.self) l.index (λ i d e below taken. record { same = taken.same; rows = taken.rows }) l.invariant.walked)
    c.index_mut.ensures.value (record { same = c.take_room.ensures.same; rows = c.take_room.ensures.rows })))

pub returns-clause-room : goal.returns-clause-room
returns-clause-room c =
    AreEach-ended c.args.self.now.clients c.loop-index.self.clients c.len-index-end.ensures c.loop-index-test.false c.loop-index.invariant.walked
