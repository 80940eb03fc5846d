use Rattle.lab_phase.specs.Prelude.{refl, AreEach-map, AreEach-same, clients_of, HasTakenRoom, IsSameWithRows, readers_of, IsSameWithRows-none, OnErr-always}
use Rattle.lab_phase.specs.Prelude.{AreSameButRoom, AreSameButRoom-card}
use Rattle.lab_readers.specs.Steps.{IsSameWithRows as IsSameReaderWithRows}
use Rattle.lab_phase.proofs.steps.take_room.Goals as goal

pub returns-in_err-reserve-clause-kept : goal.returns-in_err-reserve-clause-kept
returns-in_err-reserve-clause-kept c =
    OnErr-always _ (AreSameButRoom-card c.args.card.now c.args.card.now c.args.clients.now c.args.readers.now (record { card = refl; played = refl; rows = refl }))

pub returns-in_err-take_room-clause-kept : goal.returns-in_err-take_room-clause-kept
returns-in_err-take_room-clause-kept c =
    OnErr-always _
    (AreSameButRoom-card c.args.card.now c.take_room.new.self c.args.clients.now c.args.readers.now
    (record { card = c.take_room.ensures.card; played = c.take_room.ensures.played; rows = c.take_room.ensures.rows }))

pub returns-in_err-take_room-2-clause-kept : goal.returns-in_err-take_room-2-clause-kept
returns-in_err-take_room-2-clause-kept c =
    let kept : AreSameButRoom c.args.card.now c.take_room.new.self c.args.clients.now c.take_room-2.new.self c.args.readers.now c.args.readers.now = record {
      card = record { card = c.take_room.ensures.card; played = c.take_room.ensures.played; rows = c.take_room.ensures.rows };
      clients = c.in_err-take_room-2.ensures.same;
      places = c.take_room-2.ensures.places;
      readers = record { spare = refl; each = AreEach-same IsSameReaderWithRows 0 (readers_of c.args.readers.now) IsSameWithRows-none };
    } in
    OnErr-always _ kept

pub returns-clause-kept : goal.returns-clause-kept
returns-clause-kept c =
    let kept : AreSameButRoom c.args.card.now c.take_room.new.self c.args.clients.now c.take_room-2.new.self c.args.readers.now c.take_room-3.new.self = record {
      card = record { card = c.take_room.ensures.card; played = c.take_room.ensures.played; rows = c.take_room.ensures.rows };
      clients = AreEach-map (HasTakenRoom c.args.lines.now) IsSameWithRows 0 (clients_of c.args.clients.now) (clients_of c.take_room-2.new.self)
          (λ n d e taken. record { same = taken.same; rows = taken.rows }) c.in_ok-take_room-2.ensures.room;
      places = c.take_room-2.ensures.places;
      readers = c.take_room-3.ensures.same;
    } in
    OnErr-always c.take_room-3.result kept
