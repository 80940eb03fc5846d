use Rattle.lab_phase.specs.Prelude.{ap, arith, refl, subst, length, List, ◌++◌, Row, CardActor, IsSameCard-joined, AreOf-same, OnErr-always, asks_of}
use Rattle.lab_phase.specs.Prelude.{HaveGivenRows, length-given}
use Rattle.lab_phase.proofs.MeetLaws.{AreOf-lines, AreOfCard-ran, CardCanRun-met, ClientsCanRun-met, HaveMet-halves, ReadersCanRun-met}
use Rattle.lab_phase.proofs.phase.run_together.Goals as goal

pub take_room-requires : goal.take_room-requires
take_room-requires g c = c.requires.fits

pub returns-in_err-take_room-clause-kept : goal.returns-in_err-take_room-clause-kept
returns-in_err-take_room-clause-kept g c = OnErr-always _ c.in_err-take_room.ensures.kept

pub returns-in_err-take_room-clause-rows : goal.returns-in_err-take_room-clause-rows
returns-in_err-take_room-clause-rows g c = OnErr-always _ c.in_err-take_room.ensures.rows

pub returns-in_err-take_room-clause-gates : goal.returns-in_err-take_room-clause-gates
returns-in_err-take_room-clause-gates g c = OnErr-always _ refl

pub inform-requires : goal.inform-requires
inform-requires g c =
    let can = c.requires.meet c.take_room.new.card c.take_room.new.clients c.take_room.new.readers c.in_ok-take_room.ensures.room in
    can.clients_of_card

pub inform-requires-2 : goal.inform-requires-2
inform-requires-2 g c =
    let can = c.requires.meet c.take_room.new.card c.take_room.new.clients c.take_room.new.readers c.in_ok-take_room.ensures.room in
    AreOf-same c.take_room.new.card.card c.inform.new.card _ c.inform.ensures.card can.readers_of_card

pub split_at_mut-client_gates-requires : goal.split_at_mut-client_gates-requires
split_at_mut-client_gates-requires g c =
    let can = c.requires.meet c.take_room.new.card c.take_room.new.clients c.take_room.new.readers c.in_ok-take_room.ensures.room in
    let few = can.few_readers in
    omega (arith, few)

pub run_all-requires-clause-card : goal.run_all-requires-clause-card
run_all-requires-clause-card g c κs within =
    let can = c.requires.meet c.take_room.new.card c.take_room.new.clients c.take_room.new.readers c.in_ok-take_room.ensures.room in
    let a = c.take_room.new.card in
    let before : CardActor = record a { card = c.inform-2.new.card } in
    CardCanRun-met c.args.asked.now.lines.now a before
    (record { card = IsSameCard-joined a.card c.inform.new.card c.inform-2.new.card c.inform.ensures.card c.inform-2.ensures.card; played = refl; rows = refl; captured = refl }) can.card

pub run_all-requires-clause-clients : goal.run_all-requires-clause-clients
run_all-requires-clause-clients g c κs within =
    let can = c.requires.meet c.take_room.new.card c.take_room.new.clients c.take_room.new.readers c.in_ok-take_room.ensures.room in
    let front_len = c.split_at_mut-client_gates.ensures.front_len in
    ClientsCanRun-met _ c.args.asked.now c.take_room.new.card c.take_room.new.clients c.inform.new.self c.take_room.new.readers c.inform-2.new.self can _ (omega (arith, front_len))
    c.inform.ensures.informed

pub run_all-requires-clause-readers : goal.run_all-requires-clause-readers
run_all-requires-clause-readers g c κs within =
    let can = c.requires.meet c.take_room.new.card c.take_room.new.clients c.take_room.new.readers c.in_ok-take_room.ensures.room in
    let back_len = c.split_at_mut-client_gates.ensures.back_len in
    ReadersCanRun-met _ c.args.asked.now c.take_room.new.card c.take_room.new.clients c.inform.new.self c.take_room.new.readers c.inform-2.new.self can _ c.inform.new.card
    (omega (arith, back_len)) c.inform-2.ensures.informed

pub hear-requires : goal.hear-requires
hear-requires g c =
    let can = c.requires.meet c.take_room.new.card c.take_room.new.clients c.take_room.new.readers c.in_ok-take_room.ensures.room in
    let a = c.take_room.new.card in
    let before : CardActor = record a { card = c.inform-2.new.card } in
    AreOfCard-ran g.G.Gate _ _ (asks_of c.args.asked.now) a before c.run_all.new.card c.take_room.new.clients c.inform.new.self c.run_all.new.clients
    (IsSameCard-joined a.card c.inform.new.card c.inform-2.new.card c.inform.ensures.card c.inform-2.ensures.card) c.run_all.ensures.card c.inform.ensures.informed c.run_all.ensures.clients
    can.clients_of_card

pub hear-requires-2 : goal.hear-requires-2
hear-requires-2 g c =
    let can = c.requires.meet c.take_room.new.card c.take_room.new.clients c.take_room.new.readers c.in_ok-take_room.ensures.room in
    let a = c.take_room.new.card in
    let before : CardActor = record a { card = c.inform-2.new.card } in
    AreOf-lines g.G.Gate _ _ (asks_of c.args.asked.now) a before c.run_all.new.card c.inform.new.card c.hear.new.card c.take_room.new.readers c.inform-2.new.self c.run_all.new.readers
    (IsSameCard-joined a.card c.inform.new.card c.inform-2.new.card c.inform.ensures.card c.inform-2.ensures.card) c.run_all.ensures.card c.hear.ensures.card c.inform-2.ensures.informed
    c.run_all.ensures.readers can.readers_of_card

pub take_rows-requires : goal.take_rows-requires
take_rows-requires g c =
    let halves = c.split_at_mut-client_gates in
    let met = HaveMet-halves g.G.Gate c.args.gates.now halves.result.0.now c.run_all.new.client_gates halves.result.1.now c.run_all.new.reader_gates (asks_of c.args.asked.now) c.take_room.new.card
    c.run_all.new.card c.inform.new.card c.inform-2.new.card c.hear.new.card c.hear-2.new.card c.take_room.new.clients c.inform.new.self c.run_all.new.clients c.hear.new.self
    c.take_room.new.readers c.inform-2.new.self c.run_all.new.readers c.hear-2.new.self halves.ensures.value halves.ensures.front_len c.run_all.auto.client_gates
    c.inform.ensures.card c.inform-2.ensures.card c.inform.ensures.informed c.inform-2.ensures.informed c.run_all.ensures c.hear.ensures.card c.hear-2.ensures.card
    c.hear.ensures.heard c.hear-2.ensures.heard c.inform.ensures.places c.hear.ensures.places in
    let space = c.in_ok-take_room.ensures.rows_room in
    let few = c.requires.few_rows (c.run_all.new.client_gates ++ c.run_all.new.reader_gates) c.take_room.new.card (record c.run_all.new.card { card = c.hear-2.new.card }) c.take_room.new.clients c.hear.new.self
    c.take_room.new.readers c.hear-2.new.self c.in_ok-take_room.ensures.room met in
    omega (arith, space, few)

pub returns-clause-run : goal.returns-clause-run
returns-clause-run g c =
    let halves = c.split_at_mut-client_gates in
    let met = HaveMet-halves g.G.Gate c.args.gates.now halves.result.0.now c.run_all.new.client_gates halves.result.1.now c.run_all.new.reader_gates (asks_of c.args.asked.now) c.take_room.new.card
    c.run_all.new.card c.inform.new.card c.inform-2.new.card c.hear.new.card c.hear-2.new.card c.take_room.new.clients c.inform.new.self c.run_all.new.clients c.hear.new.self
    c.take_room.new.readers c.inform-2.new.self c.run_all.new.readers c.hear-2.new.self halves.ensures.value halves.ensures.front_len c.run_all.auto.client_gates
    c.inform.ensures.card c.inform-2.ensures.card c.inform.ensures.informed c.inform-2.ensures.informed c.run_all.ensures c.hear.ensures.card c.hear-2.ensures.card
    c.hear.ensures.heard c.hear-2.ensures.heard c.inform.ensures.places c.hear.ensures.places in
    let last : CardActor = record c.run_all.new.card { card = c.hear-2.new.card } in
    record {
      roomy_card = c.take_room.new.card;
      roomy_clients = c.take_room.new.clients;
      roomy_readers = c.take_room.new.readers;
      met_card = last;
      met_clients = c.hear.new.self;
      met_readers = c.hear-2.new.self;
      room = c.in_ok-take_room.ensures.room;
      met = met;
      given = subst
          (λ (rows : List Row). HaveGivenRows rows c.take_rows.new.rows.items last c.take_rows.new.card c.hear.new.self c.take_rows.new.clients c.hear-2.new.self c.take_rows.new.readers)
          c.take_room.ensures.rows c.take_rows.ensures;
      few =
          let few = c.requires.few_rows (c.run_all.new.client_gates ++ c.run_all.new.reader_gates) c.take_room.new.card (record c.run_all.new.card { card = c.hear-2.new.card }) c.take_room.new.clients c.hear.new.self
          c.take_room.new.readers c.hear-2.new.self c.in_ok-take_room.ensures.room met in
          let given = length-given c.take_room.new.rows.items c.take_rows.new.rows.items last c.take_rows.new.card c.hear.new.self c.take_rows.new.clients c.hear-2.new.self
          c.take_rows.new.readers c.take_rows.ensures in
          let same = ap length c.take_room.ensures.rows in
          omega (arith, few, given, same);
    }
