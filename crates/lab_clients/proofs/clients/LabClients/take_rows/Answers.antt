use Rattle.lab_clients.specs.Prelude.{ap, arith, length, List, subst, sym, ◌++◌, ◌∙◌, take_all, flat_map, HasSpace, rows-next, rows-room, AreEach-ended}
use Rattle.lab_clients.specs.Prelude.{HasWalked-read, LabClient, clients_of, rows_of, HasGivenRows}
use Rattle.lab_clients.proofs.clients.LabClients.take_rows.Goals as goal

pub take_rows-requires : goal.take_rows-requires
take_rows-requires c =
    let l = c.loop-index in
    subst (λ (x : LabClient). HasSpace (length (rows_of x)) l.rows) (sym c.index_mut.ensures.value)
    (rows-room rows_of HasGivenRows c.args.rows.now l.rows (clients_of c.args.self.now) (clients_of l.self) l.index c.index_mut.result.now (omega arith) l.invariant.walked l.invariant.rows
    c.requires l.invariant.room)

pub loop-index-preserved : goal.loop-index-preserved
loop-index-preserved c =
    let l = c.loop-index in
    let d = c.index_mut.result.now in
    let was = l.invariant.room in
    let grown = c.take_rows.ensures.room in
    record {
      places = l.invariant.places;
      walked = HasWalked-read c.args.self.now.clients l.self.clients c.take_rows.new.self d c.len-index-end.ensures c.loop-index-test.true l.invariant.walked c.index_mut.ensures.value
          (record { none = c.take_rows.ensures.none; same = c.take_rows.ensures.same });
      rows = c.take_rows.ensures.rows ∙ ap (λ (x : LabClient). l.rows.items ++ rows_of x) c.index_mut.ensures.value
          ∙ rows-next rows_of HasGivenRows c.args.rows.now.items l.rows.items (clients_of c.args.self.now) (clients_of l.self) l.index d (omega arith) l.invariant.walked l.invariant.rows;
      room = omega (arith, was, grown);
    }

pub returns-clause-clients : goal.returns-clause-clients
returns-clause-clients c =
    AreEach-ended c.args.self.now.clients c.loop-index.self.clients c.len-index-end.ensures c.loop-index-test.false c.loop-index.invariant.walked

pub returns-clause-rows : goal.returns-clause-rows
returns-clause-rows c =
    let l = c.loop-index in
    let over = c.loop-index-test.false in
    l.invariant.rows ∙ ap (λ (xs : List LabClient). c.args.rows.now.items ++ flat_map rows_of xs) (take_all l.index (clients_of c.args.self.now) (omega (arith, over)))
