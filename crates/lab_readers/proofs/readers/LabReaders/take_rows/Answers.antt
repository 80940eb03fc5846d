use Rattle.lab_readers.specs.Prelude.{ap, arith, length, subst, sym, ◌++◌, ◌∙◌, HasSpace, rows-next, rows-room, AreEach-ended, HasWalked-read, LabReader}
use Rattle.lab_readers.specs.Prelude.{readers_of, rows_of, HasGivenRows}
use Rattle.lab_readers.proofs.readers.LabReaders.take_rows.Goals as goal

pub take_rows-requires : goal.take_rows-requires
take_rows-requires c =
    let l = c.loop-index in
    subst (λ (x : LabReader). HasSpace (length (rows_of x)) l.rows) (sym c.index_mut.ensures.value)
    (rows-room rows_of HasGivenRows c.args.rows.now l.rows (readers_of c.args.self.now) (readers_of l.self) l.index c.index_mut.result.now (omega arith) l.invariant.walked l.invariant.rows
    c.requires l.invariant.room)

pub loop-index-preserved : goal.loop-index-preserved
loop-index-preserved c =
    let l = c.loop-index in
    let d = c.index_mut.result.now in
    let was = l.invariant.room in
    let grown = c.take_rows.ensures.room in
    record {
      spare = l.invariant.spare;
      walked = HasWalked-read c.args.self.now.readers l.self.readers c.take_rows.new.self d c.len-index-end.ensures c.loop-index-test.true l.invariant.walked c.index_mut.ensures.value
          (record { same = c.take_rows.ensures.same; rows = c.take_rows.ensures.none });
      rows = c.take_rows.ensures.rows ∙ ap (λ (x : LabReader). l.rows.items ++ rows_of x) c.index_mut.ensures.value
          ∙ rows-next rows_of HasGivenRows c.args.rows.now.items l.rows.items (readers_of c.args.self.now) (readers_of l.self) l.index d (omega arith) l.invariant.walked l.invariant.rows;
      room = omega (arith, was, grown);
    }

pub returns-clause-readers : goal.returns-clause-readers
returns-clause-readers c =
    let l = c.loop-index in
    record { spare = l.invariant.spare; each = AreEach-ended c.args.self.now.readers l.self.readers c.len-index-end.ensures c.loop-index-test.false l.invariant.walked }
