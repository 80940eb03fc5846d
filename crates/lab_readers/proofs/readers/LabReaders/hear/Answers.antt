use Rattle.lab_readers.specs.Prelude.{IsSameCard-joined, AreEach-ended, HasWalked-read}
use Rattle.lab_readers.proofs.readers.LabReaders.hear.Goals as goal

pub loop-index-preserved : goal.loop-index-preserved
loop-index-preserved c =
    let l = c.loop-index in
    let same = IsSameCard-joined c.args.card.now l.card c.hear.new.card l.invariant.card c.hear.ensures.card in
    record {
      spare = l.invariant.spare;
      card = same;
      walked = HasWalked-read c.args.self.now.readers l.self.readers c.hear.new.self c.index_mut.result.now c.len-index-end.ensures c.loop-index-test.true l.invariant.walked
          c.index_mut.ensures.value (record { card = c.hear.new.card; same = same; heard = c.hear.ensures.heard });
    }

pub returns-clause-heard : goal.returns-clause-heard
returns-clause-heard c =
    let l = c.loop-index in
    record { spare = l.invariant.spare; each = AreEach-ended c.args.self.now.readers l.self.readers c.len-index-end.ensures c.loop-index-test.false l.invariant.walked }
