use Rattle.lab_readers.specs.Prelude.{arith, subst, sym, IsSameCard-joined, AreEach-ended, HasWalked-read, HasWalked-still, LabReader, readers_of, IsOfCard}
use Rattle.lab_readers.specs.Prelude.{IsInformedBy}
use Rattle.lab_readers.specs.OneReaderLaws.{IsOfCard-same}
use Rattle.lab_readers.proofs.readers.LabReaders.inform.Goals as goal

pub inform-requires : goal.inform-requires
inform-requires c =
    let l = c.loop-index in
    let d = c.index_mut.result.now in
    let was = HasWalked-still (IsInformedBy c.args.card.now) (readers_of c.args.self.now) (readers_of l.self) l.index d l.invariant.walked c.index_mut.ensures.value in
    let of = subst (λ (x : LabReader). IsOfCard c.args.card.now x) (sym was) (c.requires l.index d (omega arith)) in
    IsOfCard-same c.args.card.now l.card d l.invariant.card of

pub loop-index-preserved : goal.loop-index-preserved
loop-index-preserved c =
    let l = c.loop-index in
    record {
      spare = l.invariant.spare;
      card = IsSameCard-joined c.args.card.now l.card c.inform.new.card l.invariant.card c.inform.ensures.card;
      walked = HasWalked-read c.args.self.now.readers l.self.readers c.inform.new.self c.index_mut.result.now c.len-index-end.ensures c.loop-index-test.true l.invariant.walked
          c.index_mut.ensures.value (record { card = l.card; same = l.invariant.card; informed = c.inform.ensures.informed });
    }

pub returns-clause-informed : goal.returns-clause-informed
returns-clause-informed c =
    let l = c.loop-index in
    record { spare = l.invariant.spare; each = AreEach-ended c.args.self.now.readers l.self.readers c.len-index-end.ensures c.loop-index-test.false l.invariant.walked }
