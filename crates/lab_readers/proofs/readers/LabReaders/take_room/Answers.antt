use Rattle.lab_readers.specs.Prelude.{AreEach-ended, AreEach-map, AreEach-part, HasWalked-map, HasWalked-read, readers_of, HasTakenRoom, IsSameWithRows}
use Rattle.lab_readers.specs.Prelude.{IsSameWithRows-none}
use Rattle.lab_readers.proofs.readers.LabReaders.take_room.Goals as goal

pub loop-index-preserved : goal.loop-index-preserved
loop-index-preserved c =
    let l = c.loop-index in
    record {
      spare = l.invariant.spare;
      walked = HasWalked-read c.args.self.now.readers l.self.readers c.take_room.new.self c.index_mut.result.now c.len-index-end.ensures c.loop-index-test.true l.invariant.walked
          c.index_mut.ensures.value (record { room = c.in_ok-take_room.ensures.room; kept = record { same = c.take_room.ensures.same; rows = c.take_room.ensures.rows } });
    }

pub returns-in_err-take_room-clause-same : goal.returns-in_err-take_room-clause-same
returns-in_err-take_room-clause-same c =
    let l = c.loop-index in
    record {
      spare = l.invariant.spare;
      each = AreEach-part IsSameWithRows (readers_of c.args.self.now) _ _ IsSameWithRows-none
          (HasWalked-read c.args.self.now.readers l.self.readers c.take_room.new.self c.index_mut.result.now c.len-index-end.ensures c.loop-index-test.true
          (HasWalked-map (HasTakenRoom c.args.lines.now) IsSameWithRows (readers_of c.args.self.now) (readers_of l.self) l.index (λ i d e below taken. taken.kept) l.invariant.walked)
          c.index_mut.ensures.value (record { same = c.take_room.ensures.same; rows = c.take_room.ensures.rows }));
    }

pub returns-clause-room : goal.returns-clause-room
returns-clause-room c =
    let l = c.loop-index in
    record { spare = l.invariant.spare; each = AreEach-ended c.args.self.now.readers l.self.readers c.len-index-end.ensures c.loop-index-test.false l.invariant.walked }

pub returns-clause-same : goal.returns-clause-same
returns-clause-same c =
    let l = c.loop-index in
    record {
      spare = l.invariant.spare;
      each = AreEach-map (HasTakenRoom c.args.lines.now) IsSameWithRows 0 (readers_of c.args.self.now) (readers_of l.self) (λ j r s took. took.kept)
          (AreEach-ended c.args.self.now.readers l.self.readers c.len-index-end.ensures c.loop-index-test.false l.invariant.walked);
    }
