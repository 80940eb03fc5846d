use Rattle.lab_stop.specs.EffectLaws.{OnlyWrites-written}
use Rattle.lab_stop.specs.Writing.{OnOk-written, OnErr-written, written-no_write}
use Rattle.lab_make.proofs.storage.store.Goals as goal

pub returns : goal.returns
returns g c = record {
  stored = rw c.written.ensures (OnOk-written _ c.store.result c.store.ensures.ok);
  part = rw c.written.ensures (OnErr-written _ c.store.result c.store.ensures.err);
  only_writes =
      rw c.written.ensures
      (OnlyWrites-written g.S.Shelf c.store.result _ _ c.store.ensures.fetch_faults c.store.ensures.faults c.store.ensures.reliable);
  never = λ reliable. rw c.written.ensures (written-no_write c.store.result (c.store.ensures.stores reliable));
}
