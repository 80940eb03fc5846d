use Rattle.lab_output.specs.Prelude.{OnlyWrites-written, OnErr-written, OnOk-written, written-no_write}
use Rattle.lab_output.proofs.Held.{no-failure}
use Rattle.lab_output.proofs.append.append_bytes.Goals as goal

pub returns : goal.returns
returns g c = record {
  appended = rw c.written.ensures (OnOk-written _ c.append.result c.append.ensures.ok);
  part = rw c.written.ensures (OnErr-written _ c.append.result c.append.ensures.err);
  only_writes = rw c.written.ensures
      (OnlyWrites-written g.S.Shelf c.append.result _ _ c.append.ensures.fetch_faults c.append.ensures.faults c.append.ensures.reliable);
  never = λ reliable there. rw c.written.ensures
      (written-no_write c.append.result (no-failure _ _ c.append.result (c.append.ensures.missing reliable) there));
}
