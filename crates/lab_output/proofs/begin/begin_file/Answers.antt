use Rattle.lab_output.specs.Prelude.{OnlyWrites-written, OnErr-written, OnOk-written, written-no_write}
use Rattle.lab_output.proofs.begin.begin_file.Goals as goal

pub returns : goal.returns
returns g c = record {
  opened = rw c.written.ensures (OnOk-written _ c.begin.result (rw (c.as_slice.ensures, c.open_header-head.ensures.head) at c.begin.ensures.ok));
  part = rw c.written.ensures (OnErr-written _ c.begin.result (rw (c.as_slice.ensures, c.open_header-head.ensures.head) at c.begin.ensures.err));
  only_writes = rw c.written.ensures
      (OnlyWrites-written g.S.Shelf c.begin.result _ _ c.begin.ensures.fetch_faults c.begin.ensures.faults c.begin.ensures.reliable);
  never = λ reliable. rw c.written.ensures (written-no_write c.begin.result (c.begin.ensures.begins reliable));
}
