use Rattle.std.proofs.Common.{Err, ap, rules}
use Rattle.std.proofs.lemmas.Result.{err_from_is_err_and}
use Rattle.lab_stop.specs.Causes.{cause}
use Rattle.lab_stop.specs.EndLaws.{EndsOf-read, EndsReliably-read}
use Rattle.lab_stop.specs.FaultLaws.{FetchFaults-only}
use Rattle.lab_stop.specs.ReadLaws.{IsSameShelf-reads, OnlyReads-done, OnlyReads-memory, OnlyReads-passed}
use Rattle.lab_conf.proofs.CardLines.{IsScriptText-card}
use Rattle.lab_conf.proofs.describe.describe_device.Goals as goal

pub returns-clause-lines : goal.returns-clause-lines
returns-clause-lines g c = record {
  device = c.in_ok-device.device;
  read = c.in_ok-device.ensures.device.answer;
  lines = c.in_ok-text.ensures;
  card = IsScriptText-card c.in_ok-device.device c.in_ok-device.ensures.card;
}

pub returns-in_err-device : goal.returns-in_err-device
returns-in_err-device g c =
    let p = err_from_is_err_and c.from_residual.result c.from_residual.ensures.1 in
    record {
      lines = search rules;
      cause = rw (p.1, p.2) (λ m told. EndsOf-read c.in_err-device.field-0.0 _ (c.in_err-device.ensures.device.answer m told));
      missing = λ reliable. rw (p.1, p.2)
          (λ m told. EndsReliably-read c.in_err-device.field-0.0 _ (c.in_err-device.ensures.device.answer m told)
          (c.in_err-device.ensures.device.missing reliable m told));
      only = rw (p.1, p.2) (FetchFaults-only {X = Unit {0}} (Err c.in_err-device.field-0.0) _ _ c.in_err-device.ensures.only_reads.faults);
      only_reads = OnlyReads-passed g.S.Shelf c.from_residual.result c.in_err-device.field-0.0 _ _ c.from_residual.ensures.1 c.in_err-device.ensures.only_reads;
    }

pub returns-in_err-text-clause-only_reads : goal.returns-in_err-text-clause-only_reads
returns-in_err-text-clause-only_reads g c =
    OnlyReads-memory g.S.Shelf c.from_residual-in_err-text.result _ _ c.from_residual-in_err-text.ensures.1
    (IsSameShelf-reads g.S.Shelf _ _ _ c.in_ok-device.ensures.only_reads)

pub returns-clause-cause : goal.returns-clause-cause
returns-clause-cause g c m told = ap cause (c.in_ok-device.ensures.device.answer m told)

pub returns-clause-only_reads : goal.returns-clause-only_reads
returns-clause-only_reads g c = OnlyReads-done g.S.Shelf _ _ _ (IsSameShelf-reads g.S.Shelf _ _ _ c.in_ok-device.ensures.only_reads)
