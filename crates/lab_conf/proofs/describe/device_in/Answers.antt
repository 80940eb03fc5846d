use Rattle.std.proofs.Common.{Err, Ok}
use Rattle.std.proofs.lemmas.Result.{err_from_is_err_and}
use Rattle.lab_stop.specs.ReadLaws.{AnswersFrom-passed, IsSameShelf-reads, IsSameShelf-same, OnlyReads-done, OnlyReads-passed}
use Rattle.lab_conf.proofs.Devices.{device_in-refused, device_in-lacks, device_in-read_of, device_in-text, Misses-conf, FetchFaults-conf}
use Rattle.lab_conf.proofs.describe.device_in.Goals as goal

pub returns-in_err-text-clause-device : goal.returns-in_err-text-clause-device
returns-in_err-text-clause-device g c =
    AnswersFrom-passed g.S.Shelf _ _ c.from_residual.result c.in_err-text.field-0.0 _ _ _ _ c.from_residual.ensures.1
    (IsSameShelf-same g.S.Shelf _) c.in_err-text.ensures.bytes (λ m told e. device_in-text m c.args.file.now c.args.name.now (Err e))

pub returns-in_err-text-clause-only_reads : goal.returns-in_err-text-clause-only_reads
returns-in_err-text-clause-only_reads g c =
    OnlyReads-passed g.S.Shelf c.from_residual.result c.in_err-text.field-0.0 _ _ c.from_residual.ensures.1 c.in_err-text.ensures.only_reads

pub returns-in_err-root-clause-device : goal.returns-in_err-root-clause-device
returns-in_err-root-clause-device g c =
    let p = err_from_is_err_and c.from_residual-in_err-root.result c.from_residual-in_err-root.ensures.1 in
    rw p.1
    (record {
      answer = device_in-refused _ _ _ _ _ _ _ c.in_ok-text.ensures.bytes.answer c.deref.ensures.value c.in_err-root.ensures.exact p.2;
      missing = λ reliable m told. Misses-conf _ _ _ p.2;
    })

pub returns-in_err-root-clause-only_reads : goal.returns-in_err-root-clause-only_reads
returns-in_err-root-clause-only_reads g c =
    let p = err_from_is_err_and c.from_residual-in_err-root.result c.from_residual-in_err-root.ensures.1 in
    let faults = FetchFaults-conf _ _ _ _ p.2 c.in_ok-text.ensures.only_reads.faults in
    rw p.1 (assumption (c.in_ok-text.ensures.only_reads))

pub returns-in_err-found-clause-device : goal.returns-in_err-found-clause-device
returns-in_err-found-clause-device g c =
    let p = err_from_is_err_and c.from_residual-in_err-found.result c.from_residual-in_err-found.ensures.1 in
    rw p.1
    (record {
      answer = device_in-lacks _ _ _ _ _ _ _ _ c.in_ok-text.ensures.bytes.answer c.deref.ensures.value c.in_ok-root.ensures.exact c.in_err-found.ensures.value p.2;
      missing = λ reliable m told. Misses-conf _ _ _ p.2;
    })

pub returns-in_err-found-clause-only_reads : goal.returns-in_err-found-clause-only_reads
returns-in_err-found-clause-only_reads g c =
    let p = err_from_is_err_and c.from_residual-in_err-found.result c.from_residual-in_err-found.ensures.1 in
    let faults = FetchFaults-conf _ _ _ _ p.2 c.in_ok-text.ensures.only_reads.faults in
    rw p.1 (assumption (c.in_ok-text.ensures.only_reads))

pub returns-clause-device : goal.returns-clause-device
returns-clause-device g c = record {
  answer = device_in-read_of _ _ _ _ _ _ (Ok c.in_ok-found.found) c.in_ok-text.ensures.bytes.answer c.deref.ensures.value c.in_ok-root.ensures.exact c.in_ok-found.ensures.value;
  missing = λ is m told. tt;
}

pub returns-clause-only_reads : goal.returns-clause-only_reads
returns-clause-only_reads g c = OnlyReads-done g.S.Shelf _ _ _ (IsSameShelf-reads g.S.Shelf _ _ _ c.in_ok-text.ensures.only_reads)
