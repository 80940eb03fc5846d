use Rattle.lab_refine.specs.Prelude.{Err, err_from_is_err_and, Ok, AnswersFrom-passed, IsSameShelf-reads, IsSameShelf-same, OnlyReads-done, OnlyReads-passed}
use Rattle.lab_refine.proofs.Requests.{request_in-refused, request_in-read, request_in-text, Misses-refused, FetchFaults-refused}
use Rattle.lab_refine.proofs.file.request_in.Goals as goal

pub returns-in_err-text-clause-request : goal.returns-in_err-text-clause-request
returns-in_err-text-clause-request g c =
    AnswersFrom-passed g.S.Shelf _ _ c.from_residual.result c.in_err-text.field-0.0 _ _ _ _ c.from_residual.ensures.1
    (IsSameShelf-same g.S.Shelf _) c.in_err-text.ensures.bytes (λ m told e. request_in-text m c.args.name.now (Err e))

pub returns-in_err-text-clause-only_reads : goal.returns-in_err-text-clause-only_reads
returns-in_err-text-clause-only_reads g c =
    OnlyReads-passed g.S.Shelf c.from_residual.result c.in_err-text.field-0.0 _ _ c.from_residual.ensures.1 c.in_err-text.ensures.only_reads

pub returns-in_err-request-clause-request : goal.returns-in_err-request-clause-request
returns-in_err-request-clause-request g c =
    let p = err_from_is_err_and c.from_residual-in_err-request.result c.from_residual-in_err-request.ensures.1 in
    rw p.1
    (record {
      answer = request_in-refused _ _ _ _ _ _ c.in_ok-text.ensures.bytes.answer c.deref.ensures.value c.in_err-request.ensures.exact p.2;
      missing = λ reliable m told. Misses-refused _ _ _ _ c.in_err-request.ensures.exact p.2;
    })

pub returns-in_err-request-clause-only_reads : goal.returns-in_err-request-clause-only_reads
returns-in_err-request-clause-only_reads g c =
    let p = err_from_is_err_and c.from_residual-in_err-request.result c.from_residual-in_err-request.ensures.1 in
    let faults = FetchFaults-refused _ _ _ _ _ c.in_err-request.ensures.exact p.2 c.in_ok-text.ensures.only_reads.faults in
    rw p.1 (assumption (c.in_ok-text.ensures.only_reads))

pub returns-clause-request : goal.returns-clause-request
returns-clause-request g c = record {
  answer = request_in-read _ _ _ _ (Ok c.in_ok-request.request) c.in_ok-text.ensures.bytes.answer c.deref.ensures.value c.in_ok-request.ensures.exact;
  missing = λ is m told. tt;
}

pub returns-clause-only_reads : goal.returns-clause-only_reads
returns-clause-only_reads g c = OnlyReads-done g.S.Shelf _ _ _ (IsSameShelf-reads g.S.Shelf _ _ _ c.in_ok-text.ensures.only_reads)
