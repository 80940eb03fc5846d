use Rattle.lab_refine.specs.Prelude.{ap, Err, rules, err_from_is_err_and, cause, IsSameShelf-reads, OnlyReads-done, OnlyReads-memory, OnlyReads-passed}
use Rattle.lab_stop.specs.EndLaws.{EndsOf-read, EndsReliably-read}
use Rattle.lab_stop.specs.FaultLaws.{FetchFaults-only}
use Rattle.lab_refine.proofs.AnswerLaws.{AreAnswers-unique}
use Rattle.lab_refine.proofs.file.refine_file.Goals as goal

pub returns-clause-answers : goal.returns-clause-answers
returns-clause-answers g c = record {
  request = c.in_ok-request.request;
  read = c.in_ok-request.ensures.request.answer;
  answers = c.in_ok-text.ensures.answers;
  only = λ other given. AreAnswers-unique c.in_ok-request.request _ other c.in_ok-text.ensures.answers given;
}

pub returns-in_err-request : goal.returns-in_err-request
returns-in_err-request g c =
    let p = err_from_is_err_and c.from_residual.result c.from_residual.ensures.1 in
    record {
      answers = search rules;
      cause = rw (p.1, p.2) (λ m told. EndsOf-read c.in_err-request.field-0.0 _ (c.in_err-request.ensures.request.answer m told));
      missing = λ reliable. rw (p.1, p.2)
          (λ m told. EndsReliably-read c.in_err-request.field-0.0 _ (c.in_err-request.ensures.request.answer m told)
          (c.in_err-request.ensures.request.missing reliable m told));
      only = rw (p.1, p.2) (FetchFaults-only {X = Unit {0}} (Err c.in_err-request.field-0.0) _ _ c.in_err-request.ensures.only_reads.faults);
      only_reads = OnlyReads-passed g.S.Shelf c.from_residual.result c.in_err-request.field-0.0 _ _ c.from_residual.ensures.1 c.in_err-request.ensures.only_reads;
    }

pub returns-in_err-text-clause-only_reads : goal.returns-in_err-text-clause-only_reads
returns-in_err-text-clause-only_reads g c =
    OnlyReads-memory g.S.Shelf c.from_residual-in_err-text.result _ _ c.from_residual-in_err-text.ensures.1
    (IsSameShelf-reads g.S.Shelf _ _ _ c.in_ok-request.ensures.only_reads)

pub returns-clause-cause : goal.returns-clause-cause
returns-clause-cause g c m told = ap cause (c.in_ok-request.ensures.request.answer m told)

pub returns-clause-only_reads : goal.returns-clause-only_reads
returns-clause-only_reads g c = OnlyReads-done g.S.Shelf _ _ _ (IsSameShelf-reads g.S.Shelf _ _ _ c.in_ok-request.ensures.only_reads)
