use Rattle.lab_compare.specs.Prelude.{Err, AnswersFrom-passed, IsSameShelf-same, OnlyTests-passed, OnlyTests-reads, input_of}
use Rattle.lab_compare.proofs.Checks.{Misses-test, TestFaults-passed, tested-answers, tested-held, tested_in-of}
use Rattle.lab_compare.proofs.checking.load_report.Goals as goal

pub returns-in_err-text-clause-report : goal.returns-in_err-text-clause-report
returns-in_err-text-clause-report g c =
    AnswersFrom-passed g.S.Shelf _ _ c.from_residual.result c.in_err-text.field-0.0 _ _ _ _ c.from_residual.ensures.1
    (IsSameShelf-same g.S.Shelf _) c.in_err-text.ensures.bytes (λ m told e. tested_in-of m (input_of c.args.input.now) c.args.name.now (Err e))

pub returns-in_err-text-clause-only_tests : goal.returns-in_err-text-clause-only_tests
returns-in_err-text-clause-only_tests g c =
    OnlyTests-passed g.S.Shelf c.from_residual.result c.in_err-text.field-0.0 _ _ c.from_residual.ensures.1
    (OnlyTests-reads g.S.Shelf c.in_err-text.field-0.0 _ _ c.in_err-text.ensures.only_reads)

pub returns-clause-report : goal.returns-clause-report
returns-clause-report g c =
    rw c.passed.ensures
    (record {
      answer = tested-answers (g.S.Shelf.files c.args.shelf.now) (input_of c.args.input.now) _ c.args.name.now _ _ c.tested_report.result
          c.in_ok-text.ensures.bytes.answer c.deref.ensures.value c.deref-2.ensures.value c.tested_report.ensures.answer;
      missing = λ reliable m told. Misses-test c.tested_report.result _;
    })

pub returns-clause-held : goal.returns-clause-held
returns-clause-held g c =
    rw c.passed.ensures
    (tested-held (g.S.Shelf.files c.args.shelf.now) (input_of c.args.input.now) _ c.args.name.now _ _ c.tested_report.result
    c.in_ok-text.ensures.bytes.answer c.deref.ensures.value c.deref-2.ensures.value c.tested_report.ensures.answer
    c.tested_report.ensures.segments c.tested_report.ensures.runs)

pub returns-clause-only_tests : goal.returns-clause-only_tests
returns-clause-only_tests g c =
    let reads = c.in_ok-text.ensures.only_reads in
    let faults = TestFaults-passed c.tested_report.result _ _ reads.faults in
    rw c.passed.ensures assumption
