use Rattle.lab_compare.specs.Prelude.{ap, Err, ◌∙◌, AnswersFrom-passed, IsSameShelf-reads, IsSameShelf-same, OnlyTests-done, OnlyTests-passed, OnlyTests-reads}
use Rattle.lab_compare.specs.Prelude.{same_or_line}
use Rattle.lab_compare.proofs.Checks.{same_in-of}
use Rattle.lab_compare.proofs.comparison.check_file.Goals as goal

pub returns-in_err-same-clause-same : goal.returns-in_err-same-clause-same
returns-in_err-same-clause-same g c =
    AnswersFrom-passed g.S.Shelf _ _ c.from_residual.result c.in_err-same.field-0.0 _ _ _ _ c.from_residual.ensures.1
    (IsSameShelf-same g.S.Shelf _) c.in_err-same.ensures.same (λ m told e. same_in-of m c.args.line c.args.file.now c.args.samples.now (Err e))

pub returns-in_err-same-clause-only_tests : goal.returns-in_err-same-clause-only_tests
returns-in_err-same-clause-only_tests g c =
    OnlyTests-passed g.S.Shelf c.from_residual.result c.in_err-same.field-0.0 _ _ c.from_residual.ensures.1
    (OnlyTests-reads g.S.Shelf c.in_err-same.field-0.0 _ _ c.in_err-same.ensures.only_reads)

pub returns-then-same-clause-same : goal.returns-then-same-clause-same
returns-then-same-clause-same g c = record {
  answer = λ m told. same_in-of m c.args.line c.args.file.now c.args.samples.now _ (c.in_ok-same.ensures.same.answer m told)
      ∙ ap (same_or_line c.args.line) c.if-same.true;
  missing = λ is m told. tt;
}

pub returns-then-same-clause-only_tests : goal.returns-then-same-clause-only_tests
returns-then-same-clause-only_tests g c = OnlyTests-done g.S.Shelf _ _ _ (IsSameShelf-reads g.S.Shelf _ _ _ c.in_ok-same.ensures.only_reads)

pub returns-else-same-clause-same : goal.returns-else-same-clause-same
returns-else-same-clause-same g c = record {
  answer = λ m told. same_in-of m c.args.line c.args.file.now c.args.samples.now _ (c.in_ok-same.ensures.same.answer m told)
      ∙ ap (same_or_line c.args.line) c.if-same.false;
  missing = λ is m told. tt;
}

pub returns-else-same-clause-only_tests : goal.returns-else-same-clause-only_tests
returns-else-same-clause-only_tests g c = let reads = c.in_ok-same.ensures.only_reads in assumption
