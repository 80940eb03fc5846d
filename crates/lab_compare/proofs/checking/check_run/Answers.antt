use Rattle.lab_compare.specs.Prelude.{Err, subst, sym, ◌∙◌, ◌≡◌, Ok, Option, Files, AnswersFrom-last, AnswersFrom-passed, IsSameShelf-reads, IsSameShelf-same}
use Rattle.lab_compare.specs.Prelude.{IsSameShelf-then, IsSameShelf-tests, OnlyTests-after, OnlyTests-passed, OnlyTests-reads, input_of, IsReportIn}
use Rattle.lab_compare.proofs.CheckedFiles.{IsCheckedRun-done}
use Rattle.lab_compare.proofs.Checks.{check_in-input, check_in-read}
use Rattle.lab_compare.proofs.checking.check_run.Goals as goal

pub returns-in_err-input-clause-check : goal.returns-in_err-input-clause-check
returns-in_err-input-clause-check g c =
    AnswersFrom-passed g.S.Shelf _ _ c.from_residual.result c.in_err-input.field-0.0 _ _ _ _ c.from_residual.ensures.1
    (IsSameShelf-same g.S.Shelf _) c.in_err-input.ensures.input
    (λ m told. check_in-input m c.args.script.now c.args.report.now c.args.out.now)

pub returns-in_err-input-clause-only_tests : goal.returns-in_err-input-clause-only_tests
returns-in_err-input-clause-only_tests g c =
    OnlyTests-passed g.S.Shelf c.from_residual.result c.in_err-input.field-0.0 _ _ c.from_residual.ensures.1
    (OnlyTests-reads g.S.Shelf c.in_err-input.field-0.0 _ _ c.in_err-input.ensures.only_reads)

pub returns-in_err-tested-clause-check : goal.returns-in_err-tested-clause-check
returns-in_err-tested-clause-check g c =
    AnswersFrom-passed g.S.Shelf _ _ c.from_residual-in_err-tested.result c.in_err-tested.field-0.0 _ _ _ _ c.from_residual-in_err-tested.ensures.1
    (IsSameShelf-reads g.S.Shelf _ _ _ c.in_ok-input.ensures.only_reads) c.in_err-tested.ensures.report
    (λ m told e. check_in-read m c.args.script.now c.args.report.now c.args.out.now (input_of c.in_ok-input.input) (Err e) (c.in_ok-input.ensures.input.answer m told))

pub returns-in_err-tested-clause-only_tests : goal.returns-in_err-tested-clause-only_tests
returns-in_err-tested-clause-only_tests g c =
    OnlyTests-after g.S.Shelf _ _ _ _ (IsSameShelf-reads g.S.Shelf _ _ _ c.in_ok-input.ensures.only_reads)
    (OnlyTests-passed g.S.Shelf c.from_residual-in_err-tested.result c.in_err-tested.field-0.0 _ _ c.from_residual-in_err-tested.ensures.1
    c.in_err-tested.ensures.only_tests)

pub returns-clause-check : goal.returns-clause-check
returns-clause-check g c =
    AnswersFrom-last g.S.Shelf _ c.check_outputs.result _ _ _ _
    (IsSameShelf-then g.S.Shelf _ _ _ (IsSameShelf-reads g.S.Shelf _ _ _ c.in_ok-input.ensures.only_reads)
    (IsSameShelf-tests g.S.Shelf _ _ _ c.in_ok-tested.ensures.only_tests)) c.check_outputs.ensures.outputs
    (λ m told. sym (check_in-read m c.args.script.now c.args.report.now c.args.out.now (input_of c.in_ok-input.input) (Ok c.in_ok-tested.tested)
    (c.in_ok-input.ensures.input.answer m told) (c.in_ok-tested.ensures.report.answer m (c.in_ok-input.ensures.only_reads.files ∙ told))))

pub returns-clause-only_tests : goal.returns-clause-only_tests
returns-clause-only_tests g c =
    OnlyTests-after g.S.Shelf _ _ _ _
    (IsSameShelf-then g.S.Shelf _ _ _ (IsSameShelf-reads g.S.Shelf _ _ _ c.in_ok-input.ensures.only_reads)
    (IsSameShelf-tests g.S.Shelf _ _ _ c.in_ok-tested.ensures.only_tests)) c.check_outputs.ensures.only_tests

pub returns-clause-done : goal.returns-clause-done
returns-clause-done g c =
    let before : Option Files = g.S.Shelf.files c.args.shelf.now in
    let between : g.S.Shelf.files c.read_input.new.shelf ≡ before = c.in_ok-input.ensures.only_reads.files in
    IsCheckedRun-done c.checked_runs_show.ensures before c.args.script.now c.args.report.now c.args.out.now (input_of c.in_ok-input.input) c.in_ok-tested.tested c.check_outputs.result c.in_ok-input.ensures.input.answer
    (subst (λ (files : Option Files). IsReportIn files (input_of c.in_ok-input.input) c.args.report.now c.in_ok-tested.tested) between c.in_ok-tested.ensures.held)
    (λ m told. c.check_outputs.ensures.outputs.answer m (c.in_ok-tested.ensures.only_tests.files ∙ between ∙ told))
