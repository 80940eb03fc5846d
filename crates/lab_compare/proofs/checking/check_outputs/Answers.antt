use Rattle.lab_compare.specs.Prelude.{Err, sym, Ok, AnswersFrom-last, AnswersFrom-passed, IsSameShelf-same, IsSameShelf-tests, OnlyTests-after}
use Rattle.lab_compare.specs.Prelude.{OnlyTests-passed, input_of}
use Rattle.lab_compare.proofs.Checks.{outputs_in-of}
use Rattle.lab_compare.proofs.checking.check_outputs.Goals as goal

pub returns-in_err-check_played-clause-outputs : goal.returns-in_err-check_played-clause-outputs
returns-in_err-check_played-clause-outputs g c =
    AnswersFrom-passed g.S.Shelf _ _ c.from_residual.result c.in_err-check_played.field-0.0 _ _ _ _ c.from_residual.ensures.1
    (IsSameShelf-same g.S.Shelf _) c.in_err-check_played.ensures.played
    (λ m told e. outputs_in-of m (input_of c.args.input.now) c.args.out.now c.args.report.now (Err e))

pub returns-in_err-check_played-clause-only_tests : goal.returns-in_err-check_played-clause-only_tests
returns-in_err-check_played-clause-only_tests g c =
    OnlyTests-passed g.S.Shelf c.from_residual.result c.in_err-check_played.field-0.0 _ _ c.from_residual.ensures.1
    c.in_err-check_played.ensures.only_tests

pub returns-clause-outputs : goal.returns-clause-outputs
returns-clause-outputs g c =
    AnswersFrom-last g.S.Shelf _ c.check_recordings.result _ _ _ _ (IsSameShelf-tests g.S.Shelf _ _ _ c.in_ok-check_played.ensures.only_tests)
    c.check_recordings.ensures.recorded
    (λ m told. sym (outputs_in-of m (input_of c.args.input.now) c.args.out.now c.args.report.now (Ok tt) (c.in_ok-check_played.ensures.played.answer m told)))

pub returns-clause-only_tests : goal.returns-clause-only_tests
returns-clause-only_tests g c =
    OnlyTests-after g.S.Shelf _ _ _ _ (IsSameShelf-tests g.S.Shelf _ _ _ c.in_ok-check_played.ensures.only_tests) c.check_recordings.ensures.only_tests
