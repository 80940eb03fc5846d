use Rattle.lab_compare.specs.Prelude.{ap, arith, length, List, subst, sym, ◌∙◌, ◌≡◌, Sound, HasTestedSegments, played_samples, AnswersFrom-last}
use Rattle.lab_compare.specs.Prelude.{AnswersFrom-memory, IsSameShelf-same, OnlyTests-memory, input_of, IsOutputFile-played, IsOutputFile}
use Rattle.lab_compare.proofs.Checks.{played_in-of}
use Rattle.lab_compare.proofs.checking.check_played.Goals as goal

pub played_samples-requires-clause-tested : goal.played_samples-requires-clause-tested
played_samples-requires-clause-tested g c =
    subst (λ (wavs : List Sound). HasTestedSegments c.args.input.now.script wavs c.args.report.now) (sym c.deref.ensures.value) c.requires.tested

pub check_file-requires-clause-file : goal.check_file-requires-clause-file
check_file-requires-clause-file g c =
    subst IsOutputFile (sym c.in_ok-file.ensures) (IsOutputFile-played c.args.input.now.script.card c.args.out.now c.requires.script.card)

pub check_file-requires-clause-size : goal.check_file-requires-clause-size
check_file-requires-clause-size g c = omega (arith, ap length c.deref-2.ensures.value, c.in_ok-samples.ensures.few)

pub returns-in_err-file-clause-played : goal.returns-in_err-file-clause-played
returns-in_err-file-clause-played g c = AnswersFrom-memory g.S.Shelf _ c.from_residual.result _ _ c.from_residual.ensures.1

pub returns-in_err-file-clause-only_tests : goal.returns-in_err-file-clause-only_tests
returns-in_err-file-clause-only_tests g c =
    OnlyTests-memory g.S.Shelf c.from_residual.result _ _ c.from_residual.ensures.1 (IsSameShelf-same g.S.Shelf _)

pub returns-in_err-samples-clause-played : goal.returns-in_err-samples-clause-played
returns-in_err-samples-clause-played g c = AnswersFrom-memory g.S.Shelf _ c.from_residual-in_err-samples.result _ _ c.from_residual-in_err-samples.ensures.1

pub returns-in_err-samples-clause-only_tests : goal.returns-in_err-samples-clause-only_tests
returns-in_err-samples-clause-only_tests g c =
    OnlyTests-memory g.S.Shelf c.from_residual-in_err-samples.result _ _ c.from_residual-in_err-samples.ensures.1 (IsSameShelf-same g.S.Shelf _)

pub returns-clause-played : goal.returns-clause-played
returns-clause-played g c =
    let samples : c.deref-2.result.now ≡ played_samples c.args.input.now.script c.args.input.now.wavs.items c.args.report.now =
    c.deref-2.ensures.value ∙ c.in_ok-samples.ensures.samples
    ∙ ap (λ (wavs : List Sound). played_samples c.args.input.now.script wavs c.args.report.now) c.deref.ensures.value in
    AnswersFrom-last g.S.Shelf _ c.check_file.result _ _ _ _ (IsSameShelf-same g.S.Shelf _) c.check_file.ensures.same
    (λ m told. played_in-of m (input_of c.args.input.now) c.args.out.now c.args.report.now _ _ _ c.line_of_played.ensures c.in_ok-file.ensures samples)
