use Rattle.lab_compare.specs.Prelude.{ap, arith, length, subst, sym, slice_get_within, AnswersFrom-last, AnswersFrom-memory, IsSameShelf-same, OnlyTests-memory}
use Rattle.lab_compare.specs.Prelude.{input_of, IsOutputFile-recorded, IsOutputFile}
use Rattle.lab_compare.proofs.Checks.{reader-line, reader_samples-taken, recording_in-of}
use Rattle.lab_compare.proofs.checking.check_recording.Goals as goal

pub reader_samples-requires-clause-number : goal.reader_samples-requires-clause-number
reader_samples-requires-clause-number g c = slice_get_within c.args.input.now.script.readers c.args.number c.args.reader.now c.requires.reader

pub check_file-requires-clause-file : goal.check_file-requires-clause-file
check_file-requires-clause-file g c =
    subst IsOutputFile (sym c.in_ok-file.ensures)
    (IsOutputFile-recorded c.args.input.now.script.card c.args.out.now c.args.reader.now c.requires.script.card
    (reader-line c.args.input.now.script.card c.args.input.now.script.readers c.args.number c.args.reader.now c.requires.script.each_reader c.requires.reader))

pub check_file-requires-clause-size : goal.check_file-requires-clause-size
check_file-requires-clause-size g c = omega (arith, ap length c.deref.ensures.value, c.in_ok-samples.ensures.few)

pub returns-in_err-file-clause-recorded : goal.returns-in_err-file-clause-recorded
returns-in_err-file-clause-recorded g c = AnswersFrom-memory g.S.Shelf _ c.from_residual.result _ _ c.from_residual.ensures.1

pub returns-in_err-file-clause-only_tests : goal.returns-in_err-file-clause-only_tests
returns-in_err-file-clause-only_tests g c =
    OnlyTests-memory g.S.Shelf c.from_residual.result _ _ c.from_residual.ensures.1 (IsSameShelf-same g.S.Shelf _)

pub returns-in_err-samples-clause-recorded : goal.returns-in_err-samples-clause-recorded
returns-in_err-samples-clause-recorded g c = AnswersFrom-memory g.S.Shelf _ c.from_residual-in_err-samples.result _ _ c.from_residual-in_err-samples.ensures.1

pub returns-in_err-samples-clause-only_tests : goal.returns-in_err-samples-clause-only_tests
returns-in_err-samples-clause-only_tests g c =
    OnlyTests-memory g.S.Shelf c.from_residual-in_err-samples.result _ _ c.from_residual-in_err-samples.ensures.1 (IsSameShelf-same g.S.Shelf _)

pub returns-clause-recorded : goal.returns-clause-recorded
returns-clause-recorded g c =
    AnswersFrom-last g.S.Shelf _ c.check_file.result _ _ _ _ (IsSameShelf-same g.S.Shelf _) c.check_file.ensures.same
    (λ m told. recording_in-of m (input_of c.args.input.now) c.args.out.now c.args.report.now c.args.number c.args.reader.now _ _ _ c.line_of_end.ensures
    c.in_ok-file.ensures
    (reader_samples-taken c.args.input.now.script.card c.args.input.now.capture _ c.args.report.now c.args.input.now.script.readers c.args.number c.args.reader.now _ _
    c.deref.ensures.value c.in_ok-samples.ensures.samples c.as_ref-capture.ensures.value c.requires.reader))
