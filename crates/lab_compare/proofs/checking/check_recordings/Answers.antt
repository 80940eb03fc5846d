use Rattle.lab_compare.specs.Prelude.{ap, arith, Err, length, List, refl, subst, sym, ℕ, ◌+◌, ◌∙◌, ◌≤◌, slice_get_read, Ok, slice_get, ReaderLine}
use Rattle.lab_compare.specs.Prelude.{AnswersFrom-passed, IsSameShelf-same, IsSameShelf-then, IsSameShelf-tests, OnlyTests-after, OnlyTests-done}
use Rattle.lab_compare.specs.Prelude.{OnlyTests-passed, input_of}
use Rattle.lab_compare.proofs.Checks.{recordings_in-all, recordings_in-next}
use Rattle.lab_compare.proofs.checking.check_recordings.Goals as goal

pub loop-reader-init : goal.loop-reader-init
loop-reader-init g c = record {
  so_far = λ m told. refl;
  counted = refl;
  same = IsSameShelf-same g.S.Shelf _;
}

pub overflow_add-number : goal.overflow_add-number
overflow_add-number g c =
    omega (arith, c.loop-reader.invariant.counted, c.loop-reader-test.true, ap length c.as_slice-reader-items.ensures, c.requires.script.readers)

pub check_recording-requires-clause-reader : goal.check_recording-requires-clause-reader
check_recording-requires-clause-reader g c =
    ap (λ (n : ℕ). slice_get c.args.input.now.script.readers n) c.loop-reader.invariant.counted
    ∙ ap (λ (readers : List ReaderLine). slice_get readers c.loop-reader.reader-index) (sym c.as_slice-reader-items.ensures)
    ∙ slice_get_read _ _ _ _ refl c.loop-reader-test.true c.reader-item.is

pub loop-reader-preserved : goal.loop-reader-preserved
loop-reader-preserved g c = record {
  so_far = λ m told. recordings_in-next m (input_of c.args.input.now) c.args.out.now c.args.report.now c.args.input.now.script.readers
      c.loop-reader.reader-index c.loop-reader.number c.reader-item.result (Ok tt) (c.loop-reader.invariant.so_far m told) (rw c.as_slice-reader-items.ensures at c.loop-reader-test.true) (rw c.as_slice-reader-items.ensures at c.reader-item.is)
      (c.in_ok-check_recording.ensures.recorded.answer m (c.loop-reader.invariant.same.files ∙ told));
  counted = ap (λ (n : ℕ). n + 1) c.loop-reader.invariant.counted;
  same = IsSameShelf-then g.S.Shelf _ _ _ c.loop-reader.invariant.same
      (IsSameShelf-tests g.S.Shelf _ _ _ c.in_ok-check_recording.ensures.only_tests);
}

pub returns-in_err-check_recording-clause-recorded : goal.returns-in_err-check_recording-clause-recorded
returns-in_err-check_recording-clause-recorded g c =
    AnswersFrom-passed g.S.Shelf _ _ c.from_residual.result c.in_err-check_recording.field-0.0 _ _ _ _ c.from_residual.ensures.1
    c.loop-reader.invariant.same c.in_err-check_recording.ensures.recorded
    (λ m told e refused. recordings_in-next m (input_of c.args.input.now) c.args.out.now c.args.report.now c.args.input.now.script.readers
    c.loop-reader.reader-index c.loop-reader.number c.reader-item.result (Err e) (c.loop-reader.invariant.so_far m told)
    (rw c.as_slice-reader-items.ensures at c.loop-reader-test.true) (rw c.as_slice-reader-items.ensures at c.reader-item.is) refused)

pub returns-in_err-check_recording-clause-only_tests : goal.returns-in_err-check_recording-clause-only_tests
returns-in_err-check_recording-clause-only_tests g c =
    OnlyTests-after g.S.Shelf _ _ _ _ c.loop-reader.invariant.same
    (OnlyTests-passed g.S.Shelf c.from_residual.result c.in_err-check_recording.field-0.0 _ _ c.from_residual.ensures.1
    c.in_err-check_recording.ensures.only_tests)

pub returns-clause-recorded : goal.returns-clause-recorded
returns-clause-recorded g c = record {
  answer = recordings_in-all _ (input_of c.args.input.now) c.args.out.now c.args.report.now c.args.input.now.script.readers
      c.loop-reader.reader-index c.loop-reader.number c.loop-reader.invariant.so_far
      (subst (λ (readers : List ReaderLine). length readers ≤ c.loop-reader.reader-index) c.as_slice-reader-items.ensures c.loop-reader-test.false);
  missing = λ is m told. tt;
}

pub returns-clause-only_tests : goal.returns-clause-only_tests
returns-clause-only_tests g c = OnlyTests-done g.S.Shelf _ _ _ c.loop-reader.invariant.same
