use Rattle.lab_compare.specs.Prelude.{arith, inl, inr, length, refl, sym, ◌*◌, ◌+◌, ◌≡◌, nat_tests, AnswersFrom-memory, AnswersFrom-passed, IsSameShelf-reads}
use Rattle.lab_compare.specs.Prelude.{IsSameShelf-same, IsSameShelf-then, OnlyReads-after, OnlyReads-done, OnlyReads-memory, OnlyReads-passed, length-canonical}
use Rattle.lab_compare.specs.Prelude.{finished_file, sound_of}
use Rattle.lab_compare.proofs.Comparing.{IsComparing-next, even-next, is_same_in-all, is_same_in-missing}
use Rattle.lab_compare.proofs.comparison.is_same_file.Goals.{then-loop-is_last-test+else-from-size, else-loop-is_last-test}
use Rattle.lab_compare.proofs.comparison.is_same_file.Goals as goal

pub canonical_piece-requires-clause-even : goal.canonical_piece-requires-clause-even
canonical_piece-requires-clause-even g c = c.loop-is_last.invariant.even c.if-from-size.true

pub loop-is_last-init : goal.loop-is_last-init
loop-is_last-init g c = record {
  so_far = λ m told. inl (record { nothing = refl; alike = refl; more = refl });
  even = λ low. refl;
  within = omega arith;
  shelf = IsSameShelf-same g.S.Shelf _;
}

pub loop-is_last-preserved : goal.loop-is_last-preserved
loop-is_last-preserved g c = record {
  so_far = IsComparing-next c.pieces_tell_files.ensures.pieces _ _ _ _ _ _ _ _ _ _ _ _ _ _ _ c.loop-is_last.invariant.so_far
      c.loop-is_last.invariant.shelf.files c.as_slice.ensures c.in_ok-piece.ensures.bytes.answer c.in_ok-expected.ensures
      c.deref.ensures.value c.deref-in-loop-is_last.ensures.value c.is_same_so_far-same.ensures
      (λ is. grind (arith, nat_tests, is, c.len.ensures));
  even = even-next _ _ _ c.if-from-size.true c.loop-is_last.invariant.even c.min-most.ensures;
  within = omega (arith, c.if-from-size.true, c.min-most.ensures);
  shelf = IsSameShelf-then g.S.Shelf _ _ _ c.loop-is_last.invariant.shelf (IsSameShelf-reads g.S.Shelf _ _ _ c.in_ok-piece.ensures.only_reads);
}

pub returns-in_err-expected-clause-same : goal.returns-in_err-expected-clause-same
returns-in_err-expected-clause-same g c = AnswersFrom-memory g.S.Shelf _ c.from_residual.result _ _ c.from_residual.ensures.1

pub returns-in_err-expected-clause-only_reads : goal.returns-in_err-expected-clause-only_reads
returns-in_err-expected-clause-only_reads g c =
    OnlyReads-memory g.S.Shelf c.from_residual.result _ _ c.from_residual.ensures.1 c.loop-is_last.invariant.shelf

pub returns-in_err-piece-clause-same : goal.returns-in_err-piece-clause-same
returns-in_err-piece-clause-same g c =
    AnswersFrom-passed g.S.Shelf _ _ c.from_residual-in_err-piece.result c.in_err-piece.field-0.0 _ _ _ _ c.from_residual-in_err-piece.ensures.1
    c.loop-is_last.invariant.shelf c.in_err-piece.ensures.bytes
    (λ m told e is. is_same_in-missing m c.args.file.now c.args.samples.now _ _ _ e c.as_slice.ensures is)

pub returns-in_err-piece-clause-only_reads : goal.returns-in_err-piece-clause-only_reads
returns-in_err-piece-clause-only_reads g c =
    OnlyReads-after g.S.Shelf _ _ _ _ c.loop-is_last.invariant.shelf
    (OnlyReads-passed g.S.Shelf c.from_residual-in_err-piece.result c.in_err-piece.field-0.0 _ _ c.from_residual-in_err-piece.ensures.1
    c.in_err-piece.ensures.only_reads)

pub returns-clause-same : goal.returns-clause-same
returns-clause-same g c =
    let size : 44 + 2 * length c.args.samples.now ≡ length (finished_file c.args.file.now c.args.samples.now) =
    sym (length-canonical (sound_of c.args.file.now c.args.samples.now)) in
    record {
      answer = is_same_in-all _ c.args.file.now c.args.samples.now (44 + 2 * length c.args.samples.now) _ _ _ c.loop-is_last.invariant.so_far size
          (elim c.loop-is_last-test.branch [
            | then-loop-is_last-test+else-from-size w ↦ inr (omega (arith, w.if-from-size.false))
            | else-loop-is_last-test w ↦ inl w.loop-is_last-test.false
          ])
          (omega (arith, c.loop-is_last.invariant.within));
      missing = λ is m told. tt;
    }

pub returns-clause-only_reads : goal.returns-clause-only_reads
returns-clause-only_reads g c = OnlyReads-done g.S.Shelf _ _ _ c.loop-is_last.invariant.shelf
