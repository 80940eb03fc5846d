use Rattle.std.proofs.Common.{List, ℕ, ◌++◌, ap, inl, inr, ◌∙◌, arith}
use Rattle.std.proofs.lemmas.Bool.Decides.{nat_tests}
use Rattle.lab_stop.specs.Causes.{piece_bytes}
use Rattle.lab_stop.specs.Pieces.{refused_alike}
use Rattle.lab_stop.specs.ReadLaws.{AnswersFrom-memory, AnswersFrom-passed, IsSameShelf-reads, IsSameShelf-same, IsSameShelf-then, OnlyReads-after, OnlyReads-done, OnlyReads-memory, OnlyReads-passed}
use Rattle.lab_stop.proofs.Pieces.{fetched-first, fetched-most, fetched-next}
use Rattle.lab_stop.proofs.calls.fetch_most.Goals as goal
use Rattle.lab_stop.proofs.calls.fetch_most.Goals.{then-loop-is_last-test+else-len-most, else-loop-is_last-test}

pub loop-is_last-init : goal.loop-is_last-init
loop-is_last-init g c = record {
  so_far = fetched-first _ _ _ _ c.in_ok-bytes.ensures.bytes.answer (λ is. grind (arith, nat_tests, is, c.len-is_last.ensures));
  same = IsSameShelf-reads g.S.Shelf _ _ _ c.in_ok-bytes.ensures.only_reads;
}

pub loop-is_last-preserved : goal.loop-is_last-preserved
loop-is_last-preserved g c = record {
  so_far = fetched-next _ _ _ _ _ _ _ _ _ c.loop-is_last.invariant.so_far c.loop-is_last.invariant.same.files c.in_ok-piece.ensures.bytes.answer
      (grind (arith, c.len-in-loop-is_last.ensures)) (λ is. grind (arith, nat_tests, is, c.len-is_last-in-loop-is_last.ensures))
      (c.in_ok-extend_from_slice.ensures.items ∙ ap (λ (p : List ℕ). c.loop-is_last.bytes.items ++ p) c.deref.ensures.value);
  same = IsSameShelf-then g.S.Shelf _ _ _ c.loop-is_last.invariant.same (IsSameShelf-reads g.S.Shelf _ _ _ c.in_ok-piece.ensures.only_reads);
}

pub returns-in_err-bytes-clause-bytes : goal.returns-in_err-bytes-clause-bytes
returns-in_err-bytes-clause-bytes g c =
    AnswersFrom-passed g.S.Shelf _ _ c.from_residual.result c.in_err-bytes.field-0.0 _ _ _ _ c.from_residual.ensures.1
    (IsSameShelf-same g.S.Shelf _) c.in_err-bytes.ensures.bytes (λ m told. refused_alike m c.args.name.now 0 piece_bytes 0 c.args.most)

pub returns-in_err-bytes-clause-only_reads : goal.returns-in_err-bytes-clause-only_reads
returns-in_err-bytes-clause-only_reads g c =
    OnlyReads-passed g.S.Shelf c.from_residual.result c.in_err-bytes.field-0.0 _ _ c.from_residual.ensures.1 c.in_err-bytes.ensures.only_reads

pub returns-in_err-piece-clause-bytes : goal.returns-in_err-piece-clause-bytes
returns-in_err-piece-clause-bytes g c =
    AnswersFrom-passed g.S.Shelf _ _ c.from_residual-in_err-piece.result c.in_err-piece.field-0.0 _ _ _ _ c.from_residual-in_err-piece.ensures.1
    c.loop-is_last.invariant.same c.in_err-piece.ensures.bytes (λ m told. refused_alike m c.args.name.now _ piece_bytes 0 c.args.most)

pub returns-in_err-piece-clause-only_reads : goal.returns-in_err-piece-clause-only_reads
returns-in_err-piece-clause-only_reads g c =
    OnlyReads-after g.S.Shelf _ _ _ _ c.loop-is_last.invariant.same
    (OnlyReads-passed g.S.Shelf c.from_residual-in_err-piece.result c.in_err-piece.field-0.0 _ _ c.from_residual-in_err-piece.ensures.1
    c.in_err-piece.ensures.only_reads)

pub returns-in_err-extend_from_slice-clause-bytes : goal.returns-in_err-extend_from_slice-clause-bytes
returns-in_err-extend_from_slice-clause-bytes g c =
    AnswersFrom-memory g.S.Shelf _ c.from_residual-in_err-extend_from_slice.result _ _ c.from_residual-in_err-extend_from_slice.ensures.1

pub returns-in_err-extend_from_slice-clause-only_reads : goal.returns-in_err-extend_from_slice-clause-only_reads
returns-in_err-extend_from_slice-clause-only_reads g c =
    OnlyReads-memory g.S.Shelf c.from_residual-in_err-extend_from_slice.result _ _ c.from_residual-in_err-extend_from_slice.ensures.1
    (IsSameShelf-then g.S.Shelf _ _ _ c.loop-is_last.invariant.same (IsSameShelf-reads g.S.Shelf _ _ _ c.in_ok-piece.ensures.only_reads))

pub returns-clause-bytes : goal.returns-clause-bytes
returns-clause-bytes g c = record {
  answer = fetched-most _ _ _ _ _ _ c.loop-is_last.invariant.so_far
      (elim c.loop-is_last-test.branch [
        | then-loop-is_last-test+else-len-most w ↦ inr (grind (arith, nat_tests, w.len.ensures, w.if-len-most.false))
        | else-loop-is_last-test w ↦ inl w.loop-is_last-test.false
      ])
      c.truncate.ensures.items;
  missing = λ is m told. tt;
}

pub returns-clause-only_reads : goal.returns-clause-only_reads
returns-clause-only_reads g c = OnlyReads-done g.S.Shelf _ _ _ c.loop-is_last.invariant.same
