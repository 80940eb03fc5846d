use Rattle.lab_input.specs.Prelude.{ap, arith, inl, inr, length, refl, sym, true, ℕ, [], ◌++◌, ◌<◌, ◌∙◌, ◌≡◌, ◌⊎◌, nat_tests, length-append, Ok}
use Rattle.lab_input.specs.Prelude.{AnswersFrom-passed, IsSameShelf-reads, IsSameShelf-same, IsSameShelf-then, OnlyReads-after, OnlyReads-done}
use Rattle.lab_input.specs.Prelude.{OnlyReads-passed}
use Rattle.lab_input.proofs.Plugging.{sound_file-short}
use Rattle.lab_input.proofs.Reading.{Misses-wav, OnlyReads-wav, reading-next, reading-refused, reading-ok, reading-err, wav_in-missing}
use Rattle.lab_input.proofs.sound.read_sound.Goals.{then-loop-is_last-test+else-length-le-WAV_MOST, else-loop-is_last-test}
use Rattle.lab_input.proofs.sound.read_sound.Goals as goal

pub loop-is_last-init : goal.loop-is_last-init
loop-is_last-init g c = record {
  seen = [];
  read = c.new-sound.ensures;
  count = refl;
  few = omega arith;
  so_far = λ m told. inl (refl, refl);
  same = IsSameShelf-same g.S.Shelf _;
}

pub returns-in_err-piece-clause-sound : goal.returns-in_err-piece-clause-sound
returns-in_err-piece-clause-sound g c =
    AnswersFrom-passed g.S.Shelf _ _ c.from_residual.result c.in_err-piece.field-0.0 _ _ _ _ c.from_residual.ensures.1
    c.loop-is_last.invariant.same c.in_err-piece.ensures.bytes (λ m told. wav_in-missing m c.args.shape c.args.name.now c.loop-is_last.length)

pub returns-in_err-piece-clause-only_reads : goal.returns-in_err-piece-clause-only_reads
returns-in_err-piece-clause-only_reads g c =
    OnlyReads-after g.S.Shelf _ _ _ _ c.loop-is_last.invariant.same
    (OnlyReads-passed g.S.Shelf c.from_residual.result c.in_err-piece.field-0.0 _ _ c.from_residual.ensures.1 c.in_err-piece.ensures.only_reads)

pub returns-in-Err-clause-sound : goal.returns-in-Err-clause-sound
returns-in-Err-clause-sound g c = record {
  answer = reading-refused _ _ _ _ c.loop-is_last.invariant.seen _ _ _ _ _ _ c.loop-is_last.invariant.so_far c.loop-is_last.invariant.same.files
      c.in_ok-piece.ensures.bytes.answer c.loop-is_last.invariant.count c.deref.ensures.value
      (λ rest. c.in-Err.ensures.refused _ c.loop-is_last.invariant.seen rest c.loop-is_last.invariant.read) c.wav_stop.ensures;
  missing = λ reliable m told. Misses-wav _ _ _ _ c.wav_stop.ensures;
}

pub returns-in-Err-clause-only_reads : goal.returns-in-Err-clause-only_reads
returns-in-Err-clause-only_reads g c =
    OnlyReads-wav g.S.Shelf _ _ _ _ _ c.wav_stop.ensures
    (IsSameShelf-then g.S.Shelf _ _ _ c.loop-is_last.invariant.same (IsSameShelf-reads g.S.Shelf _ _ _ c.in_ok-piece.ensures.only_reads))

pub loop-is_last-preserved : goal.loop-is_last-preserved
loop-is_last-preserved g c = record {
  seen = c.loop-is_last.invariant.seen ++ c.deref.result.now;
  read = c.in_default.ensures.more _ c.loop-is_last.invariant.seen c.loop-is_last.invariant.read;
  count = omega (arith, length-append c.loop-is_last.invariant.seen c.deref.result.now, c.loop-is_last.invariant.count, ap length c.deref.ensures.value, c.len.ensures);
  few = omega (arith, c.loop-is_last.invariant.few, c.if-length-le-WAV_MOST.true, c.len.ensures, c.in_ok-piece.ensures.most);
  so_far = reading-next _ _ _ c.loop-is_last.invariant.seen _ _ _ _ _ c.loop-is_last.invariant.so_far c.loop-is_last.invariant.same.files
      c.in_ok-piece.ensures.bytes.answer c.loop-is_last.invariant.count c.deref.ensures.value
      (λ is. grind (arith, nat_tests, is, c.len-is_last.ensures));
  same = IsSameShelf-then g.S.Shelf _ _ _ c.loop-is_last.invariant.same (IsSameShelf-reads g.S.Shelf _ _ _ c.in_ok-piece.ensures.only_reads);
}

pub returns-in-Ok-clause-sound : goal.returns-in-Ok-clause-sound
returns-in-Ok-clause-sound g c =
    let ended : (c.loop-is_last.is_last ≡ true) ⊎ (67108864 < c.loop-is_last.length) =
    elim c.loop-is_last-test.branch [
      | then-loop-is_last-test+else-length-le-WAV_MOST w ↦ inr (omega (arith, w.if-length-le-WAV_MOST.false))
      | else-loop-is_last-test w ↦ inl w.loop-is_last-test.false
    ] in
    record {
      answer = λ m told.
          reading-ok _ _ _ c.loop-is_last.invariant.seen _ _ _ c.loop-is_last.invariant.so_far ended c.loop-is_last.invariant.count
          (c.in-Ok.ensures _ c.loop-is_last.invariant.seen c.loop-is_last.invariant.read) m told
          ∙ ap (λ (n : ℕ). Ok (c.in-Ok.wav, n)) (sym c.weight-bytes.ensures.value);
      missing = λ is m told. tt;
    }

pub returns-in-Ok-clause-only_reads : goal.returns-in-Ok-clause-only_reads
returns-in-Ok-clause-only_reads g c = OnlyReads-done g.S.Shelf _ _ _ c.loop-is_last.invariant.same

pub returns-in-Err-finish-clause-sound : goal.returns-in-Err-finish-clause-sound
returns-in-Err-finish-clause-sound g c =
    let ended : (c.loop-is_last.is_last ≡ true) ⊎ (67108864 < c.loop-is_last.length) =
    elim c.loop-is_last-test.branch [
      | then-loop-is_last-test+else-length-le-WAV_MOST w ↦ inr (omega (arith, w.if-length-le-WAV_MOST.false))
      | else-loop-is_last-test w ↦ inl w.loop-is_last-test.false
    ] in
    record {
      answer = reading-err _ _ _ c.loop-is_last.invariant.seen _ _ _ _ c.loop-is_last.invariant.so_far ended c.loop-is_last.invariant.count
          (c.in-Err-finish.ensures _ c.loop-is_last.invariant.seen c.loop-is_last.invariant.read) c.wav_stop-in-Err-finish.ensures;
      missing = λ reliable m told. Misses-wav _ _ _ _ c.wav_stop-in-Err-finish.ensures;
    }

pub returns-in-Err-finish-clause-only_reads : goal.returns-in-Err-finish-clause-only_reads
returns-in-Err-finish-clause-only_reads g c = OnlyReads-wav g.S.Shelf _ _ _ _ _ c.wav_stop-in-Err-finish.ensures c.loop-is_last.invariant.same

pub weight-bytes-requires-clause-short : goal.weight-bytes-requires-clause-short
weight-bytes-requires-clause-short g c =
    sound_file-short _ c.loop-is_last.invariant.seen _ (c.in-Ok.ensures _ c.loop-is_last.invariant.seen c.loop-is_last.invariant.read)
