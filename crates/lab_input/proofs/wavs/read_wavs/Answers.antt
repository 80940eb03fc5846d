use Rattle.std.proofs.Common.{◌∙◌}
use Rattle.lab_stop.specs.ReadLaws.{AnswersFrom-memory, AnswersFrom-passed, IsSameShelf-reads, IsSameShelf-then, OnlyReads-after, OnlyReads-done, OnlyReads-memory, OnlyReads-passed}
use Rattle.lab_input.proofs.Sounds.{Loading-passed, Loading-next, Loading-all}
use Rattle.lab_input.proofs.wavs.read_wavs.Goals as goal

pub returns-in_err-wav-clause-sounds : goal.returns-in_err-wav-clause-sounds
returns-in_err-wav-clause-sounds g c =
    AnswersFrom-passed g.S.Shelf _ _ c.from_residual.result c.in_err-wav.field-0.0 _ _ _ _ c.from_residual.ensures.1
    c.loop-client.invariant.same c.in_err-wav.ensures.sound
    (λ m told. Loading-passed g.S.Shelf _ _ _ _ _ _ _ _ c.client-item.result _ _ m c.loop-client.invariant c.loop-client-test.true c.client-item.is
    c.shape_for-shape.ensures.value (c.as_bytes-name.ensures.value ∙ c.as_str.ensures) told)

pub returns-in_err-wav-clause-only_reads : goal.returns-in_err-wav-clause-only_reads
returns-in_err-wav-clause-only_reads g c =
    OnlyReads-after g.S.Shelf _ _ _ _ c.loop-client.invariant.same
    (OnlyReads-passed g.S.Shelf c.from_residual.result c.in_err-wav.field-0.0 _ _ c.from_residual.ensures.1 c.in_err-wav.ensures.only_reads)

pub loop-client-preserved : goal.loop-client-preserved
loop-client-preserved g c =
    Loading-next g.S.Shelf _ _ _ _ _ _ _ _ _ _ c.client-item.result _ _ _ c.loop-client.invariant c.loop-client-test.true c.client-item.is c.shape_for-shape.ensures.value
    (c.as_bytes-name.ensures.value ∙ c.as_str.ensures) c.in_ok-wav.ensures.sound.answer c.in_ok-wav.ensures.few
    c.in_ok-push.ensures.items (IsSameShelf-reads g.S.Shelf _ _ _ c.in_ok-wav.ensures.only_reads)

pub returns-clause-sounds : goal.returns-clause-sounds
returns-clause-sounds g c = record {
  answer = Loading-all g.S.Shelf _ _ _ _ _ _ _ _ c.loop-client.invariant c.loop-client-test.false;
  missing = λ is m told. tt;
}

pub returns-clause-only_reads : goal.returns-clause-only_reads
returns-clause-only_reads g c = OnlyReads-done g.S.Shelf _ _ _ c.loop-client.invariant.same

pub returns-in_err-push-clause-sounds : goal.returns-in_err-push-clause-sounds
returns-in_err-push-clause-sounds g c =
    AnswersFrom-memory g.S.Shelf _ c.from_residual-in_err-push.result _ _ c.from_residual-in_err-push.ensures.1

pub returns-in_err-push-clause-only_reads : goal.returns-in_err-push-clause-only_reads
returns-in_err-push-clause-only_reads g c =
    OnlyReads-memory g.S.Shelf c.from_residual-in_err-push.result _ _ c.from_residual-in_err-push.ensures.1
    (IsSameShelf-then g.S.Shelf _ _ _ c.loop-client.invariant.same (IsSameShelf-reads g.S.Shelf _ _ _ c.in_ok-wav.ensures.only_reads))
