use Rattle.std.proofs.Common.{◌∙◌}
use Rattle.lab_stop.specs.ReadLaws.{AnswersFrom-passed, IsSameShelf-reads, IsSameShelf-same, IsSameShelf-then, OnlyReads-after, OnlyReads-done, OnlyReads-passed}
use Rattle.lab_input.proofs.Inputs.{input_in-missing, capture-missing, sounds-missing, input_in-all}
use Rattle.lab_input.proofs.input.read_input.Goals as goal

pub returns-in_err-script-clause-input : goal.returns-in_err-script-clause-input
returns-in_err-script-clause-input g c =
    AnswersFrom-passed g.S.Shelf _ _ c.from_residual.result c.in_err-script.field-0.0 _ _ _ _ c.from_residual.ensures.1
    (IsSameShelf-same g.S.Shelf _) c.in_err-script.ensures.script (λ m told. input_in-missing m c.args.name.now)

pub returns-in_err-script-clause-only_reads : goal.returns-in_err-script-clause-only_reads
returns-in_err-script-clause-only_reads g c =
    OnlyReads-passed g.S.Shelf c.from_residual.result c.in_err-script.field-0.0 _ _ c.from_residual.ensures.1 c.in_err-script.ensures.only_reads

pub returns-in_err-capture-clause-input : goal.returns-in_err-capture-clause-input
returns-in_err-capture-clause-input g c =
    AnswersFrom-passed g.S.Shelf _ _ c.from_residual-in_err-capture.result c.in_err-capture.field-0.0 _ _ _ _ c.from_residual-in_err-capture.ensures.1
    (IsSameShelf-reads g.S.Shelf _ _ _ c.in_ok-script.ensures.only_reads) c.in_err-capture.ensures.sound
    (λ m told e is. capture-missing m c.args.name.now c.in_ok-script.script e (c.in_ok-script.ensures.script.answer m told) is)

pub returns-in_err-capture-clause-only_reads : goal.returns-in_err-capture-clause-only_reads
returns-in_err-capture-clause-only_reads g c =
    OnlyReads-after g.S.Shelf _ _ _ _ (IsSameShelf-reads g.S.Shelf _ _ _ c.in_ok-script.ensures.only_reads)
    (OnlyReads-passed g.S.Shelf c.from_residual-in_err-capture.result c.in_err-capture.field-0.0 _ _ c.from_residual-in_err-capture.ensures.1
    c.in_err-capture.ensures.only_reads)

pub returns-in_err-wavs-clause-input : goal.returns-in_err-wavs-clause-input
returns-in_err-wavs-clause-input g c =
    AnswersFrom-passed g.S.Shelf _ _ c.from_residual-in_err-wavs.result c.in_err-wavs.field-0.0 _ _ _ _ c.from_residual-in_err-wavs.ensures.1
    (IsSameShelf-then g.S.Shelf _ _ _ (IsSameShelf-reads g.S.Shelf _ _ _ c.in_ok-script.ensures.only_reads)
    (IsSameShelf-reads g.S.Shelf _ _ _ c.in_ok-capture.ensures.only_reads)) c.in_err-wavs.ensures.sounds
    (λ m told e is. sounds-missing m c.args.name.now _ _ _ e c.as_slice.ensures (c.in_ok-script.ensures.script.answer m told)
    (c.in_ok-capture.ensures.sound.answer m (c.in_ok-script.ensures.only_reads.files ∙ told)) is)

pub returns-in_err-wavs-clause-only_reads : goal.returns-in_err-wavs-clause-only_reads
returns-in_err-wavs-clause-only_reads g c =
    OnlyReads-after g.S.Shelf _ _ _ _
    (IsSameShelf-then g.S.Shelf _ _ _ (IsSameShelf-reads g.S.Shelf _ _ _ c.in_ok-script.ensures.only_reads)
    (IsSameShelf-reads g.S.Shelf _ _ _ c.in_ok-capture.ensures.only_reads))
    (OnlyReads-passed g.S.Shelf c.from_residual-in_err-wavs.result c.in_err-wavs.field-0.0 _ _ c.from_residual-in_err-wavs.ensures.1
    c.in_err-wavs.ensures.only_reads)

pub returns-clause-input : goal.returns-clause-input
returns-clause-input g c = record {
  answer = input_in-all _ _ _ _ _ _ _ _ c.as_slice.ensures c.in_ok-script.ensures.only_reads.files c.in_ok-capture.ensures.only_reads.files
      c.in_ok-script.ensures.script.answer c.in_ok-capture.ensures.sound.answer c.in_ok-wavs.ensures.sounds.answer;
  missing = λ is m told. tt;
}

pub returns-clause-only_reads : goal.returns-clause-only_reads
returns-clause-only_reads g c =
    OnlyReads-done g.S.Shelf _ _ _
    (IsSameShelf-then g.S.Shelf _ _ _ (IsSameShelf-reads g.S.Shelf _ _ _ c.in_ok-script.ensures.only_reads)
    (IsSameShelf-then g.S.Shelf _ _ _ (IsSameShelf-reads g.S.Shelf _ _ _ c.in_ok-capture.ensures.only_reads)
    (IsSameShelf-reads g.S.Shelf _ _ _ c.in_ok-wavs.ensures.only_reads)))
