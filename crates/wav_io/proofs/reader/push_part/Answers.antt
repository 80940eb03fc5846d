use Rattle.std.proofs.Common.{◌++◌, ◌∙◌, ap, sym}
use Rattle.std.proofs.lemmas.Result.{on_ok_weaker}
use Rattle.wav_io.proofs.Readers.{samples_of_bytes-frames}
use Rattle.wav_io.proofs.reader.push_part.Goals as goal

pub returns-clause-ok : goal.returns-clause-ok
returns-clause-ok c =
    on_ok_weaker c.push_whole.result (λ h. (c.cut-whole.result.first ++ c.cut-whole.result.others.now, h ∙ ap (λ zs. c.args.samples.now.items ++ zs) (sym (samples_of_bytes-frames c.cut-whole.ensures.first.0 c.args.format.channels c.cut-whole.result.first c.cut-whole.result.others.now c.cut-whole.ensures.first.1)), c.cut-whole.ensures.all)) c.push_whole.ensures.ok
