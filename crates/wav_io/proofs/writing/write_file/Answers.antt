use Rattle.wav_io.specs.Prelude.{ap, subst, ◌∙◌, IsWholeSound, Sound}
use Rattle.wav_io.proofs.Files.{file_from}
use Rattle.wav_io.proofs.writing.write_file.Goals as goal

pub returns-clause-fits : goal.returns-clause-fits
returns-clause-fits c =
    let sound : IsWholeSound c.args.wav.now = subst IsWholeSound c.wav.view_is c.wav.invariant in
    let samples = c.as_slice-samples.ensures ∙ ap (λ (s : Sound). s.samples) c.wav.view_is in
    file_from c.args.wav.now _ sound c.requires.rate c.requires.size samples c.in_ok-append_samples.ensures.fit
