use Rattle.wav_io.specs.Prelude.{ap, List, ℕ, ◌++◌, ◌∙◌, flat_map, sample_bytes, wav_file}
use Rattle.wav_io.proofs.Files.{wav_file-open}
use Rattle.wav_io.proofs.head.open_header.Goals as goal

pub returns-clause-so_far : goal.returns-clause-so_far
returns-clause-so_far c s file channels rate short =
    ap (λ (front : List ℕ). wav_file (front ++ flat_map sample_bytes s.samples)) c.head_bytes.ensures ∙ wav_file-open c.args.channels c.args.rate s file channels rate short
