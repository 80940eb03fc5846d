use Rattle.wav_io.specs.Prelude.{ap, length, List, subst, ℕ, ◌∙◌, ◌≤◌, most_bytes, Reads, wav_file}
use Rattle.wav_io.proofs.Files.{wav_file-canonical}
use Rattle.wav_io.proofs.Refusals.{refusal_comes}
use Rattle.wav_io.proofs.reading.read_wav.Goals as goal

pub returns-clause-only : goal.returns-clause-only
returns-clause-only c = λ s file same short.
    let short' = subst (λ (bytes : List ℕ). length bytes ≤ most_bytes) same short in
    subst (λ given. Reads c.read_whole.result given) (ap wav_file same ∙ wav_file-canonical s file short') c.read_whole.ensures.exact

pub returns-clause-refused : goal.returns-clause-refused
returns-clause-refused c = refusal_comes c.read_whole.result _ c.read_whole.ensures.exact c.read_whole.ensures.memory
