use Rattle.lab_make.specs.Prelude.{ap, length, List, subst, sym, ℕ, ◌∙◌, ◌≤◌, most_bytes, wav_file}
use Rattle.lab_make.proofs.SoundSizes.{length-made-few}
use Rattle.lab_make.proofs.storage.client_bytes.Goals as goal

pub returns-in-Ok-clause-read : goal.returns-in-Ok-clause-read
returns-in-Ok-clause-read c =
    ap wav_file (sym c.in-Ok.ensures.file)
    ∙ c.in-Ok.ensures.back (subst (λ (bytes : List ℕ). length bytes ≤ most_bytes) (sym c.in-Ok.ensures.file) (length-made-few c.args.wav.now c.requires))
