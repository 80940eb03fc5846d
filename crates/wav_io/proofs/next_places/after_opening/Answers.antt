use Rattle.wav_io.specs.Prelude.{None, refl, sym, ◌∙◌, NotRiff, NotWave}
use Rattle.wav_io.proofs.Places.{found_in-front, leads_head, leads_refused}
use Rattle.wav_io.proofs.next_places.after_opening.Goals as goal

pub returns-then-not-is_at : goal.returns-then-not-is_at
returns-then-not-is_at c depths =
    let riff = sym c.is_at.ensures ∙ c.if-not-is_at.true in
    leads_refused depths NotRiff _ (λ more. rw (found_in-front depths c.args.bytes.now more c.requires, riff) refl) (λ e. cc)

pub returns-then-not-is_at-2 : goal.returns-then-not-is_at-2
returns-then-not-is_at-2 c depths =
    let riff = sym c.is_at.ensures ∙ c.if-not-is_at.false in
    let wave = sym c.is_at-2.ensures ∙ c.if-not-is_at-2.true in
    leads_refused depths NotWave _ (λ more. rw (found_in-front depths c.args.bytes.now more c.requires, riff, wave) refl) (λ e. cc)

pub returns : goal.returns
returns c depths =
    let riff = sym c.is_at.ensures ∙ c.if-not-is_at.false in
    let wave = sym c.is_at-2.ensures ∙ c.if-not-is_at-2.false in
    leads_head depths None 0 _ (λ more. rw (found_in-front depths c.args.bytes.now more c.requires, riff, wave) refl) tt
