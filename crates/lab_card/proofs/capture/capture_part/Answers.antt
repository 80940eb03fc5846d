use Rattle.lab_card.specs.Prelude.{ap, arith, drop, length, List, subst, take, ℕ, ℤ, ◌*◌, ◌++◌, ◌-◌, ◌∙◌, ◌≡◌, ◌≤◌, pos, replicate, Sound}
use Rattle.lab_card.proofs.FileParts.{captured_frames-part}
use Rattle.lab_card.proofs.capture.capture_part.Goals as goal

pub returns-clause-items : goal.returns-clause-items
returns-clause-items c =
    let wav : Sound = c.args.wav.now in
    let count : ℕ = c.args.frames * c.args.channels in
    let part : List ℤ = c.part_from-part.result.now in
    let samples : c.as_slice.result.now ≡ wav.samples = c.as_slice.ensures ∙ ap (λ (w : Sound). w.samples) c.wav.view_is in
    let few : length part ≤ count = c.part_from-part.ensures.few in
    c.push_silence.ensures.items
    ∙ ap (λ (xs : List ℤ). xs ++ replicate (count - length part) (pos 0))
    (c.push_samples.ensures.items ∙ ap (λ (xs : List ℤ). xs ++ part) c.clear.ensures.items)
    ∙ captured_frames-part wav c.args.channels c.args.from c.args.frames (count - length part) part c.requires.same
    (subst (λ (xs : List ℤ). part ≡ take count (drop (c.args.from * c.args.channels) xs)) samples c.part_from-part.ensures.part)
    (omega (arith, few))
