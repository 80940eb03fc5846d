use Rattle.lab_check.specs.Prelude.{ap, sym, ◌∙◌, ◌≡◌, Sound}
use Rattle.lab_check.proofs.Parts.{channels-below, has-samples, samples-of}
use Rattle.lab_check.proofs.sums.add_part.Goals as goal

pub add_segment-requires-clause-channels : goal.add_segment-requires-clause-channels
add_segment-requires-clause-channels c =
    rw c.bound_by-bindings.ensures
    (channels-below c.args.script.now c.args.wavs.now c.args.client c.args.segment.now c.in-Some.line.now c.in-Some.wav.now c.in-Some.ensures.some.0 c.in-Some.ensures.some.1 c.requires.script c.requires.right)

pub add_segment-requires-clause-samples : goal.add_segment-requires-clause-samples
add_segment-requires-clause-samples c =
    let samples : c.as_slice-samples.result.now ≡ c.in-Some.wav.now.samples = c.as_slice-samples.ensures ∙ ap (λ (w : Sound). w.samples) c.wav.view_is in
    rw (c.bound_by-bindings.ensures, samples)
    (has-samples c.args.script.now c.args.wavs.now c.args.client c.args.segment.now c.in-Some.line.now c.in-Some.wav.now c.in-Some.ensures.some.0 c.in-Some.ensures.some.1 c.requires.right)

pub returns-in-Some : goal.returns-in-Some
returns-in-Some c =
    let samples : c.as_slice-samples.result.now ≡ c.in-Some.wav.now.samples = c.as_slice-samples.ensures ∙ ap (λ (w : Sound). w.samples) c.wav.view_is in
    rw (
      samples-of c.args.script.now c.args.wavs.now c.args.client c.args.segment.now c.in-Some.line.now c.in-Some.wav.now c.in-Some.ensures.some.0 c.in-Some.ensures.some.1,
      sym samples,
      sym c.bound_by-bindings.ensures,
    ) (c.add_segment.ensures c.args.client)
