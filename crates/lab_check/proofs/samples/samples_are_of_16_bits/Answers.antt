use Rattle.lab_check.specs.Prelude.{ap, arith, subst, ◌∙◌, take_all, All-more, All, IsSample, Sound, AreSamples}
use Rattle.lab_check.proofs.samples.samples_are_of_16_bits.Goals as goal

pub loop-wav-preserved : goal.loop-wav-preserved
loop-wav-preserved c =
    All-more (λ (wav : Sound). All IsSample wav.samples) c.args.wavs.now c.loop-wav.wav-index c.wav-item.result (omega arith) c.loop-wav.invariant
    (subst (All IsSample) (c.as_slice.ensures ∙ ap (λ (wav : Sound). wav.samples) (c.wav.view_is ∙ c.wav-item.is)) c.read_samples.ensures)

pub returns : goal.returns
returns c = subst AreSamples (take_all c.loop-wav.wav-index c.args.wavs.now (omega arith)) c.loop-wav.invariant
