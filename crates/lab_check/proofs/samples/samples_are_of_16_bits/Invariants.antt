use Rattle.lab_check.specs.Prelude.{take, AreSamples}
use Rattle.lab_check.proofs.samples.samples_are_of_16_bits.Given as goal

abbrev pub invariant-loop-wav : goal.invariant-loop-wav
invariant-loop-wav l = AreSamples (take l.wav-index l.wavs)
