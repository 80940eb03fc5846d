use Rattle.lab_input.specs.Prelude.{ap, arith, length, Sound}
use Rattle.lab_input.proofs.sound.weight.Goals as goal

pub overflow_mul-len : goal.overflow_mul-len
overflow_mul-len c =
    omega (arith, c.len.ensures, ap (λ (s : Sound). length s.samples) c.wav.view_is, c.requires.short c.in-Some.field-0 c.in-Some.is)
