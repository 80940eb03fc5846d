use Rattle.plug_chain.specs.Prelude.{ap, append_assoc, arith, length, refl, take-append-drop, part_bytes}
use Rattle.plug_chain.proofs.converter.Converter.fill.Goals as goal

pub overflow_sub-missing : goal.overflow_sub-missing
overflow_sub-missing c = omega (arith, ap length c.as_slice.ensures, c.frame_bytes.ensures.value, c.requires)

pub returns-clause-same : goal.returns-clause-same
returns-clause-same c =
    rw (c.extend.ensures, append_assoc (part_bytes c.args.part.now) c.split_at.result.0.now c.split_at.result.1.now)
    (rw (c.split_at.ensures.front, c.split_at.ensures.back, take-append-drop c.min.result c.args.bytes.now) refl)
