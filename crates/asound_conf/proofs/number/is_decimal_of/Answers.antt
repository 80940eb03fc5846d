-- A name that is read as the number is its text.
use Rattle.asound_conf.specs.Prelude.{None, Some, sym, bytes_eq-decimal}
use Rattle.asound_conf.proofs.number.is_decimal_of.Goals as goal

pub returns-in-Some : goal.returns-in-Some
returns-in-Some c = sym (bytes_eq-decimal c.args.name.now c.args.number c.requires (Some c.in-Some.value) c.in-Some.ensures.value)

pub returns-in-None : goal.returns-in-None
returns-in-None c = sym (bytes_eq-decimal c.args.name.now c.args.number c.requires None c.in-None.ensures.value)
