use Rattle.mix_core.specs.declared.port.Kind.TheVariants.{Withdrawn}
use Rattle.sum_table.proofs.Seated.{lay_facts}
use Rattle.sum_table.proofs.seats.mix.MixSeat.withdraw_word.Goals as goal

pub spot-ring_spot-requires : goal.spot-ring_spot-requires
spot-ring_spot-requires g c = record { channel = (lay_facts c.args.self.now Withdrawn c.args.frame c.args.channel c.args.sample (c.requires.last, c.requires.from_floor)).channel }
