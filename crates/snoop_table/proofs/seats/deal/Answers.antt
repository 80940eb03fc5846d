use Rattle.std.proofs.Common.{arith}
use Rattle.snoop_table.proofs.Cuts.{splits}
use Rattle.snoop_table.proofs.seats.deal.Goals as goal

pub split_seat-reader-requires : goal.split_seat-reader-requires
split_seat-reader-requires c =
    (c.requires.first.0, omega (arith, c.requires.room), splits c.args.ring.now.key c.args.first.id c.args.first.me.0)
