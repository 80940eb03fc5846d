use Rattle.std.proofs.Common.{arith}
use Rattle.snoop_table.proofs.Cuts.{splits}
use Rattle.snoop_table.proofs.seats.reader.ReaderSeat.split.Goals as goal

pub split_seat-seat-requires : goal.split_seat-seat-requires
split_seat-seat-requires c =
    let s = c.args.self.now in
    (s.same_ring.0, omega (arith, s.same_ring.3), splits s.ring.now.key s.seat.id s.seat.me.0)
