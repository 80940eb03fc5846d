use Rattle.std.proofs.Common.{sym}
use Rattle.sum_table.proofs.seats.mix.MixSeat.spot.Goals as goal

pub returns : goal.returns
returns c =
    let s = c.args.self.now in
    record { table = sym s.same_ring.0; key = sym s.same_ring.1; spot = c.spot-spot.ensures }
