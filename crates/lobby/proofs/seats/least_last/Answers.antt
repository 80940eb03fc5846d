use Rattle.lobby.proofs.Leasts.{earlier-both, least_next}
use Rattle.lobby.proofs.seats.least_last.Goals as goal

pub loop-seat-preserved : goal.loop-seat-preserved
loop-seat-preserved c =
    let is = c.loop-seat.invariant in
    record {
      least = least_next c.args.seats.now c.loop-seat.seat-index c.seat-item.result c.loop-seat.least c.last_of.result c.earlier-least.result c.loop-seat-test.true c.seat-item.is c.last_of.ensures.value c.earlier-least.ensures is.least;
      fits = rw c.earlier-least.ensures (earlier-both c.loop-seat.least c.last_of.result is.fits c.last_of.ensures.fits);
    }
