use Rattle.std.proofs.Common.{◌≡◌, ◌*◌, ◌≤◌}
use Rattle.snd_base.specs.Places.{IsFrom}
use Rattle.sum_table.specs.Seats.{IsLaterSeat}
use Rattle.bench.proofs.sum.lap.lay.Given as goal

abbrev pub invariant-loop-frame : goal.invariant-loop-frame
invariant-loop-frame l = record {
  goes : IsLaterSeat l.fn.seat l.seat;
  seen : l.seat.seen ≡ l.fn.seat.seen;
  from_cursor : IsFrom l.seat.reach.marks.cursor l.frame 0;
  few : l.laid ≤ 8 * l.frame;
}
