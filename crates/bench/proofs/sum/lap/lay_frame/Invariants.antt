use Rattle.std.proofs.Common.{◌≡◌, ℕ, ◌+◌, ◌<◌, ◌≤◌}
use Rattle.snd_base.specs.Places.{IsFrom}
use Rattle.sum_table.specs.Seats.{IsLaterSeat}
use Rattle.bench.proofs.sum.lap.lay_frame.Given as goal

abbrev pub invariant-loop-channel : goal.invariant-loop-channel
invariant-loop-channel l = record {
  goes : IsLaterSeat l.fn.seat l.seat;
  seen : l.seat.seen ≡ l.fn.seat.seen;
  next_channels : (c : ℕ) → l.channel ≤ c → c < l.fn.seat.key.geometry.channels → IsFrom l.seat.reach.marks.cursor l.frame c;
  next_frame : IsFrom l.seat.reach.marks.cursor (l.frame + 1) 0;
  few : l.laid ≤ l.channel;
}
