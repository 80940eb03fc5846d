use Rattle.std.proofs.Common.{arith, ◌∙◌}
use Rattle.sum_table.specs.Seats.{IsLaterSeat-joined}
use Rattle.bench.proofs.sum.lap.lay.Goals as goal

pub loop-frame-preserved : goal.loop-frame-preserved
loop-frame-preserved c = record {
  goes = IsLaterSeat-joined c.args.seat.now c.loop-frame.seat c.lay_frame-laid.new.seat c.loop-frame.invariant.goes c.lay_frame-laid.ensures.goes;
  seen = c.lay_frame-laid.ensures.seen ∙ c.loop-frame.invariant.seen;
  from_cursor = c.lay_frame-laid.ensures.next_frame;
  few = omega (arith, c.loop-frame.invariant.few, c.lay_frame-laid.ensures.few);
}
