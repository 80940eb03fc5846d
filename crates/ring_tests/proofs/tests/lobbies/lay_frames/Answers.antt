use Rattle.sum_table.specs.Seats.{IsLaterSeat-joined, IsLaterSeat-same}
use Rattle.ring_tests.proofs.tests.lobbies.lay_frames.Goals as goal

pub loop-frame-init : goal.loop-frame-init
loop-frame-init c = IsLaterSeat-same c.args.seat.now

pub loop-frame-preserved : goal.loop-frame-preserved
loop-frame-preserved c = IsLaterSeat-joined c.args.seat.now c.loop-frame.seat c.try_lay.new.seat c.loop-frame.invariant c.try_lay.ensures

pub returns-then-not-try_lay : goal.returns-then-not-try_lay
returns-then-not-try_lay c = IsLaterSeat-joined c.args.seat.now c.loop-frame.seat c.try_lay.new.seat c.loop-frame.invariant c.try_lay.ensures
