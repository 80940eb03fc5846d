use Rattle.sum_table.specs.Seats.{IsLaterSeat}
use Rattle.ring_tests.proofs.tests.lobbies.lay_frames.Given as goal

abbrev pub invariant-loop-frame : goal.invariant-loop-frame
invariant-loop-frame l = IsLaterSeat l.fn.seat l.seat
