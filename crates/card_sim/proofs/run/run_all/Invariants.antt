use Rattle.card_sim.specs.Prelude.{take, ◌*◌, ◌+◌, HasFilled, frame_of, geometry_of, IsDue, periods_to, seat_of, moments_to, position_of_writer, HasCaptured}
use Rattle.card_sim.specs.Prelude.{AreInStep}
use Rattle.card_sim.proofs.run.run_all.Given as goal

abbrev pub invariant-loop-frame : goal.invariant-loop-frame
invariant-loop-frame g l = record {
  filled : HasFilled (seat_of l.initial.player) (seat_of l.player) l.period l.frame l.initial.out l.out;
  captured : HasCaptured l.initial.writer l.writer (take (l.frame * (geometry_of l.initial.player).channels) l.captured) (periods_to l.period (frame_of l.initial.player) l.frame);
  in_step : AreInStep l.player l.writer;
  due : IsDue l.period (frame_of l.player + 1) l.due;
  watched : g.W.Watch.saw l.initial.watch l.watch (moments_to l.period (frame_of l.initial.player) (position_of_writer l.initial.writer) l.frame);
}
