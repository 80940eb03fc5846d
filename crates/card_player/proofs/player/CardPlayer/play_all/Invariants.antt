use Rattle.std.proofs.Common.{◌≡◌, ◌+◌}
use Rattle.card_player.specs.FillLaws.{HasFilled}
use Rattle.card_player.specs.Plays.{IsDue, frame_of}
use Rattle.card_player.proofs.player.CardPlayer.play_all.Given as goal

abbrev pub invariant-loop-frame : goal.invariant-loop-frame
invariant-loop-frame l = record {
  filled : HasFilled l.initial.self.seat l.self.seat l.period l.frame l.initial.out l.out;
  period : l.self.period ≡ l.initial.self.period;
  due : IsDue l.period (frame_of l.self + 1) l.due;
}
