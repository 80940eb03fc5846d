use Rattle.std.proofs.Common.{◌≡◌}
use Rattle.card_player.specs.FillLaws.{HasWritten}
use Rattle.card_player.proofs.player.CardPlayer.take_frame_of.Given as goal

abbrev pub invariant-loop-channel : goal.invariant-loop-channel
invariant-loop-channel l = HasWritten l.initial.self.seat l.self.seat l.at l.channel l.initial.out l.out × (l.self.period ≡ l.initial.self.period)
