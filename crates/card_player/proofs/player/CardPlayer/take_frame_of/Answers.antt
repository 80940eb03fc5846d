use Rattle.std.proofs.Common.{◌+◌, SFits, rules, arith, subst, sym, ℤ, to_z-of_z, w16}
use Rattle.std.proofs.Math.ListN.{set}
use Rattle.card_player.specs.FillLaws.{HasWritten, HasWritten-more}
use Rattle.card_player.proofs.player.CardPlayer.take_frame_of.Goals as goal

pub loop-channel-preserved : goal.loop-channel-preserved
loop-channel-preserved c =
    let fits : SFits w16 c.in-Ok.taken.value = search rules in
    let step = HasWritten-more c.args.self.now.seat c.loop-channel.self.seat c.take_word.new.self c.args.at c.loop-channel.channel c.args.out.now c.loop-channel.out c.in-Ok.taken
    c.loop-channel.invariant.0 c.in-Ok.ensures.ok (omega (arith, c.requires.channels, c.loop-channel-test.true)) (omega (arith, c.requires.channels, c.loop-channel-test.true, c.requires.room, c.loop-channel.auto.out)) in
    (subst (λ (x : ℤ). HasWritten c.args.self.now.seat c.take_word.new.self c.args.at (c.loop-channel.channel + 1) c.args.out.now (set c.loop-channel.out (c.args.at + c.loop-channel.channel) x)) (sym (to_z-of_z fits)) step, c.loop-channel.invariant.1)
