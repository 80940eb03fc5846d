use Rattle.std.proofs.Common.{◌<◌, length, Some, pos, arith, refl}
use Rattle.pcm_format.proofs.Frames.{FrameHas-more, FrameOnly-more}
use Rattle.pcm_format.proofs.silencing.silence_frame.Goals as goal

pub loop-channel-preserved : goal.loop-channel-preserved
loop-channel-preserved c =
    let to_in : c.place.result < length c.loop-channel.to = omega (arith, c.place.ensures, c.requires.places c.loop-channel.channel (omega arith)) in
    record {
      silent = FrameHas-more c.args.areas.now c.args.at c.loop-channel.channel c.place.result (λ d. Some (pos 0)) c.loop-channel.to (pos 0) c.requires.frame c.loop-channel-test.true c.place.ensures to_in refl c.loop-channel.invariant.silent;
      others = FrameOnly-more c.args.areas.now c.args.at c.loop-channel.channel c.place.result c.args.to.now c.loop-channel.to (pos 0) c.place.ensures c.loop-channel.invariant.others;
    }
