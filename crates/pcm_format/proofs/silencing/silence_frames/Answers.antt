use Rattle.std.proofs.Common.{◌<◌, ◌+◌, arith, Some, pos}
use Rattle.pcm_format.proofs.Frames.{RangeHas-more, ChangesOnly-more}
use Rattle.pcm_format.proofs.silencing.silence_frames.Goals as goal

pub loop-i-preserved : goal.loop-i-preserved
loop-i-preserved c =
    let within : c.args.at + c.loop-i.i < c.args.areas.now.frames = omega arith in
    record {
      silent = RangeHas-more c.args.areas.now c.args.at c.loop-i.i (λ i d. Some (pos 0)) c.loop-i.to c.silence_frame.new.to within c.silence_frame.ensures.silent c.silence_frame.ensures.others c.loop-i.invariant.silent;
      others = ChangesOnly-more c.args.areas.now c.args.at c.loop-i.i c.args.to.now c.loop-i.to c.silence_frame.new.to c.silence_frame.ensures.others c.loop-i.invariant.others;
    }
