use Rattle.std.proofs.Common.{◌<◌, ◌+◌, arith}
use Rattle.std.specs.Prelude.{slice_get}
use Rattle.pcm_format.specs.Places.{place_of}
use Rattle.pcm_format.proofs.Frames.{RangeHas-more, ChangesOnly-more}
use Rattle.pcm_format.proofs.copying.copy_frames.Goals as goal

pub loop-i-preserved : goal.loop-i-preserved
loop-i-preserved c =
    let within : c.args.at + c.loop-i.i < c.args.to_areas.now.frames = omega arith in
    record {
      copied = RangeHas-more c.args.to_areas.now c.args.at c.loop-i.i (λ i d. slice_get c.args.from.now (place_of c.args.from_areas.now (c.args.first + i) d)) c.loop-i.to c.copy_frame.new.to within (λ d d_in. c.copy_frame.ensures.copied d (omega arith)) c.copy_frame.ensures.others c.loop-i.invariant.copied;
      others = ChangesOnly-more c.args.to_areas.now c.args.at c.loop-i.i c.args.to.now c.loop-i.to c.copy_frame.new.to c.copy_frame.ensures.others c.loop-i.invariant.others;
    }
