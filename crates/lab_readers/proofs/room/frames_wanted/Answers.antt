use Rattle.lab_readers.specs.Prelude.{arith, is_actor}
use Rattle.lab_readers.proofs.AskedFrames.{asked-next}
use Rattle.lab_readers.proofs.room.frames_wanted.Goals as goal

pub loop-index-preserved : goal.loop-index-preserved
loop-index-preserved c =
    let next = asked-next (is_actor c.args.actor) c.args.lines.now c.loop-index.index c.loop-index-test.true in
    omega (arith, c.loop-index.invariant, c.frames_of.ensures, next, c.min-frames.ensures)
