use Rattle.lab_card.specs.Prelude.{arith, ◌+◌, false≢true}
use Rattle.lab_card.proofs.OwnLines.{frames-most, frames-next}
use Rattle.lab_card.proofs.lines.plays_at_most.Goals as goal

pub returns-then-left-frames : goal.returns-then-left-frames
returns-then-left-frames c =
    let next = frames-next c.args.lines.now c.loop-index.index c.loop-index-test.true in
    let most = frames-most c.args.lines.now (c.loop-index.index + 1) in
    (λ is. absurd (false≢true is), λ fits. absurd (omega (arith, next, most, c.loop-index.invariant, c.played_at-frames.ensures, c.if-left-frames.true, fits)))

pub loop-index-preserved : goal.loop-index-preserved
loop-index-preserved c =
    let next = frames-next c.args.lines.now c.loop-index.index c.loop-index-test.true in
    omega (arith, next, c.loop-index.invariant, c.played_at-frames.ensures, c.if-left-frames.false)
