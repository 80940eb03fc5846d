use Rattle.std.proofs.Common.{arith, ◌+◌}
use Rattle.lab_card.proofs.OwnLines.{frames-most, frames-next}
use Rattle.lab_card.proofs.lines.frame_count.Goals as goal

pub overflow_add-count : goal.overflow_add-count
overflow_add-count c =
    let next = frames-next c.args.lines.now c.loop-index.index c.loop-index-test.true in
    let most = frames-most c.args.lines.now (c.loop-index.index + 1) in
    omega (arith, next, most, c.loop-index.invariant, c.requires, c.played_at.ensures)

pub loop-index-preserved : goal.loop-index-preserved
loop-index-preserved c =
    let next = frames-next c.args.lines.now c.loop-index.index c.loop-index-test.true in
    omega (arith, next, c.loop-index.invariant, c.played_at.ensures)
