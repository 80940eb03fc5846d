use Rattle.std.proofs.Common.{arith}
use Rattle.lab_card.proofs.OwnLines.{bool_byte-most, count-next, line_at, own-count}
use Rattle.lab_card.proofs.lines.line_count.Goals as goal

pub loop-index-preserved : goal.loop-index-preserved
loop-index-preserved c =
    let before = c.loop-index.invariant in
    let next = count-next c.args.lines.now c.loop-index.index c.loop-index-test.true in
    let own = own-count (line_at c.args.lines.now c.loop-index.index) c.is_of_card.result c.is_of_card.ensures in
    record { value = omega (arith, next, own, before.value); most = omega (arith, before.most, bool_byte-most c.is_of_card.result) }
