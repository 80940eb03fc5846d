use Rattle.std.proofs.Common.{length, ◌+◌, ◌*◌}
use Rattle.lab_actors.proofs.pairs.+parts.Given as goal

abbrev pub decreases-both_parts : goal.decreases-both_parts
decreases-both_parts g l = 4 * (length l.low.now + length l.high.now)

abbrev pub decreases-both_parts-back : goal.decreases-both_parts-back
decreases-both_parts-back g l = 4 * length l.high.now + 2

abbrev pub decreases-both_parts-front : goal.decreases-both_parts-front
decreases-both_parts-front g l = 4 * length l.low.now + 2

abbrev pub decreases-pairs_from : goal.decreases-pairs_from
decreases-pairs_from g l = 4 * length l.items.now + 1
