use Rattle.std.proofs.Common.{◌-◌, cond, length}
use Rattle.lab_stop.proofs.Pieces.{Fetching}
use Rattle.lab_stop.proofs.calls.fetch_most.Given as goal

abbrev pub invariant-loop-is_last : goal.invariant-loop-is_last
invariant-loop-is_last g l = Fetching g.S.Shelf l.fn.shelf l.shelf l.name l.bytes.items l.is_last

abbrev pub decreases-loop-is_last : goal.decreases-loop-is_last
decreases-loop-is_last g l = cond l.is_last 0 (l.most - length l.bytes.items)
