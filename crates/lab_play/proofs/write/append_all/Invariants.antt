-- Of so many outputs all samples are written.
use Rattle.lab_play.proofs.Writing.{IsAppended}
use Rattle.lab_play.proofs.write.append_all.Given as goal

abbrev pub invariant-loop-number : goal.invariant-loop-number
invariant-loop-number g l = IsAppended g.S.Shelf l.lab l.fn.outputs l.outputs l.number l.fn.shelf l.shelf
