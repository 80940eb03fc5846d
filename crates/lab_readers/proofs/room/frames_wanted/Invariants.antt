use Rattle.lab_readers.specs.Prelude.{take, ◌≡◌, ops_by, is_actor, frames_wanted}
use Rattle.lab_readers.proofs.room.frames_wanted.Given as goal

abbrev pub invariant-loop-index : goal.invariant-loop-index
invariant-loop-index l = l.frames ≡ frames_wanted l.most (ops_by (is_actor l.actor) (take l.index l.lines))
