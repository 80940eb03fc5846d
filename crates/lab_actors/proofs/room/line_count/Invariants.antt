use Rattle.lab_actors.specs.Prelude.{length, take, ◌≡◌, ◌≤◌, ops_by, is_actor}
use Rattle.lab_actors.proofs.room.line_count.Given as goal

abbrev pub invariant-loop-index : goal.invariant-loop-index
invariant-loop-index l = record {
  value : l.count ≡ length (ops_by (is_actor l.actor) (take l.index l.lines));
  most : l.count ≤ l.index;
}
