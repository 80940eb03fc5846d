use Rattle.lab_actors.specs.Prelude.{length, take, vec_capacity, vec_len, ◌++◌, ◌+◌, ◌≡◌, ◌≤◌, ops_by, is_actor, line_count, refused_rows}
use Rattle.lab_actors.proofs.refused.refuse_lines.Given as goal

abbrev pub invariant-loop-index : goal.invariant-loop-index
invariant-loop-index l = record {
  rows : l.rows.items ≡ l.fn.rows.items ++ refused_rows l.phase l.actor (ops_by (is_actor l.actor) (take l.index l.lines));
  room : vec_len l.rows + line_count l.actor l.lines ≤ vec_capacity l.rows + length (ops_by (is_actor l.actor) (take l.index l.lines));
}
