use Rattle.plug_chain.specs.Prelude.{All, map, ◌%◌, ◌/◌, ◌≡◌, range_with_len, IsWeight, usual_weight}
use Rattle.plug_chain.proofs.table.Table.usual.Given as goal

abbrev pub invariant-loop-place : goal.invariant-loop-place
invariant-loop-place l = record {
  weights : l.weights.items ≡ map (λ place. usual_weight l.inputs l.outputs (place / l.inputs) (place % l.inputs)) (range_with_len 0 l.place);
  each : All IsWeight l.weights.items;
}
