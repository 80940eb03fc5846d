use Rattle.std.proofs.Common.{◌≡◌, ◌≤◌, ◌++◌, map, take, vec_capacity}
use Rattle.lab_clients.proofs.segments.push_segments.Given as goal

abbrev pub invariant-loop-segment : goal.invariant-loop-segment
invariant-loop-segment l = record {
  segments : l.all.items ≡ l.fn.all.items ++ map (λ s. (l.number, s)) (take l.segment-index l.segments);
  room : vec_capacity l.fn.all ≤ vec_capacity l.all;
}
