use Rattle.lab_readers.specs.Prelude.{take, vec_capacity, ◌++◌, ◌≡◌, ◌≤◌, flat_map, runs_by}
use Rattle.lab_readers.proofs.end.list_runs.Given as goal

abbrev pub invariant-loop-index : goal.invariant-loop-index
invariant-loop-index l = record {
  runs : l.all.items ≡ l.fn.all.items ++ flat_map runs_by (take l.index l.fn.readers);
  room : vec_capacity l.fn.all ≤ vec_capacity l.all;
}
