use Rattle.lab_readers.specs.Prelude.{map, take, vec_capacity, ℕ, ◌++◌, ◌≡◌, ◌≤◌, number_of}
use Rattle.lab_readers.proofs.end.push_runs.Given as goal

abbrev pub invariant-loop-index : goal.invariant-loop-index
invariant-loop-index l = record {
  runs : l.all.items ≡ l.fn.all.items ++ map (λ (run : ℕ × ℕ). (number_of l.fn.reader, run.0, run.1)) (take l.index l.runs);
  room : vec_capacity l.fn.all ≤ vec_capacity l.all;
}
