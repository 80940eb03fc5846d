use Rattle.lab_readers.specs.Prelude.{slice_index_or, ℕ, ◌≡◌, ◌≤◌, HasWalked, readers_of, spare_of, RunsAt}
use Rattle.lab_readers.proofs.readers.LabReaders.run_lines.Given as goal

abbrev pub invariant-loop-index : goal.invariant-loop-index
invariant-loop-index g l = record {
  spare : spare_of l.self ≡ spare_of l.fn.self;
  walked : HasWalked (RunsAt g.G.Gate l.fn.gates l.gates l.fn.phase l.fn.lines) (readers_of l.fn.self) (readers_of l.self) l.index;
  beyond : (i : ℕ) (e : _) → l.index ≤ i → slice_index_or l.gates i e ≡ slice_index_or l.fn.gates i e;
}
