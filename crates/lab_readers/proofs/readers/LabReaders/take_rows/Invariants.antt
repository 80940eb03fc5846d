use Rattle.lab_readers.specs.Prelude.{take, vec_capacity, ◌++◌, ◌≡◌, ◌≤◌, flat_map, HasWalked, readers_of, spare_of, rows_of, HasGivenRows}
use Rattle.lab_readers.proofs.readers.LabReaders.take_rows.Given as goal

abbrev pub invariant-loop-index : goal.invariant-loop-index
invariant-loop-index l = record {
  spare : spare_of l.self ≡ spare_of l.fn.self;
  walked : HasWalked HasGivenRows (readers_of l.fn.self) (readers_of l.self) l.index;
  rows : l.rows.items ≡ l.fn.rows.items ++ flat_map rows_of (take l.index (readers_of l.fn.self));
  room : vec_capacity l.fn.rows ≤ vec_capacity l.rows;
}
