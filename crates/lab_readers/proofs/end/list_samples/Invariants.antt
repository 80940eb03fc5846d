use Rattle.lab_readers.specs.Prelude.{length, map, vec_capacity, vec_len, ◌++◌, ◌+◌, ◌≡◌, ◌≤◌, Vec, ℤ, read_samples}
use Rattle.lab_readers.proofs.end.list_samples.Given as goal

abbrev pub invariant-loop-reader : goal.invariant-loop-reader
invariant-loop-reader l = record {
  samples : map (λ (samples : Vec ℤ). samples.items) l.all.items ≡ map (λ (samples : Vec ℤ). samples.items) l.fn.all.items ++ map read_samples l.yielded;
  others : l.yielded ++ l.reader-iterator.rest.items ≡ l.fn.readers.items;
  room : vec_len l.all + length l.reader-iterator.rest.items ≤ vec_capacity l.all;
}
