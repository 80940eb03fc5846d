use Rattle.std.proofs.Common.{◌≡◌, ℕ, [], slice_index_or, vec_len}
use Rattle.lab_report.proofs.places.empty_places.Given as goal

abbrev pub invariant-loop-place : goal.invariant-loop-place
invariant-loop-place l = record { none : (k : ℕ) → slice_index_or l.places.items k [] ≡ []; count : vec_len l.places ≡ l._place }
