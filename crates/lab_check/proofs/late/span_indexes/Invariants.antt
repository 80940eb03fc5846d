use Rattle.std.proofs.Common.{◌≡◌, length}
use Rattle.lab_check.proofs.Indexes.{AreIndexesUpTo}
use Rattle.lab_check.proofs.late.span_indexes.Given as goal

abbrev pub invariant-loop-place : goal.invariant-loop-place
invariant-loop-place l = record {
  size : length l.indexes.items ≡ l.place;
  each : AreIndexesUpTo l.script l.wavs l.segments l.indexes.items l.place;
}
