use Rattle.std.proofs.Common.{◌≡◌}
use Rattle.snoop_table.specs.Writers.{writer_geometry}
use Rattle.bench.proofs.snoop.lap.store_lap.Given as goal

abbrev pub invariant-loop : goal.invariant-loop
invariant-loop l = writer_geometry l.writer ≡ writer_geometry l.fn.writer
