use Rattle.std.proofs.Common.{◌≡◌, vec_len}
use Rattle.snoop_table.specs.Readers.{geometry_of}
use Rattle.snoop_table.specs.Writers.{writer_geometry}
use Rattle.bench.proofs.snoop.lap.time_ring.Given as goal

abbrev pub invariant-loop : goal.invariant-loop
invariant-loop g l = (vec_len l.frame ≡ (writer_geometry l.writer).channels) × (vec_len l.frame ≡ (geometry_of l.reader).channels)
