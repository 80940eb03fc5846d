use Rattle.std.proofs.Common.{◌≡◌}
use Rattle.bench.proofs.snoop.lap.load_lap.Given as goal

abbrev pub invariant-loop-frame : goal.invariant-loop-frame
invariant-loop-frame l = (l.reader.geometry ≡ l.fn.reader.geometry) × (l.reader.seen ≡ l.fn.reader.seen)
