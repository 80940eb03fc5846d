use Rattle.dmix_c.specs.Prelude.{None, Collects, KeepsRing}
use Rattle.dmix_c.proofs.open_ring.OpenRing.collect.Given as goal

abbrev pub invariant-loop-place : goal.invariant-loop-place
invariant-loop-place l = record {
  keeps : KeepsRing None l.fn.self l.self;
  back : Collects l.fn.self l.self;
}
