use Rattle.dmix_c.specs.Prelude.{length, ◌≡◌, AreNone}
use Rattle.dmix_c.proofs.way.no_ways.Given as goal

abbrev pub invariant-loop-place : goal.invariant-loop-place
invariant-loop-place l = record { none : AreNone l.ways.items; count : length l.ways.items ≡ l._place }
