use Rattle.std.proofs.Common.{◌≡◌, take}
use Rattle.bindings.specs.Bound.{in_eight_places}
use Rattle.bindings.proofs.channels.in_eight_places.Given as goal

abbrev pub invariant-loop-place : goal.invariant-loop-place
invariant-loop-place l = l.places ≡ in_eight_places (take l.place l.list)
