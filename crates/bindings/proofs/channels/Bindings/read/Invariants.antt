use Rattle.std.proofs.Common.{◌≡◌, ℕ, ◌<◌, take}
use Rattle.std.specs.Prelude.{None}
use Rattle.bindings.specs.Answers.{entry_defect}
use Rattle.bindings.specs.Bound.{in_eight_places}
use Rattle.bindings.proofs.channels.Bindings.read.Given as goal

abbrev pub invariant-loop-place : goal.invariant-loop-place
invariant-loop-place l = (l.channels ≡ in_eight_places (take l.place l.list)) × ((k : ℕ) → k < l.place → entry_defect l.list l.card_channels k ≡ None)
