use Rattle.lab_check.specs.Prelude.{drop, take, ◌==◌, ◌≡◌, list_any, slice_index, rising}
use Rattle.lab_check.proofs.covering.reaches_channel.Given as goal

abbrev pub invariant-loop-place : goal.invariant-loop-place
invariant-loop-place l =
    list_any (λ q. slice_index l.bindings q == l.channel) (take l.places (rising l.bindings))
    ≡ list_any (λ q. slice_index l.bindings q == l.channel) (drop l.place (take l.places (rising l.bindings)))
