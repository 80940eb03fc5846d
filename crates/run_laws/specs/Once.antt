-- A segment places each of its samples once.
use Rattle.std.specs.Prelude.{ℕ, ◌≤◌, ℤ, List}
use Rattle.snd_base.specs.declared.places.Segment.{Segment}
use Rattle.mix_core.specs.Laid.{count}
use Rattle.dmix_client.specs.Expansion.{expand}

-- at each frame and channel of the card a segment has at most one sample
abbrev pub PlacesOnce : ℕ → Segment → List ℤ → List ℕ → Type 0
PlacesOnce number segment samples bindings =
    (frame channel : ℕ) → count (expand number segment samples bindings) frame channel ≤ 1
