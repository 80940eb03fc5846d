-- A reader keeps its ring.
use Rattle.dmix_c.specs.Prelude.{refl, ◌≡◌, IsLaterSeat, Recording, KeepsSource}

pub KeepsSource-later : (p q : Recording) → IsLaterSeat p.seat q.seat → q.rate ≡ p.rate → KeepsSource p q
KeepsSource-later p q goes rate = record { ring = (goes.ring, goes.geometry); rate = rate }

pub KeepsSource-same : (p : Recording) → KeepsSource p p
KeepsSource-same p = record { ring = (refl, refl); rate = refl }
