-- A client at its seat keeps its place.
use Rattle.dmix_c.specs.Prelude.{refl, ◌≡◌, MixSeat, KeepsPlace, IsSamePlace}
use Rattle.sum_table.specs.Seats.{IsLaterSeat}
use Rattle.dmix_c.specs.declared.playback.Playback.{Playback}

pub IsSamePlace-later : (s t : MixSeat) → IsLaterSeat s t → IsSamePlace s t
IsSamePlace-later s t goes = record { ring = goes.ring; key = goes.key; member = goes.member; places = goes.places }

pub IsSamePlace-same : (s : MixSeat) → IsSamePlace s s
IsSamePlace-same s = record { ring = refl; key = refl; member = refl; places = refl }

pub KeepsPlace-later : (p q : Playback) → IsLaterSeat p.seat q.seat → q.rate ≡ p.rate → KeepsPlace p q
KeepsPlace-later p q goes rate = record { place = IsSamePlace-later p.seat q.seat goes; rate = rate }

pub KeepsPlace-same : (p : Playback) → KeepsPlace p p
KeepsPlace-same p = record { place = IsSamePlace-same p.seat; rate = refl }
