-- A new lobby has the places of a new run.
use Rattle.lab_places.specs.Prelude.{ap, arith, length, List, None, Option, refl, replicate, Some, subst, suc, sym, ℕ, [], ◌<◌, ◌∷◌, ◌≡◌, MixSeat, View}
use Rattle.lab_places.specs.Prelude.{last_frame, places_of_seat, view_of, Lobby as Free, free_seats, IsNewLobby, seat_at, Place, AreAtPlaces, IsAtPlace}

abbrev free_place : Place
free_place = record { holder = None; last = None }

-- a seat by which nothing was placed
abbrev IsUnused : Option MixSeat → Type 0
IsUnused o = (s : MixSeat) × (o ≡ Some s) × ((view_of s).laid ≡ [])

unused-at : (o : Option MixSeat) → IsUnused o → IsAtPlace o free_place
unused-at o is = subst (λ x. IsAtPlace x free_place) (sym is.1) (refl, sym (ap last_frame is.2))

all-unused : (more : List (Option MixSeat)) → ((i : ℕ) → i < length more → IsUnused (seat_at more i)) → AreAtPlaces more (replicate (length more) free_place)
all-unused [] each = tt
all-unused (seat ∷ more) each = (unused-at seat (each 0 (omega arith)), all-unused more (λ i within. each (suc i) (omega (arith, within))))

pub new-at : (whole : MixSeat) (l : Free) → IsNewLobby whole l → AreAtPlaces (free_seats l) (replicate (places_of_seat whole) free_place)
new-at whole l is =
    let unused : (i : ℕ) → i < length (free_seats l) → IsUnused (seat_at (free_seats l) i) =
    λ i within. let seat = is.each i (omega (arith, within, is.places)) in (seat.0, seat.1, ap (λ (v : View). v.laid) seat.2.view) in
    subst (λ n. AreAtPlaces (free_seats l) (replicate n free_place)) is.places (all-unused (free_seats l) unused)
