-- A place that is given back is that of a run.
use Rattle.lab_places.specs.Prelude.{ap, arith, Bool, if◌then◌else◌, List, map, None, Option, refl, set, Some, subst, suc, sym, true, zero, ℕ, [], ◌∙◌, ◌∷◌}
use Rattle.lab_places.specs.Prelude.{◌≡◌, nat_tests, MixSeat, member_of, Lobby as Free, free_seats, seen_of_lobby, TakesBack, Share, with_release, Held}
use Rattle.lab_places.specs.Prelude.{is_held_by, left_place, Place, last_from, AreAtPlaces, closed_held, HoldsNone, HoldsPlace, IsAtPlace, IsOwnLast}
use Rattle.lab_run.specs.Places.{last_of}
use Rattle.lobby.specs.Seats as seats
use Rattle.dshare.specs.Shared as shared

abbrev left_if : Bool → Option ℕ → Place → Place
left_if held last place = if held then record { holder = None; last = last_of last place.last } else place

left-none : (number : ℕ) (last : Option ℕ) (places : List Place) → HoldsNone number places → map (left_place number last) places ≡ places
left-none number last [] none = refl
left-none number last (first ∷ places) none =
    ap (λ held. left_if held last first ∷ map (left_place number last) places) none.0 ∙ ap (λ more. first ∷ more) (left-none number last places none.1)

-- the place that the client held is free, with its last frame
pub back-at : (number place : ℕ) (before own : Option ℕ) (more : List (Option MixSeat)) (places : List Place) (s : MixSeat) → AreAtPlaces more places
    → HoldsPlace number place before places → seats.last_of s ≡ last_of own before → AreAtPlaces (set more place (Some s)) (map (left_place number own) places)
back-at number place before own more [] s at holds last = absurd holds
back-at number place before own [] (first ∷ places) s at holds last = absurd at
back-at number zero before own (seat ∷ more) (first ∷ places) s at holds last =
    let held : is_held_by number (Some number) ≡ true = grind (arith, nat_tests) in
    let here : left_place number own first ≡ record { holder = None; last = last_of own before } = ap (left_place number own) holds.0 ∙ ap (λ is. left_if is own (record { holder = Some number; last = before })) held in
    let is : IsAtPlace (Some s) (record { holder = None; last = last_of own before }) = (refl, sym last) in (
      subst (IsAtPlace (Some s)) (sym here) is,
      subst (AreAtPlaces more) (sym (left-none number own places holds.1)) at.1,
    )
back-at number (suc place) before own (seat ∷ more) (first ∷ places) s at holds last = (
  subst (IsAtPlace seat) (sym (ap (λ is. left_if is own first) holds.0)) at.0,
  back-at number place before own more places s at.1 holds.1 last,
)

-- a client is closed: its seat is back, and its channels are released with its own last frame
pub closed-is : (sharing : Share) (l k m : Free) (v : shared.Ownership) (number : ℕ) (channels : List ℕ) (position : ℕ) (s : MixSeat) (held : Held) (before own : Option ℕ)
    → AreAtPlaces (free_seats l) held.lobby.places → held.lobby.seen ≡ seen_of_lobby l → k ≡ l → TakesBack k m s
    → shared.StandsFor v (with_release sharing channels (last_from position (seats.last_of s)) held.claims)
    → HoldsPlace number (member_of s) before held.lobby.places → IsOwnLast position before own (seats.last_of s)
    → AreAtPlaces (free_seats m) (closed_held sharing number channels own held).lobby.places × (held.lobby.seen ≡ seen_of_lobby m)
    × shared.StandsFor v (closed_held sharing number channels own held).claims
closed-is sharing l k m v number channels position s held before own at seen same back claims holds last = (
  subst (λ more. AreAtPlaces more (closed_held sharing number channels own held).lobby.places) (sym (back.seats ∙ ap (λ (x : Free). set (free_seats x) (member_of s) (Some s)) same))
      (back-at number (member_of s) before own (free_seats l) held.lobby.places s at holds last.last_is),
  seen ∙ (ap seen_of_lobby (sym same) ∙ sym back.seen),
  subst (λ o. shared.StandsFor v (with_release sharing channels o held.claims)) (sym last.own_is) claims,
)
