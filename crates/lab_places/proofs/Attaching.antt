-- An attach at a lobby is that of a run.
use Rattle.lab_places.specs.Prelude.{ap, arith, Bool, cond, Err, false, IfOk, if◌then◌else◌, IsSome, length, List, nat_lt, None, not, Ok, Option, refl, Result}
use Rattle.lab_places.specs.Prelude.{set, Some, subst, suc, sym, true, zero, ℕ, [], ◌&&◌, ◌+◌, ◌∙◌, ◌∷◌, ◌≡◌, ◌≤◌, nat_tests, none-some, list_any, position}
use Rattle.lab_places.specs.Prelude.{position_or_len, is_some, PcmError, Busy, Position, MixSeat, last_frame, member_of, Lobby as Free, Attaches, free_seats}
use Rattle.lab_places.specs.Prelude.{LoadsAt, Outcome, seen_of_lobby, IsBusy, last_of, lowest_free, lowest_silent, seat_at, after_attach, attached_by, held_by}
use Rattle.lab_places.specs.Prelude.{is_below, is_free, is_silent, Place, place_after, AreAtPlaces, HoldsGiven, HoldsNone, HoldsPlace, IsAnswerOfRun, IsAtPlace}
use Rattle.std.proofs.lemmas.List.Folds.{list_any_at, list_any_none}
use Rattle.std.proofs.lemmas.List.Quantifiers.{position-Some}
use Rattle.std.proofs.lemmas.List.Sums.{fails_before_first}
use Rattle.lab_run.specs.Places.{Lobby}
use Rattle.lab_places.proofs.Least.{least_last-is}
use Rattle.lobby.specs.Seats as seats

-- ---- the first place that passes a test

abbrev SameTests : (Option MixSeat → Bool) → (Place → Bool) → Type 0
SameTests f g = (seat : Option MixSeat) (place : Place) → IsAtPlace seat place → f seat ≡ g place

first-at : (f : Option MixSeat → Bool) (g : Place → Bool) → SameTests f g → (more : List (Option MixSeat)) (places : List Place) → AreAtPlaces more places
    → position_or_len f more ≡ position_or_len g places
first-at f g same [] [] at = refl
first-at f g same [] (place ∷ places) at = absurd at
first-at f g same (seat ∷ more) [] at = absurd at
first-at f g same (seat ∷ more) (place ∷ places) at =
    ap (λ here. cond (not here) (1 + position_or_len f more) 0) (same seat place at.0) ∙ ap (λ n. cond (not (g place)) (1 + n) 0) (first-at f g same more places at.1)

length-at : (more : List (Option MixSeat)) (places : List Place) → AreAtPlaces more places → length more ≡ length places
length-at [] [] at = refl
length-at [] (place ∷ places) at = absurd at
length-at (seat ∷ more) [] at = absurd at
length-at (seat ∷ more) (place ∷ places) at = ap (λ n. suc n) (length-at more places at.1)

position-at : (f : Option MixSeat → Bool) (g : Place → Bool) → SameTests f g → (more : List (Option MixSeat)) (places : List Place) → AreAtPlaces more places
    → position f more ≡ position g places
position-at f g same more places at =
    ap (λ n. cond (nat_lt n (length more)) (Some n) None) (first-at f g same more places at)
    ∙ ap (λ m. cond (nat_lt (position_or_len g places) m) (Some (position_or_len g places)) None) (length-at more places at)

free-test : SameTests is_some is_free
free-test None place at = sym at
free-test (Some s) place at = sym at.0

below-same : (position : ℕ) (last : Option ℕ) → seats.is_below position last ≡ is_below last position
below-same position None = refl
below-same position (Some frame) = refl

silent-test : (position : ℕ) → SameTests (seats.is_silent position) (is_silent position)
silent-test position None place at = ap (λ free. free && is_below place.last position) (sym at)
silent-test position (Some s) place at =
    below-same position (last_of s)
    ∙ (ap (λ last. is_below last position) (sym at.1) ∙ ap (λ free. free && is_below place.last position) (sym at.0))

lowest_silent-at : (position : ℕ) (more : List (Option MixSeat)) (places : List Place) → AreAtPlaces more places
    → lowest_silent position more ≡ Rattle.std.specs.List.position (is_silent position) places
lowest_silent-at position = position-at (seats.is_silent position) (is_silent position) (silent-test position)

-- ---- some place is free, or none

any_free : (more : List (Option MixSeat)) (places : List Place) (place : ℕ) → AreAtPlaces more places → lowest_free more ≡ Some place → list_any is_free places ≡ true
any_free more places place at found =
    let is : position is_free places ≡ Some place = sym (position-at is_some is_free free-test more places at) ∙ found in
    let there = position-Some is_free places place (record { holder = None; last = None }) is in
    list_any_at is_free places place (record { holder = None; last = None }) there.0 there.1

past_none : {X : Type 0} (p : X → Bool) (xs : List X) → position p xs ≡ None → length xs ≤ position_or_len p xs
past_none p xs is = grind (arith, nat_tests)

none_free : (more : List (Option MixSeat)) (places : List Place) → AreAtPlaces more places → lowest_free more ≡ None → list_any is_free places ≡ false
none_free more places at found =
    let past : length places ≤ position_or_len is_free places = past_none is_free places (sym (position-at is_some is_free free-test more places at) ∙ found) in
    list_any_none is_free places (λ k d within. fails_before_first is_free places k d (omega (arith, past, within)))

-- ---- what the lobby has then

set-at : (more : List (Option MixSeat)) (places : List Place) (place : ℕ) (s t : MixSeat) → AreAtPlaces more places → seat_at more place ≡ Some s
    → last_of t ≡ last_of s → AreAtPlaces (set more place (Some t)) places
set-at [] [] place s t at there same = tt
set-at [] (first ∷ places) place s t at there same = absurd at
set-at (seat ∷ more) [] place s t at there same = absurd at
set-at (seat ∷ more) (first ∷ places) zero s t at there same =
    let here : IsAtPlace (Some s) first = subst (λ o. IsAtPlace o first) there at.0 in
    ((here.0, here.1 ∙ sym same), at.1)
set-at (seat ∷ more) (first ∷ places) (suc place) s t at there same = (at.0, set-at more places place s t at.1 there same)

taken-at : (number : ℕ) (more : List (Option MixSeat)) (places : List Place) (place : ℕ) → AreAtPlaces more places
    → AreAtPlaces (set more place None) (held_by number place places)
taken-at number [] [] place at = tt
taken-at number [] (first ∷ places) place at = absurd at
taken-at number (seat ∷ more) [] place at = absurd at
taken-at number (seat ∷ more) (first ∷ places) zero at = (refl, at.1)
taken-at number (seat ∷ more) (first ∷ places) (suc place) at = (at.0, taken-at number more places place at.1)

holds-at : (number : ℕ) (more : List (Option MixSeat)) (places : List Place) (place : ℕ) (s : MixSeat) → AreAtPlaces more places → seat_at more place ≡ Some s
    → HoldsNone number places → HoldsPlace number place (last_of s) (held_by number place places)
holds-at number [] [] place s at there none = absurd (none-some s there)
holds-at number [] (first ∷ places) place s at there none = absurd at
holds-at number (seat ∷ more) [] place s at there none = absurd at
holds-at number (seat ∷ more) (first ∷ places) zero s at there none =
    let here : IsAtPlace (Some s) first = subst (λ o. IsAtPlace o first) there at.0 in
    (ap (λ last. record { holder = Some number; last = last }) here.1, none.1)
holds-at number (seat ∷ more) (first ∷ places) (suc place) s at there none = (none.0, holds-at number more places place s at.1 there none.1)

-- ---- an attach

-- what an attach at a position made of the seats is what a run makes of its places
pub record SeatsAttach (number position : ℕ) (lobby : Lobby) (r : Result MixSeat PcmError) (after : List (Option MixSeat)) : Type 0 where
  pub places : AreAtPlaces after (after_attach number position lobby).0.places
  pub answer : IsAnswerOfRun r (after_attach number position lobby).1
  pub place : HoldsGiven number lobby.places r (after_attach number position lobby).0.places

attached-none : (number position : ℕ) (lobby : Lobby) (more : List (Option MixSeat)) → AreAtPlaces more lobby.places → lowest_free more ≡ None
    → after_attach number position lobby ≡ (lobby, Err (Busy None lobby.seen))
attached-none number position lobby more at found =
    ap (λ free. if free then attached_by (Rattle.std.specs.List.position (is_silent position) lobby.places) number position lobby else (lobby, Err (Busy None lobby.seen)))
    (none_free more lobby.places at found)

attached-some : (number position : ℕ) (lobby : Lobby) (more : List (Option MixSeat)) (place : ℕ) (silent : Option ℕ) → AreAtPlaces more lobby.places
    → lowest_free more ≡ Some place → lowest_silent position more ≡ silent → after_attach number position lobby ≡ attached_by silent number position lobby
attached-some number position lobby more place silent at found is =
    ap (λ free. if free then attached_by (Rattle.std.specs.List.position (is_silent position) lobby.places) number position lobby else (lobby, Err (Busy None lobby.seen)))
    (any_free more lobby.places place at found)
    ∙ ap (λ o. attached_by o number position lobby) (sym (lowest_silent-at position more lobby.places at) ∙ is)

-- by way of the seat of a place that loads the position
attaches-at : (load : MixSeat → MixSeat → Type 0) (number position : ℕ) (lobby : Lobby) (before between after : List (Option MixSeat)) (place : ℕ) (r : Result MixSeat PcmError)
    → AreAtPlaces before lobby.places → lowest_free before ≡ Some place → LoadsAt load before place between → Outcome position before between r after
    → SeatsAttach number position lobby r after
attaches-at load number position lobby before between after place r at found loads outcome = by_answer r outcome
  where
    loaded : AreAtPlaces between lobby.places
    loaded = subst (λ seats. AreAtPlaces seats lobby.places) (sym loads.after_is)
        (set-at before lobby.places place loads.seat loads.loaded at loads.found (ap last_frame loads.laid))

    by_answer : (r : Result MixSeat PcmError) → Outcome position before between r after → SeatsAttach number position lobby r after
    by_answer (Ok s) out =
        let is = attached-some number position lobby before place (Some (member_of s)) at found out.lowest in
        record {
          places = subst (λ (x : Lobby × Result (Unit {0}) PcmError). AreAtPlaces after x.0.places) (sym is)
              (subst (λ seats. AreAtPlaces seats (held_by number (member_of s) lobby.places)) (sym out.after_is) (taken-at number between lobby.places (member_of s) loaded));
          answer = ap (λ (x : Lobby × Result (Unit {0}) PcmError). x.1) is;
          place = λ none. subst (λ (x : Lobby × Result (Unit {0}) PcmError). HoldsPlace number (member_of s) (last_of s) x.0.places) (sym is)
              (holds-at number between lobby.places (member_of s) s loaded out.found none);
        }
    by_answer (Err e) out =
        let busy : IsBusy position before e = out.0 in
        let is = attached-some number position lobby before place None at found busy.none in
        let until : place_after (Rattle.lab_run.specs.Places.least_last lobby.places) ≡ Some (busy.least + 1) = ap place_after (least_last-is before lobby.places busy.least at busy.is_least) in
        record {
          places = subst (λ (x : Lobby × Result (Unit {0}) PcmError). AreAtPlaces after x.0.places) (sym is) (subst (λ seats. AreAtPlaces seats lobby.places) (sym out.1) loaded);
          answer = ap (λ (x : Lobby × Result (Unit {0}) PcmError). x.1) is ∙ ap Err (ap (λ o. Busy o position) until ∙ sym busy.is);
          place = λ none. tt;
        }

-- the position that the lobby saw last is then the one that was loaded
attached-seen : (number position : ℕ) (lobby : Lobby) (more : List (Option MixSeat)) (place : ℕ) → AreAtPlaces more lobby.places → lowest_free more ≡ Some place
    → (after_attach number position lobby).0.seen ≡ position
attached-seen number position lobby more place at found = by_silent (lowest_silent position more) refl
  where
    by_silent : (o : Option ℕ) → lowest_silent position more ≡ o → (after_attach number position lobby).0.seen ≡ position
    by_silent None is = ap (λ (x : Lobby × Result (Unit {0}) PcmError). x.0.seen) (attached-some number position lobby more place None at found is)
    by_silent (Some i) is = ap (λ (x : Lobby × Result (Unit {0}) PcmError). x.0.seen) (attached-some number position lobby more place (Some i) at found is)

-- ---- whether or not a place is free

-- what an attach made of a lobby is what a run makes of it
pub record LobbyAttaches (number position : ℕ) (lobby : Lobby) (r : Result MixSeat PcmError) (m : Free) : Type 0 where
  pub seats_attach : SeatsAttach number position lobby r (free_seats m)
  pub seen : (after_attach number position lobby).0.seen ≡ seen_of_lobby m

pub lobby-attaches : (load : Position → MixSeat → MixSeat → Type 0) (number position : ℕ) (lobby : Lobby) (l m : Free) (r : Result MixSeat PcmError)
    → AreAtPlaces (free_seats l) lobby.places → lobby.seen ≡ seen_of_lobby l
    → (lowest_free (free_seats l) ≡ None → (r ≡ Err (Busy None (seen_of_lobby l))) × (m ≡ l))
    → ((place : ℕ) → lowest_free (free_seats l) ≡ Some place → Attaches load place l m r)
    → (IsSome (lowest_free (free_seats l)) → seen_of_lobby m ≡ position)
    → LobbyAttaches number position lobby r m
lobby-attaches load number position lobby l m r at seen none_free_is free_is published = by_free (lowest_free (free_seats l)) refl
  where
    by_free : (o : Option ℕ) → lowest_free (free_seats l) ≡ o → LobbyAttaches number position lobby r m
    by_free None found =
        let is = attached-none number position lobby (free_seats l) at found in
        let came = none_free_is found in
        record {
          seats_attach = record {
            places = subst (λ (x : Lobby × Result (Unit {0}) PcmError). AreAtPlaces (free_seats m) x.0.places) (sym is) (subst (λ (x : Free). AreAtPlaces (free_seats x) lobby.places) (sym came.1) at);
            answer = subst (λ x. IsAnswerOfRun x (after_attach number position lobby).1) (sym came.0)
                (ap (λ (x : Lobby × Result (Unit {0}) PcmError). x.1) is ∙ ap (λ n. Err (Busy None n)) seen);
            place = λ none. subst (λ x. IfOk x (λ s. HoldsPlace number (member_of s) (last_of s) (after_attach number position lobby).0.places)) (sym came.0) tt;
          };
          seen = ap (λ (x : Lobby × Result (Unit {0}) PcmError). x.0.seen) is ∙ (seen ∙ ap seen_of_lobby (sym came.1));
        }
    by_free (Some place) found =
        let came : Attaches load place l m r = free_is place found in
        let frame : came.position.frame ≡ position = sym came.seen ∙ published (subst IsSome (sym found) refl) in
        let outcome : Outcome position (free_seats l) came.between r (free_seats m) = subst (λ n. Outcome n (free_seats l) came.between r (free_seats m)) frame came.outcome in
        record {
          seats_attach = attaches-at (load came.position) number position lobby (free_seats l) came.between (free_seats m) place r at found came.loads outcome;
          seen = attached-seen number position lobby (free_seats l) place at found ∙ sym (published (subst IsSome (sym found) refl));
        }
