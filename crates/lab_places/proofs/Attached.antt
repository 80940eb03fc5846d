-- A client that attached beside the player, and whose seat met the player then.
use Rattle.lab_places.specs.Prelude.{ap, Err, IfSome, IsSome, None, Ok, Option, refl, Result, Some, subst, sym, ℕ, ◌<◌, ◌∙◌, ◌≡◌, ◌≤◌, PcmError, Busy, Position}
use Rattle.lab_places.specs.Prelude.{start_marks, MixSeat, PlayerSeat, last_frame, position_of_player, key_of, marks_of_seat, member_of, Lobby as Free}
use Rattle.lab_places.specs.Prelude.{Attaches, free_seats, IsSilentSeat, key_of_lobby, ring_of_lobby, seen_of_lobby, IsPlace, last_of, lowest_free}
use Rattle.lab_places.specs.Prelude.{lowest_silent, after_attach, MarksAlike, Places, AttachesAt, HasMetPlayer, HoldsPlace, IsGiven}
use Rattle.sum_table.specs.declared.view.Key.{Key}
use Rattle.lab_run.specs.Places.{Lobby}
use Rattle.lab_places.proofs.Attaching.{LobbyAttaches}
use Rattle.lab_places.proofs.Fresh.{given-alike}

-- an attach that was refused
pub attaches-refused : (number position : ℕ) (lobby : Lobby) (e : PcmError) (q : Places) → LobbyAttaches number position lobby (Err e) q.lobby → AttachesAt number position lobby (Err e) q
attaches-refused number position lobby e q is = record {
  lobby_then = record { places = is.seats_attach.places; seen = is.seen };
  answer = is.seats_attach.answer;
  place = is.seats_attach.place;
}

-- one that went well: the place is that of the seat that met the player
pub attaches-met : (number position : ℕ) (lobby : Lobby) (p r : PlayerSeat) (s t : MixSeat) (q : Places) → LobbyAttaches number position lobby (Ok s) q.lobby → HasMetPlayer p r s t
    → AttachesAt number position lobby (Ok t) q
attaches-met number position lobby p r s t q is met = record {
  lobby_then = record { places = is.seats_attach.places; seen = is.seen };
  answer = is.seats_attach.answer;
  place = λ none. subst (λ last. HoldsPlace number (member_of t) last (after_attach number position lobby).0.places) (sym (ap last_frame met.laid))
      (subst (λ place. HoldsPlace number place (last_of s) (after_attach number position lobby).0.places) (sym met.member) (is.seats_attach.place none));
}

-- a place was free where a seat was given
pub free-given : (l m : Free) (s : MixSeat) (r : Result MixSeat PcmError) → r ≡ Ok s
    → (lowest_free (free_seats l) ≡ None → (r ≡ Err (Busy None (seen_of_lobby l))) × (m ≡ l)) → IsSome (lowest_free (free_seats l))
free-given l m s r ok none_free_is = by_free (lowest_free (free_seats l)) refl
  where
    IsGranted : Result MixSeat PcmError → Type 0
    IsGranted (Ok s) = Unit {0}
    IsGranted (Err e) = ⊥

    by_free : (o : Option ℕ) → lowest_free (free_seats l) ≡ o → IsSome (lowest_free (free_seats l))
    by_free None found = absurd (subst IsGranted (sym ok ∙ (none_free_is found).0) tt)
    by_free (Some place) found = subst IsSome (sym found) refl

-- its place is the lowest that was free and silent
pub place-given : (load : Position → MixSeat → MixSeat → Type 0) (l m : Free) (position : ℕ) (s : MixSeat) → IsSome (lowest_free (free_seats l))
    → ((place : ℕ) → lowest_free (free_seats l) ≡ Some place → Attaches load place l m (Ok s)) → seen_of_lobby m ≡ position
    → lowest_silent position (free_seats l) ≡ Some (member_of s)
place-given load l m position s some_free free_is seen = by_free (lowest_free (free_seats l)) refl
  where
    by_free : (o : Option ℕ) → lowest_free (free_seats l) ≡ o → lowest_silent position (free_seats l) ≡ Some (member_of s)
    by_free None found = let never = subst IsSome found some_free in absurd (cc)
    by_free (Some place) found =
        let came : Attaches load place l m (Ok s) = free_is place found in
        subst (λ n. lowest_silent n (free_seats l) ≡ Some (member_of s)) (sym came.seen ∙ seen) came.outcome.lowest

-- the seat that is given
pub given-is : (q : Places) (l m : Free) (position : ℕ) (p r : PlayerSeat) (s t : MixSeat) → q.lobby ≡ l → position_of_player p ≡ position
    → IsSilentSeat l (seen_of_lobby m) s → seen_of_lobby m ≡ position → HasMetPlayer p r s t → IsGiven q position t
given-is q l m position p r s t same position_is silent seen met =
    let place : IsPlace (ring_of_lobby l) (key_of_lobby l) (member_of s) t = met.place (ring_of_lobby l) (key_of_lobby l) (member_of s) silent.0 in
    let below : IfSome (last_of t) (λ frame. frame < position) =
    subst (λ n. IfSome (last_of t) (λ frame. frame < n)) seen (subst (λ o. IfSome o (λ frame. frame < seen_of_lobby m)) (sym (ap last_frame met.laid)) silent.1) in
    let alike : MarksAlike (key_of t).geometry position (marks_of_seat t).high (start_marks (key_of t).geometry) (marks_of_seat t) =
    given-alike (key_of t).geometry position (marks_of_seat t) (last_of t) met.high met.cursor met.floor below
    (subst (λ n. Rattle.snd_base.specs.Places.first_frame (key_of t).geometry ≤ n) position_is met.first) in
    record {
      place = subst (λ (x : Free). IsPlace (ring_of_lobby x) (key_of_lobby x) (member_of t) t) (sym same) (subst (λ n. IsPlace (ring_of_lobby l) (key_of_lobby l) n t) (sym met.member) place);
      seen = subst (λ n. n ≤ Rattle.sum_table.specs.Seats.seen_of t) position_is met.seen;
      marks = subst (λ (k : Key). MarksAlike k.geometry position (marks_of_seat t).high (start_marks k.geometry) (marks_of_seat t))
          (place.of_key ∙ ap key_of_lobby (sym same)) alike;
    }
