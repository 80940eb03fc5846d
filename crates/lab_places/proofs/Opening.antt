-- An opening is a claim and then an attach.
use Rattle.lab_places.specs.Prelude.{ap, Err, false, List, None, Ok, refl, Result, Some, subst, sym, true, true≢false, ℕ, ◌∙◌, ◌≡◌, PcmError, StandsFor}
use Rattle.lab_places.specs.Prelude.{MixSeat, Lobby as Free, free_seats, seen_of_lobby, Share, claim_refusal, with_claim, Held, after_attach, Places}
use Rattle.lab_places.specs.Prelude.{AreAtPlaces, attached_held, AttachesAt, HoldsGiven, IsAnswerOfRun, IsHeldBy, IsLobby, lobby_of, opened_held, opened_if}
use Rattle.lab_places.specs.Prelude.{Opens}
use Rattle.std.specs.Result.{IsErrAnd, is_err}
use Rattle.lab_run.specs.Places.{Lobby}

-- an opening comes to what is held then, and to an answer
Opens-as : (sharing : Share) (number : ℕ) (channels : List ℕ) (position : ℕ) (held : Held) (r : Result MixSeat PcmError) (q : Places) (came : Held × Result (Unit {0}) PcmError)
    → opened_held sharing number channels position held ≡ came → IsHeldBy q came.0 → IsAnswerOfRun r came.1 → HoldsGiven number held.lobby.places r came.0.lobby.places
    → Opens sharing number channels position held r q
Opens-as sharing number channels position held r q came is held_by answer place = record {
  held_then = subst (λ (x : Held × Result (Unit {0}) PcmError). IsHeldBy q x.0) (sym is) held_by;
  answer = subst (λ (x : Held × Result (Unit {0}) PcmError). IsAnswerOfRun r x.1) (sym is) answer;
  place = subst (λ (x : Held × Result (Unit {0}) PcmError). HoldsGiven number held.lobby.places r x.0.lobby.places) (sym is) place;
}

-- a claim is granted, and this comes of the attach
granted_is : (sharing : Share) (number : ℕ) (channels : List ℕ) (position : ℕ) (held : Held) (r : Result (Unit {0}) PcmError) → claim_refusal sharing held.claims channels position ≡ None
    → (after_attach number position held.lobby).1 ≡ r
    → opened_held sharing number channels position held ≡ attached_held sharing channels held ((after_attach number position held.lobby).0, r)
granted_is sharing number channels position held r granted is =
    ap (opened_if sharing number channels position held) granted ∙ ap (λ x. attached_held sharing channels held ((after_attach number position held.lobby).0, x)) is

-- the same lobby has the same places of a run
pub IsLobby-same : (p q : Places) (lobby : Lobby) → lobby_of q ≡ lobby_of p → IsLobby p lobby → IsLobby q lobby
IsLobby-same p q lobby same is = record {
  places = subst (λ (free : Free). AreAtPlaces (free_seats free) lobby.places) (sym same) is.places;
  seen = is.seen ∙ sym (ap seen_of_lobby same);
}

-- a claim is refused, and its error handed on
pub Opens-handed : (sharing : Share) (number : ℕ) (channels : List ℕ) (position : ℕ) (held : Held) (e : PcmError) (r : Result MixSeat PcmError) (q : Places) → IsErrAnd r (λ other. other ≡ e)
    → claim_refusal sharing held.claims channels position ≡ Some e → IsHeldBy q held → Opens sharing number channels position held r q
Opens-handed sharing number channels position held e (Ok s) q is = absurd is
Opens-handed sharing number channels position held e (Err other) q is = λ refused held_by.
    Opens-as sharing number channels position held (Err other) q (held, Err e) (ap (opened_if sharing number channels position held) refused) held_by (ap Err (sym is)) (λ none. tt)

-- a claim is granted, and the attach goes well
pub Opens-attached : (sharing : Share) (number : ℕ) (channels : List ℕ) (position : ℕ) (held : Held) (r : Result MixSeat PcmError) (q : Places) → is_err r ≡ false
    → claim_refusal sharing held.claims channels position ≡ None → AttachesAt number position held.lobby r q → StandsFor q.shares (with_claim sharing channels held.claims)
    → Opens sharing number channels position held r q
Opens-attached sharing number channels position held (Err e) q is = absurd (true≢false is)
Opens-attached sharing number channels position held (Ok s) q is = λ granted attaches claims.
    Opens-as sharing number channels position held (Ok s) q _ (granted_is sharing number channels position held (Ok tt) granted attaches.answer)
    (record { lobby = attaches.lobby_then; claims = claims }) refl attaches.place

-- a claim is granted and no place is: the places after the attach have the claims of before
pub Opens-undone : (sharing : Share) (number : ℕ) (channels : List ℕ) (position : ℕ) (held : Held) (r : Result MixSeat PcmError) (q t : Places) → lobby_of t ≡ lobby_of q → is_err r ≡ true
    → claim_refusal sharing held.claims channels position ≡ None → AttachesAt number position held.lobby r q → StandsFor t.shares held.claims
    → Opens sharing number channels position held r t
Opens-undone sharing number channels position held (Ok s) q t same is = absurd (true≢false (sym is))
Opens-undone sharing number channels position held (Err e) q t same is = λ granted attaches claims.
    Opens-as sharing number channels position held (Err e) t _ (granted_is sharing number channels position held (Err e) granted attaches.answer)
    (record { lobby = IsLobby-same q t (after_attach number position held.lobby).0 same attaches.lobby_then; claims = claims }) refl (λ none. tt)
