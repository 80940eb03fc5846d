-- Which places of a ring are free after its lobby handed a seat out, or took some back.
use Rattle.dmix_c.specs.Prelude.{ap, arith, get_or, inl, inr, length, List, refl, set, subst, sym, ℕ, [], ◌++◌, ◌<◌, ◌∙◌, ◌∷◌, ◌≡◌, cases_eq, cases_lt}
use Rattle.dmix_c.specs.Prelude.{false≢true, get_or-set_other, get_or-set_same, length-set, none-some, same_Some, is_some, Bool, Err, false, None, Ok, Option}
use Rattle.dmix_c.specs.Prelude.{Result, Some, PcmError, Busy, MixSeat, last_frame, member_of, Lobby, Attaches, CanTakeBack, free_seats, HandsOut}
use Rattle.dmix_c.specs.Prelude.{places_of_lobby, seen_of_lobby, TakesBack, KeepsLasts, last_of, lowest_free, lowest_silent, seat_at, OpenRing, CameBack}
use Rattle.dmix_c.specs.Prelude.{Collects, IsFree, IsHandedOut, Receives, StayFree}
use Rattle.std.proofs.Math.ListN.{get_or-eq_default}
use Rattle.std.proofs.lemmas.Bool.Decides.{nat_tests}
use Rattle.std.proofs.lemmas.List.Sums.{fails_before_first}
use Rattle.std.specs.List.{position, position_or_len}
use Rattle.mix_core.specs.declared.port.Position.{Position}
use Rattle.lobby.specs.Loads.{HasLoaded}
use Rattle.lobby.specs.Lobbies.{LoadsAt}
use Rattle.lobby.proofs.Attaching.{KeepsLasts-set}
use Rattle.lobby.proofs.Placed.{silent-found}

-- a free place is one of the places
inside-free : (seats : List (Option MixSeat)) (place : ℕ) (s : MixSeat) → seat_at seats place ≡ Some s → place < length seats
inside-free seats place s at = elim (cases_lt place (length seats)) [
  | inl below ↦ below
  | inr past ↦ absurd (none-some s (sym (get_or-eq_default seats None (omega arith)) ∙ at))
]

-- where none of a list passes a test, each fails it
before-missing : {X : Type 0} (p : X → Bool) (xs : List X) (k : ℕ) → position p xs ≡ None → k < length xs → k < position_or_len p xs
before-missing p xs k none inside = grind (arith, nat_tests)

-- where no place is free, none is free and silent
lowest_silent-none : (p : ℕ) (seats : List (Option MixSeat)) → lowest_free seats ≡ None → lowest_silent p seats ≡ None
lowest_silent-none p seats none = by_place (lowest_silent p seats) refl
  where
    by_place : (o : Option ℕ) → lowest_silent p seats ≡ o → lowest_silent p seats ≡ None
    by_place None is = is
    by_place (Some place) is =
        let found = silent-found p seats place is in
        let fails : is_some (seat_at seats place) ≡ false = fails_before_first is_some seats place None (before-missing is_some seats place none found.0) in
        absurd (false≢true (sym fails ∙ ap is_some found.1.1))

-- a load by the seat of a place
KeepsLasts-loaded : (load : MixSeat → MixSeat → Type 0) (before : List (Option MixSeat)) (place : ℕ) (between : List (Option MixSeat)) → LoadsAt load before place between
    → KeepsLasts before between
KeepsLasts-loaded load before place between loads = subst (KeepsLasts before) (sym loads.after_is) (KeepsLasts-set before place loads.seat loads.loaded loads.found loads.laid)

StayFree-loaded : (load : MixSeat → MixSeat → Type 0) (before : List (Option MixSeat)) (place : ℕ) (between : List (Option MixSeat)) → LoadsAt load before place between
    → StayFree None before between
StayFree-loaded load before place between loads k last other free =
    let is : IsFree (set before place (Some loads.loaded)) k last = elim (cases_eq k place) [
      | inl here ↦ (
        loads.loaded,
        ap (λ i. get_or (set before place (Some loads.loaded)) i None) here
            ∙ get_or-set_same before place (Some loads.loaded) None (inside-free before place loads.seat loads.found),
        ap last_frame loads.laid ∙ (ap last_of (same_Some loads.seat free.0 (sym loads.found ∙ (ap (seat_at before) (sym here) ∙ free.1))) ∙ free.2),
      )
      | inr elsewhere ↦ (free.0, get_or-set_other before place k (Some loads.loaded) None elsewhere ∙ free.1, free.2)
    ] in
    subst (λ (seats : List (Option MixSeat)). IsFree seats k last) (sym loads.after_is) is

-- a seat that is handed out
StayFree-handed : (p : ℕ) (before between after : List (Option MixSeat)) (s : MixSeat) → HandsOut p before between s after → StayFree (Some (member_of s)) between after
StayFree-handed p before between after s out k last other free =
    let is : IsFree (set between (member_of s) None) k last = elim (cases_eq k (member_of s)) [
      | inl same ↦ absurd (other (ap Some (sym same)))
      | inr elsewhere ↦ (free.0, get_or-set_other between (member_of s) k None None elsewhere ∙ free.1, free.2)
    ] in
    subst (λ (seats : List (Option MixSeat)). IsFree seats k last) (sym out.after_is) is

-- a seat that comes back
pub StayFree-back : (l m : Lobby) (s : MixSeat) → CanTakeBack l s → TakesBack l m s → StayFree None (free_seats l) (free_seats m)
StayFree-back l m s can back k last other free =
    let seats : List (Option MixSeat) = free_seats l in
    let is : IsFree (set seats (member_of s) (Some s)) k last = elim (cases_eq k (member_of s)) [
      | inl same ↦ absurd (none-some free.0 (sym (ap (seat_at seats) same ∙ can.out.is_none) ∙ free.1))
      | inr elsewhere ↦ (free.0, get_or-set_other seats (member_of s) k (Some s) None elsewhere ∙ free.1, free.2)
    ] in
    subst (λ (more : List (Option MixSeat)). IsFree more k last) (sym back.seats) is

CameBack-joined : (first more : List MixSeat) (l m n : Lobby) → CameBack first l m → CameBack more m n → CameBack (first ++ more) l n
CameBack-joined [] more l m n same then = subst (λ (k : Lobby). CameBack more k n) same then
CameBack-joined (s ∷ first) more l m n came then = (came.0, came.1, came.2, CameBack-joined first more came.0 m n came.3 then)

pub Collects-joined : (r t u : OpenRing) → Collects r t → Collects t u → Collects r u
Collects-joined r t u first then = (first.0 ++ then.0, CameBack-joined first.0 then.0 r.lobby t.lobby u.lobby first.1 then.1)

-- a seat that arrived was taken back, or its place was free
pub Collects-arrived : (r t u : OpenRing) (s : MixSeat) → t.lobby ≡ r.lobby → Receives t u s → Collects r u
Collects-arrived r t u s same (inl back) = (
  s ∷ [],
  (u.lobby, subst (λ (l : Lobby). CanTakeBack l s) same back.0, subst (λ (l : Lobby). TakesBack l u.lobby s) same back.1, refl),
)
Collects-arrived r t u s same (inr none) = ([], ap (λ (x : OpenRing). x.lobby) none.1 ∙ same)

-- a seat that was handed out is of one of the places
pub inside-handed : (l : Lobby) (s : MixSeat) → IsHandedOut l s → member_of s < places_of_lobby l
inside-handed l s out =
    let size : places_of_lobby l ≡ length out.0 = ap length out.1.after_is ∙ length-set out.0 (member_of s) None in
    subst (λ (n : ℕ). member_of s < n) (sym size) (silent-found (seen_of_lobby l) out.0 (member_of s) out.1.lowest).0

-- ---- what a lobby's attach gave

abbrev load : Position → MixSeat → MixSeat → Type 0
load p s t = HasLoaded s t p

abbrev given : MixSeat → Result MixSeat PcmError
given s = Ok s

abbrev refused : PcmError → Result MixSeat PcmError
refused e = Err e

given-refused : (s : MixSeat) (e : PcmError) → given s ≡ Err e → ⊥
given-refused s e is = cc

-- a seat, where a place was free
module _ (l m : Lobby) (s : MixSeat) (none : lowest_free (free_seats l) ≡ None → (given s ≡ Err (Busy None (seen_of_lobby l))) × (m ≡ l))
    (some : (place : ℕ) → lowest_free (free_seats l) ≡ Some place → Attaches load place l m (given s)) where
  attached : (place : ℕ) × Attaches load place l m (given s)
  attached = by_place (lowest_free (free_seats l)) refl
    where
      by_place : (o : Option ℕ) → lowest_free (free_seats l) ≡ o → (place : ℕ) × Attaches load place l m (given s)
      by_place None is = absurd (given-refused s (Busy None (seen_of_lobby l)) (none is).0)
      by_place (Some place) is = (place, some place is)

  pub StayFree-given : StayFree (Some (member_of s)) (free_seats l) (free_seats m)
  StayFree-given k last other free =
      let is : Attaches load attached.0 l m (given s) = attached.1 in
      StayFree-handed is.position.frame (free_seats l) is.between (free_seats m) s is.outcome k last other
      (StayFree-loaded (load is.position) (free_seats l) attached.0 is.between is.loads k last (none-some k) free)

  pub IsHandedOut-given : IsHandedOut m s
  IsHandedOut-given =
      let is : Attaches load attached.0 l m (given s) = attached.1 in
      let keeps : KeepsLasts (free_seats l) is.between = KeepsLasts-loaded (load is.position) (free_seats l) attached.0 is.between is.loads in (
        is.between,
        record {
          lowest = ap (λ (p : ℕ). lowest_silent p is.between) is.seen ∙ (keeps.silent is.position.frame ∙ is.outcome.lowest);
          found = is.outcome.found;
          after_is = is.outcome.after_is;
        },
      )

-- none, where none is free and silent
module _ (l m : Lobby) (e : PcmError) (none : lowest_free (free_seats l) ≡ None → (refused e ≡ Err (Busy None (seen_of_lobby l))) × (m ≡ l))
    (some : (place : ℕ) → lowest_free (free_seats l) ≡ Some place → Attaches load place l m (refused e)) where
  pub StayFree-refused : StayFree None (free_seats l) (free_seats m)
  StayFree-refused k last other free = by_place (lowest_free (free_seats l)) refl
    where
      by_place : (o : Option ℕ) → lowest_free (free_seats l) ≡ o → IsFree (free_seats m) k last
      by_place None is = subst (λ (n : Lobby). IsFree (free_seats n) k last) (sym (none is).1) free
      by_place (Some place) is =
          let tried : Attaches load place l m (refused e) = some place is in
          subst (λ (seats : List (Option MixSeat)). IsFree seats k last) (sym tried.outcome.1)
          (StayFree-loaded (load tried.position) (free_seats l) place tried.between tried.loads k last other free)

  pub lowest_silent-refused : lowest_silent (seen_of_lobby m) (free_seats m) ≡ None
  lowest_silent-refused = by_place (lowest_free (free_seats l)) refl
    where
      by_place : (o : Option ℕ) → lowest_free (free_seats l) ≡ o → lowest_silent (seen_of_lobby m) (free_seats m) ≡ None
      by_place None is =
          ap (λ (n : Lobby). lowest_silent (seen_of_lobby n) (free_seats n)) (none is).1 ∙ lowest_silent-none (seen_of_lobby l) (free_seats l) is
      by_place (Some place) is =
          let tried : Attaches load place l m (refused e) = some place is in
          let keeps : KeepsLasts (free_seats l) tried.between = KeepsLasts-loaded (load tried.position) (free_seats l) place tried.between tried.loads in
          ap (λ (p : ℕ). lowest_silent p (free_seats m)) tried.seen
          ∙ (ap (lowest_silent tried.position.frame) tried.outcome.1 ∙ (keeps.silent tried.position.frame ∙ tried.outcome.0.none))
