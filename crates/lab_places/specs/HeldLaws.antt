-- Laws of the places that clients hold: what an opening and a closing of one client leave to the others, and to the client itself.
use Rattle.std.specs.Prelude.{◌≡◌, ◌≢◌, ℕ, zero, suc, ◌<◌, ◌&&◌, Bool, true, false, if◌then◌else◌, List, [], ◌∷◌, length, map, slice_index_or, Option, Some, None, Result, Ok, Err}
use Rattle.std.specs.List.{list_any, position}
use Rattle.std.proofs.Common.{refl, sym, ap, ◌∙◌, arith}
use Rattle.std.proofs.lemmas.Bool.{false≢true}
use Rattle.std.proofs.lemmas.Bool.Decides.{nat_tests}
use Rattle.std.proofs.lemmas.List.Quantifiers.{position-Some}
use Rattle.std.proofs.lemmas.Option.{same_Some}
use Rattle.snd_base.specs.declared.errors.PcmError.{PcmError}
use Rattle.snd_base.specs.declared.errors.PcmError.TheVariants.{Busy}
use Rattle.sum_table.specs.declared.seats.mix.MixSeat.{MixSeat}
use Rattle.sum_table.specs.Seats.{member_of, places_of_seat}
use Rattle.lobby.specs.Lobbies.{CanTakeBack, free_seats}
use Rattle.lobby.specs.Seats as seats
use Rattle.lab_lines.specs.declared.script.Share.{Share}
use Rattle.lab_run.specs.Claims.{claim_refusal, with_claim}
use Rattle.lab_run.specs.Items.{Held}
use Rattle.lab_run.specs.Places.{Lobby, Place, attached_by, held_by, is_below, is_free, is_held_by, is_silent, last_of, least_last, left_place, place_after}
use Rattle.lab_places.specs.declared.places.Places.{Places}
use Rattle.lab_places.specs.Held.{AreAtPlaces, HoldsNone, HoldsPlace, IsLobby, attached_held, closed_held, lobby_of, new_held, opened_held, opened_if}

-- the place of a number is free
abbrev pub IsFreePlace : ℕ → List Place → Type 0
IsFreePlace place [] = ⊥
IsFreePlace zero (first ∷ places) = is_free first ≡ true
IsFreePlace (suc place) (first ∷ places) = IsFreePlace place places

is_held_by-other : (client other : ℕ) → client ≢ other → is_held_by other (Some client) ≡ false
is_held_by-other client other differ = grind (arith, nat_tests)

-- a place is held by one client
pub HoldsPlace-one : (client other place : ℕ) (last before : Option ℕ) (places : List Place) → HoldsPlace client place last places → HoldsPlace other place before places → client ≡ other
HoldsPlace-one client other place last before [] one two = absurd one
HoldsPlace-one client other zero last before (first ∷ places) one two = same_Some client other (ap (λ (p : Place). p.holder) (sym one.0 ∙ two.0))
HoldsPlace-one client other (suc place) last before (first ∷ places) one two = HoldsPlace-one client other place last before places one.1 two.1

-- ---- a client is given a place

pub HoldsNone-held_by : (client other place : ℕ) (places : List Place) → client ≢ other → HoldsNone other places → HoldsNone other (held_by client place places)
HoldsNone-held_by client other place [] differ none = tt
HoldsNone-held_by client other zero (first ∷ places) differ none = (is_held_by-other client other differ, none.1)
HoldsNone-held_by client other (suc place) (first ∷ places) differ none = (none.0, HoldsNone-held_by client other place places differ none.1)

-- it was free, so it is no other client's
pub HoldsPlace-held_by : (client other place at : ℕ) (last : Option ℕ) (places : List Place) → client ≢ other → IsFreePlace place places → HoldsPlace other at last places
    → HoldsPlace other at last (held_by client place places)
HoldsPlace-held_by client other place at last [] differ free holds = absurd holds
HoldsPlace-held_by client other zero zero last (first ∷ places) differ free holds = absurd (false≢true (sym (ap is_free holds.0) ∙ free))
HoldsPlace-held_by client other zero (suc at) last (first ∷ places) differ free holds = (is_held_by-other client other differ, holds.1)
HoldsPlace-held_by client other (suc place) zero last (first ∷ places) differ free holds = (holds.0, HoldsNone-held_by client other place places differ holds.1)
HoldsPlace-held_by client other (suc place) (suc at) last (first ∷ places) differ free holds =
    (holds.0, HoldsPlace-held_by client other place at last places differ free holds.1)

-- ---- a client gives its place back

abbrev left_if : Bool → Option ℕ → Place → Place
left_if held last place = if held then record { holder = None; last = last_of last place.last } else place

left_if-none : (other : ℕ) (held : Bool) (last : Option ℕ) (place : Place) → is_held_by other place.holder ≡ false → is_held_by other (left_if held last place).holder ≡ false
left_if-none other true last place none = refl
left_if-none other false last place none = none

left_if-gone : (client : ℕ) (held : Bool) (last : Option ℕ) (place : Place) → is_held_by client place.holder ≡ held → is_held_by client (left_if held last place).holder ≡ false
left_if-gone client true last place is = refl
left_if-gone client false last place is = is

pub HoldsNone-left : (client other : ℕ) (own : Option ℕ) (places : List Place) → HoldsNone other places → HoldsNone other (map (left_place client own) places)
HoldsNone-left client other own [] none = tt
HoldsNone-left client other own (first ∷ places) none =
    (left_if-none other (is_held_by client first.holder) own first none.0, HoldsNone-left client other own places none.1)

pub HoldsPlace-left : (client other at : ℕ) (own last : Option ℕ) (places : List Place) → client ≢ other → HoldsPlace other at last places
    → HoldsPlace other at last (map (left_place client own) places)
HoldsPlace-left client other at own last [] differ holds = absurd holds
HoldsPlace-left client other zero own last (first ∷ places) differ holds =
    let theirs : is_held_by client (Some other) ≡ false = is_held_by-other other client (λ same. differ (sym same)) in (
      ap (left_place client own) holds.0 ∙ ap (λ (held : Bool). left_if held own (record { holder = Some other; last = last })) theirs,
      HoldsNone-left client other own places holds.1,
    )
HoldsPlace-left client other (suc at) own last (first ∷ places) differ holds =
    (left_if-none other (is_held_by client first.holder) own first holds.0, HoldsPlace-left client other at own last places differ holds.1)

-- the client itself holds none then
pub HoldsNone-gone : (client : ℕ) (own : Option ℕ) (places : List Place) → HoldsNone client (map (left_place client own) places)
HoldsNone-gone client own [] = tt
HoldsNone-gone client own (first ∷ places) = (left_if-gone client (is_held_by client first.holder) own first refl, HoldsNone-gone client own places)

-- ---- an opening

IsFreePlace-at : (place : ℕ) (places : List Place) (other : Place) → place < length places → is_free (slice_index_or places place other) ≡ true → IsFreePlace place places
IsFreePlace-at place [] other within free = absurd (omega (arith, within))
IsFreePlace-at zero (first ∷ places) other within free = free
IsFreePlace-at (suc place) (first ∷ places) other within free = IsFreePlace-at place places other (omega (arith, within)) free

and-left : (a b : Bool) → (a && b) ≡ true → a ≡ true
and-left true b both = refl
and-left false b both = both

IsFreePlace-silent : (at place : ℕ) (places : List Place) → position (is_silent at) places ≡ Some place → IsFreePlace place places
IsFreePlace-silent at place places found =
    let other : Place = record { holder = None; last = None } in
    let there = position-Some (is_silent at) places place other found in
    let first = slice_index_or places place other in
    IsFreePlace-at place places other there.0 (and-left (is_free first) (is_below first.last at) there.1)

-- what comes of an opening
abbrev pub Came : Type 0
Came = Held × Result (Unit {0}) PcmError

-- An opening is refused for its channels, or else for want of a place, and then nothing is held that wasn't; or the client has its channels
-- and a place that was free.
pub opened_held-cases : (sharing : Share) (client : ℕ) (channels : List ℕ) (at : ℕ) (held : Held) (P : Came → Type 0)
    → ((e : PcmError) → P (held, Err e))
    → ((seen : ℕ) (e : PcmError) → P (record held { lobby = record held.lobby { seen = seen } }, Err e))
    → ((place : ℕ) → claim_refusal sharing held.claims channels at ≡ None → IsFreePlace place held.lobby.places
    → P (record { lobby = record { places = held_by client place held.lobby.places; seen = at }; claims = with_claim sharing channels held.claims }, Ok tt))
    → P (opened_held sharing client channels at held)
opened_held-cases sharing client channels at held P unclaimed unplaced given = by_claim (claim_refusal sharing held.claims channels at) refl
  where
    by_place : claim_refusal sharing held.claims channels at ≡ None → (place : Option ℕ) → position (is_silent at) held.lobby.places ≡ place
        → P (attached_held sharing channels held (attached_by place client at held.lobby))
    by_place granted None is = unplaced at (Busy (place_after (least_last held.lobby.places)) at)
    by_place granted (Some place) is = given place granted (IsFreePlace-silent at place held.lobby.places is)

    by_free : claim_refusal sharing held.claims channels at ≡ None → (some_free : Bool) → P (attached_held sharing channels held (
        if some_free then attached_by (position (is_silent at) held.lobby.places) client at held.lobby else (held.lobby, Err (Busy None held.lobby.seen))))
    by_free granted true = by_place granted (position (is_silent at) held.lobby.places) refl
    by_free granted false = unclaimed (Busy None held.lobby.seen)

    by_claim : (refusal : Option PcmError) → claim_refusal sharing held.claims channels at ≡ refusal → P (opened_if sharing client channels at held refusal)
    by_claim (Some e) is = unclaimed e
    by_claim None granted = by_free granted (list_any is_free held.lobby.places)

-- the other clients hold what they held, whatever the answer
pub HoldsNone-opened_held : (sharing : Share) (client : ℕ) (channels : List ℕ) (at : ℕ) (held : Held) (other : ℕ) → client ≢ other → HoldsNone other held.lobby.places
    → HoldsNone other (opened_held sharing client channels at held).0.lobby.places
HoldsNone-opened_held sharing client channels at held other differ none =
    opened_held-cases sharing client channels at held (λ came. HoldsNone other came.0.lobby.places) (λ e. none) (λ seen e. none)
    (λ place granted free. HoldsNone-held_by client other place held.lobby.places differ none)

pub HoldsPlace-opened_held : (sharing : Share) (client : ℕ) (channels : List ℕ) (at : ℕ) (held : Held) (other place : ℕ) (last : Option ℕ) → client ≢ other
    → HoldsPlace other place last held.lobby.places → HoldsPlace other place last (opened_held sharing client channels at held).0.lobby.places
HoldsPlace-opened_held sharing client channels at held other place last differ holds =
    opened_held-cases sharing client channels at held (λ came. HoldsPlace other place last came.0.lobby.places) (λ e. holds) (λ seen e. holds)
    (λ given granted free. HoldsPlace-held_by client other given place last held.lobby.places differ free holds)

-- a refused opening leaves what is held
pub record IsAsHeld (held after : Held) : Type 0 where
  pub places : after.lobby.places ≡ held.lobby.places
  pub claims : after.claims ≡ held.claims

pub opened_held-refused : (sharing : Share) (client : ℕ) (channels : List ℕ) (at : ℕ) (held : Held) (e : PcmError) → (opened_held sharing client channels at held).1 ≡ Err e
    → IsAsHeld held (opened_held sharing client channels at held).0
opened_held-refused sharing client channels at held e =
    opened_held-cases sharing client channels at held (λ came. came.1 ≡ Err e → IsAsHeld held came.0)
    (λ why is. record { places = refl; claims = refl }) (λ seen why is. record { places = refl; claims = refl }) (λ place granted free is. absurd (cc))

-- one that isn't refused was granted the channels, and claims them
pub record HasClaimed (sharing : Share) (channels : List ℕ) (at : ℕ) (held after : Held) : Type 0 where
  pub granted : claim_refusal sharing held.claims channels at ≡ None
  pub claims : after.claims ≡ with_claim sharing channels held.claims

pub opened_held-done : (sharing : Share) (client : ℕ) (channels : List ℕ) (at : ℕ) (held : Held) → (opened_held sharing client channels at held).1 ≡ Ok tt
    → HasClaimed sharing channels at held (opened_held sharing client channels at held).0
opened_held-done sharing client channels at held =
    opened_held-cases sharing client channels at held (λ came. came.1 ≡ Ok tt → HasClaimed sharing channels at held came.0)
    (λ e is. absurd (cc)) (λ seen e is. absurd (cc)) (λ place granted free is. record { granted = granted; claims = refl })

-- ---- a closing

pub HoldsNone-closed_held : (sharing : Share) (client : ℕ) (channels : List ℕ) (own : Option ℕ) (held : Held) (other : ℕ) → HoldsNone other held.lobby.places
    → HoldsNone other (closed_held sharing client channels own held).lobby.places
HoldsNone-closed_held sharing client channels own held other none = HoldsNone-left client other own held.lobby.places none

pub HoldsPlace-closed_held : (sharing : Share) (client : ℕ) (channels : List ℕ) (own : Option ℕ) (held : Held) (other place : ℕ) (last : Option ℕ) → client ≢ other
    → HoldsPlace other place last held.lobby.places → HoldsPlace other place last (closed_held sharing client channels own held).lobby.places
HoldsPlace-closed_held sharing client channels own held other place last differ holds =
    HoldsPlace-left client other place own last held.lobby.places differ holds

pub HoldsNone-closed : (sharing : Share) (client : ℕ) (channels : List ℕ) (own : Option ℕ) (held : Held) → HoldsNone client (closed_held sharing client channels own held).lobby.places
HoldsNone-closed sharing client channels own held = HoldsNone-gone client own held.lobby.places

-- ---- a new card

-- nobody holds a place of a new card
pub HoldsNone-new : (places first client : ℕ) → HoldsNone client (new_held places first).lobby.places
HoldsNone-new zero first client = tt
HoldsNone-new (suc places) first client = (refl, HoldsNone-new places first client)

-- ---- at the lobby

-- a place that is held was given out
IsOut-held : (client place : ℕ) (last : Option ℕ) (more : List (Option MixSeat)) (places : List Place) → AreAtPlaces more places → HoldsPlace client place last places
    → seats.IsOut more place
IsOut-held client place last more [] at holds = absurd holds
IsOut-held client place last [] (first ∷ places) at holds = absurd at
IsOut-held client zero last (None ∷ more) (first ∷ places) at holds = record { number = omega arith; is_none = refl }
IsOut-held client zero last (Some s ∷ more) (first ∷ places) at holds = absurd (false≢true (sym (ap is_free holds.0) ∙ at.0.0))
IsOut-held client (suc place) last (seat ∷ more) (first ∷ places) at holds =
    let rest = IsOut-held client place last more places at.1 holds.1 in
    record { number = omega (arith, rest.number); is_none = rest.is_none }

-- so its seat can be taken back
pub CanTakeBack-held : (p : Places) (lobby : Lobby) (client : ℕ) (last : Option ℕ) (s : MixSeat) → IsLobby p lobby → HoldsPlace client (member_of s) last lobby.places
    → places_of_seat s ≡ 1 → CanTakeBack (lobby_of p) s
CanTakeBack-held p lobby client last s is holds one =
    record { one_place = one; out = IsOut-held client (member_of s) last (free_seats (lobby_of p)) lobby.places is.places holds }
