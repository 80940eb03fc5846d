-- The seats of the places, as one is taken out or put back.
use Rattle.lobby.specs.Prelude.{ap, arith, get_or, IfSome, inl, inr, length, List, None, Option, refl, set, Some, subst, sym, true, ℕ, ◌<◌, ◌∙◌, ◌≡◌, cases_eq}
use Rattle.lobby.specs.Prelude.{false≢true, nat_tests, get_or-set_other, get_or-set_same, get_or_default, none-some, same_Some, MixSeat, member_of, TableId}
use Rattle.lobby.specs.Prelude.{ArePlaces, is_below, is_silent, IsPlace, last_of, lowest_free, lowest_silent, seat_at}
use Rattle.std.proofs.lemmas.List.Quantifiers.{position-Some}
use Rattle.std.specs.Option.{is_some}
use Rattle.sum_table.specs.declared.view.Key.{Key}

-- where an option has a value
pub has_value : {X : Type 0} (o : Option X) → is_some o ≡ true → (x : X) × (o ≡ Some x)
has_value None is = absurd (false≢true is)
has_value (Some x) is = (x, refl)

-- the lowest free place has a seat
pub lowest-found : (seats : List (Option MixSeat)) (place : ℕ) → lowest_free seats ≡ Some place → (place < length seats) × ((s : MixSeat) × (seat_at seats place ≡ Some s))
lowest-found seats place is =
    let found = position-Some is_some seats place None is in
    (found.0, has_value (get_or seats place None) found.1)

-- a seat in its place
pub ArePlaces-set : (ring : TableId) (key : Key) (seats : List (Option MixSeat)) (place : ℕ) (s : MixSeat) → place < length seats
    → ArePlaces ring key seats → IsPlace ring key place s → ArePlaces ring key (set seats place (Some s))
ArePlaces-set ring key seats place s inside are here k t is = elim (cases_eq k place) [
  | inl same ↦
      let at : get_or (set seats place (Some s)) k None ≡ Some s = ap (λ i. get_or (set seats place (Some s)) i None) same ∙ get_or-set_same seats place (Some s) None inside in
      subst (λ i. IsPlace ring key i t) (sym same) (subst (IsPlace ring key place) (same_Some s t (sym at ∙ is)) here)
  | inr other ↦ are k t (sym (get_or-set_other seats place k (Some s) None other) ∙ is)
]

-- and a place without its seat
pub ArePlaces-taken : (ring : TableId) (key : Key) (seats : List (Option MixSeat)) (place : ℕ) → place < length seats
    → ArePlaces ring key seats → ArePlaces ring key (set seats place None)
ArePlaces-taken ring key seats place inside are k t is = elim (cases_eq k place) [
  | inl same ↦
      let at : get_or (set seats place None) k None ≡ None = ap (λ i. get_or (set seats place None) i None) same ∙ get_or-set_same seats place None None inside in
      absurd (none-some t (sym at ∙ is))
  | inr other ↦ are k t (sym (get_or-set_other seats place k None None other) ∙ is)
]

-- what was read at the lowest free place is its seat
pub read_free : (seats : List (Option MixSeat)) (place : ℕ) (o : Option MixSeat) → lowest_free seats ≡ Some place → o ≡ get_or seats place o → o ≡ seat_at seats place
read_free seats place o free is = is ∙ get_or_default seats place o None (lowest-found seats place free).0

pub free-not_none : (seats : List (Option MixSeat)) (place : ℕ) (o : Option MixSeat) → lowest_free seats ≡ Some place → o ≡ get_or seats place o → o ≡ None → ⊥
free-not_none seats place o free is none =
    let found = lowest-found seats place free in
    none-some found.1.0 (sym none ∙ (read_free seats place o free is ∙ found.1.1))

silent_value : (p : ℕ) (o : Option MixSeat) → is_silent p o ≡ true → (s : MixSeat) × (o ≡ Some s) × (is_below p (last_of s) ≡ true)
silent_value p None is = absurd (false≢true is)
silent_value p (Some s) is = (s, refl, is)

-- the lowest free seat that may be handed out
pub silent-found : (p : ℕ) (seats : List (Option MixSeat)) (place : ℕ) → lowest_silent p seats ≡ Some place
    → (place < length seats) × ((s : MixSeat) × (seat_at seats place ≡ Some s) × (is_below p (last_of s) ≡ true))
silent-found p seats place is =
    let found = position-Some (is_silent p) seats place None is in
    (found.0, silent_value p (get_or seats place None) found.1)

pub silent-not_none : (p : ℕ) (seats : List (Option MixSeat)) (place : ℕ) (o : Option MixSeat) → lowest_silent p seats ≡ Some place
    → o ≡ get_or seats place o → o ≡ None → ⊥
silent-not_none p seats place o is at none =
    let found = silent-found p seats place is in
    none-some found.1.0 (sym none ∙ (at ∙ (get_or_default seats place o None found.0 ∙ found.1.1)))

below : (p : ℕ) (o : Option ℕ) → is_below p o ≡ true → IfSome o (λ frame. frame < p)
below p None is = tt
below p (Some frame) is = grind (arith, nat_tests)

-- the seat that is handed out is what was read at its place
pub silent-given : (ring : TableId) (key : Key) (p : ℕ) (seats : List (Option MixSeat)) (place : ℕ) (o : Option MixSeat) (s : MixSeat) → ArePlaces ring key seats
    → lowest_silent p seats ≡ Some place → o ≡ get_or seats place o → o ≡ Some s
    → (member_of s ≡ place) × IsPlace ring key (member_of s) s × IfSome (last_of s) (λ frame. frame < p) × (seat_at seats place ≡ Some s)
silent-given ring key p seats place o s are is read same =
    let found = silent-found p seats place is in
    let at : seat_at seats place ≡ Some s = sym (read ∙ get_or_default seats place o None found.0) ∙ same in
    let here : IsPlace ring key place s = are place s at in (
      here.member,
      subst (λ i. IsPlace ring key i s) (sym here.member) here,
      below p (last_of s) (ap (λ t. is_below p (last_of t)) (same_Some s found.1.0 (sym at ∙ found.1.1)) ∙ found.1.2),
      at,
    )
