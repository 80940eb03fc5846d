-- Where no free seat may be handed out.
use Rattle.lobby.specs.Prelude.{ap, arith, Bool, false, IsSome, length, List, None, Option, refl, Some, suc, sym, true, zero, ℕ, [], ◌∙◌, ◌∷◌, ◌≡◌, ◌≤◌}
use Rattle.lobby.specs.Prelude.{false≢true, nat_tests, none-some, same_Some, cons_option, position, position_or_len, MixSeat, is_below, is_silent, last_frames}
use Rattle.lobby.specs.Prelude.{last_of, lowest_free, lowest_silent, seat_at}
use Rattle.std.proofs.lemmas.List.Sums.{fails_before_first}
use Rattle.lobby.proofs.Placed.{has_value, lowest-found}

-- a test that passes nowhere has no first element
no_position : {X : Type 0} (p : X → Bool) (xs : List X) → position p xs ≡ None → length xs ≤ position_or_len p xs
no_position p xs is = grind (arith, nat_tests)

cons_none : (o : Option ℕ) (xs : List ℕ) → cons_option o xs ≡ [] → (o ≡ None) × (xs ≡ [])
cons_none None xs e = (refl, e)
cons_none (Some x) xs e = absurd cc

-- where there are no last frames, no free seat has one
no_last : (seats : List (Option MixSeat)) (k : ℕ) (s : MixSeat) → last_frames seats ≡ [] → seat_at seats k ≡ Some s → last_of s ≡ None
no_last [] k s none is = absurd (none-some s is)
no_last (None ∷ seats) zero s none is = absurd (none-some s is)
no_last (None ∷ seats) (suc k) s none is = no_last seats k s none is
no_last (Some t ∷ seats) zero s none is = ap last_of (sym (same_Some t s is)) ∙ (cons_none (last_of t) (last_frames seats) none).0
no_last (Some t ∷ seats) (suc k) s none is = no_last seats k s (cons_none (last_of t) (last_frames seats) none).1 is

-- a free seat that may not be handed out has a last frame
pub some_last : (seats : List (Option MixSeat)) (p : ℕ) → IsSome (lowest_free seats) → lowest_silent p seats ≡ None → last_frames seats ≡ [] → ⊥
some_last seats p free none empty =
    let place = has_value (lowest_free seats) free in
    let found = lowest-found seats place.0 place.1 in
    let s : MixSeat = found.1.0 in
    let no_frame : last_of s ≡ None = no_last seats place.0 s empty found.1.1 in
    let loud : is_silent p (seat_at seats place.0) ≡ false =
    fails_before_first (is_silent p) seats place.0 None (omega (arith, found.0, no_position (is_silent p) seats none)) in
    let silent : is_silent p (seat_at seats place.0) ≡ true = ap (is_silent p) found.1.1 ∙ ap (is_below p) no_frame in
    false≢true (sym loud ∙ silent)
