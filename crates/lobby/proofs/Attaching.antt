-- An attach: the load keeps the last frames, and so the choice of the seat.
use Rattle.lobby.specs.Prelude.{ap, Bool, cond, Err, get_or, IsSome, length, List, nat_lt, None, Ok, Option, refl, Result, set, Some, subst, suc, sym, zero, ℕ}
use Rattle.lobby.specs.Prelude.{[], ◌∙◌, ◌∷◌, ◌≡◌, append-nil, length-set, cons_option, filter_map, position, position_or_len, option_and_then, Position}
use Rattle.lobby.specs.Prelude.{MixSeat, PlayerSeat, View, view_of, Lobby, HasLoaded, HasLoadedBeside, Attaches, free_seats, LoadsAt, Outcome, seen_of_lobby}
use Rattle.lobby.specs.Prelude.{is_below, is_silent, IsLeast, KeepsLasts, last_of, lowest_free, seat_at}
use Rattle.std.proofs.lemmas.List.Folds.{position_or_len-set}
use Rattle.std.specs.Option.{is_some}
use Rattle.snd_base.specs.declared.errors.PcmError.{PcmError}
use Rattle.sum_table.specs.Known.{last_frame}

position-set : {X : Type 0} (p : X → Bool) (xs : List X) (i : ℕ) (y d : X) → p y ≡ p (get_or xs i d) → position p (set xs i y) ≡ position p xs
position-set p xs i y d same =
    ap (λ n. cond (nat_lt n (length (set xs i y))) (Some n) None) (position_or_len-set p xs i y d same)
    ∙ ap (λ m. cond (nat_lt (position_or_len p xs) m) (Some (position_or_len p xs)) None) (length-set xs i y)

filter_map-set : {X Y : Type 0} (h : X → Option Y) (xs : List X) (i : ℕ) (y d : X) → h y ≡ h (get_or xs i d) → filter_map h (set xs i y) ≡ filter_map h xs
filter_map-set h [] i y d same = refl
filter_map-set h (x ∷ xs) zero y d same = ap (λ o. cons_option o (filter_map h xs)) same
filter_map-set h (x ∷ xs) (suc i) y d same = ap (cons_option (h x)) (filter_map-set h xs i y d same)

pub KeepsLasts-set : (seats : List (Option MixSeat)) (place : ℕ) (s t : MixSeat) → seat_at seats place ≡ Some s → (view_of t).laid ≡ (view_of s).laid → KeepsLasts seats (set seats place (Some t))
KeepsLasts-set seats place s t at laid = let same : last_of t ≡ last_of s = ap last_frame laid in record {
  free = position-set is_some seats place (Some t) None (ap is_some (sym at));
  silent = λ p. position-set (is_silent p) seats place (Some t) None (ap (is_below p) same ∙ ap (is_silent p) (sym at));
  lasts = filter_map-set (option_and_then last_of) seats place (Some t) None (same ∙ ap (option_and_then last_of) (sym at));
}

-- a load places nothing
pub laid-loaded : (s t : MixSeat) (p : Position) → HasLoaded s t p → (view_of t).laid ≡ (view_of s).laid
laid-loaded s t p load = load.laid_nothing.laid ∙ append-nil (view_of s).laid

pub laid-loaded_beside : (p : PlayerSeat) (s : MixSeat) (q : PlayerSeat) (t : MixSeat) (x : Position) → HasLoadedBeside p s q t x → (view_of t).laid ≡ (view_of s).laid
laid-loaded_beside p s q t x beside = ap (λ (v : View). v.laid) beside.told.same_view ∙ (laid-loaded beside.fresh beside.located x beside.load ∙ beside.met.laid)

-- the choice was made by the seats as they were before the load
Outcome-before : (p : ℕ) (before between after : List (Option MixSeat)) (r : Result MixSeat PcmError) → KeepsLasts before between
    → Outcome p between between r after → Outcome p before between r after
Outcome-before p before between after (Ok s) keeps out = record {
  lowest = sym (keeps.silent p) ∙ out.lowest;
  found = out.found;
  after_is = out.after_is;
}
Outcome-before p before between after (Err e) keeps out = (
  record {
    none = sym (keeps.silent p) ∙ out.0.none;
    least = out.0.least;
    is_least = subst (λ xs. IsLeast xs out.0.least) keeps.lasts out.0.is_least;
    is = out.0.is;
  },
  out.1,
)

-- a load by the seat of a place, and what came of it
pub attached : (load : Position → MixSeat → MixSeat → Type 0) (place : ℕ) (l k m : Lobby) (p : Position) (r : Result MixSeat PcmError)
    → LoadsAt (load p) (free_seats l) place (free_seats k) → KeepsLasts (free_seats l) (free_seats k) → seen_of_lobby k ≡ p.frame
    → Outcome p.frame (free_seats k) (free_seats k) r (free_seats m) → seen_of_lobby m ≡ seen_of_lobby k → Attaches load place l m r
attached load place l k m p r loads keeps saw out seen = record {
  position = p;
  between = free_seats k;
  loads = loads;
  outcome = Outcome-before p.frame (free_seats l) (free_seats k) (free_seats m) r keeps out;
  seen = seen ∙ saw;
}

-- there is still a free seat after the load
pub still_free : (seats : List (Option MixSeat)) (after : List (Option MixSeat)) (place : ℕ) → KeepsLasts seats after → lowest_free seats ≡ Some place → IsSome (lowest_free after)
still_free seats after place keeps is = subst IsSome (sym (keeps.free ∙ is)) refl
