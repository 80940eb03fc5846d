-- A seat that is handed out, or comes back, takes with it what was placed by it, and nothing else is placed.
use Rattle.lab_places.specs.Prelude.{ap, arith, Err, length, List, None, Ok, Option, refl, Result, set, Some, subst, suc, sym, zero, ℕ, [], ◌<◌, ◌∙◌, ◌∷◌, ◌≡◌}
use Rattle.lab_places.specs.Prelude.{none-some, PcmError, Busy, Position, MixSeat, PlayerSeat, View, member_of, view_of, Lobby as Free, Attaches, CanTakeBack}
use Rattle.lab_places.specs.Prelude.{free_seats, HandsOut, IsNewLobby, LoadsAt, Outcome, seen_of_lobby, TakesBack, lowest_free, seat_at, HasMetPlayer}
use Rattle.std.proofs.lemmas.List.{get_or-set_same, length-map, length-set, map-set, set-get_or, set-set}
use Rattle.std.specs.Prelude.{option_map, slice_index_or}
use Rattle.mix_core.specs.declared.port.Entry.{Entry}
use Rattle.lab_places.specs.Laid.{IsLaidAlike, IsLaidWith, IsUnlaid, KeepsLaid, laid_list, laid_lists}

found-within : (seats : List (Option MixSeat)) (place : ℕ) (s : MixSeat) → seat_at seats place ≡ Some s → place < length seats
found-within [] place s found = absurd (none-some s found)
found-within (seat ∷ seats) zero s found = omega arith
found-within (seat ∷ seats) (suc place) s found = let more = found-within seats place s found in omega (arith, more)

-- the list of the seat of a place
laid_lists-at : (seats : List (Option MixSeat)) (place : ℕ) → slice_index_or (laid_lists seats) place None ≡ option_map laid_list (seat_at seats place)
laid_lists-at [] place = refl
laid_lists-at (seat ∷ seats) zero = refl
laid_lists-at (seat ∷ seats) (suc place) = laid_lists-at seats place

laid_lists-set : (seats : List (Option MixSeat)) (place : ℕ) (seat : Option MixSeat) → laid_lists (set seats place seat) ≡ set (laid_lists seats) place (option_map laid_list seat)
laid_lists-set seats place seat = map-set (option_map laid_list) seats place seat

-- a list with the item that is in a place of it
set-found : (seats : List (Option MixSeat)) (place : ℕ) (s : MixSeat) → seat_at seats place ≡ Some s → set (laid_lists seats) place (Some (laid_list s)) ≡ laid_lists seats
set-found seats place s found =
    ap (set (laid_lists seats) place) (sym (laid_lists-at seats place ∙ ap (option_map laid_list) found)) ∙ set-get_or (laid_lists seats) place None

-- a seat that loads a position places nothing
laid-loaded : (load : MixSeat → MixSeat → Type 0) (before between : List (Option MixSeat)) (place : ℕ) → LoadsAt load before place between → IsLaidAlike before between
laid-loaded load before between place loads =
    ap laid_lists loads.after_is
    ∙ (laid_lists-set before place (Some loads.loaded)
    ∙ (ap (λ (es : List Entry). set (laid_lists before) place (Some es)) loads.laid ∙ set-found before place loads.seat loads.found))

-- one that is handed out takes what was placed by it
laid-handed : (p : ℕ) (before between after : List (Option MixSeat)) (s : MixSeat) → HandsOut p before between s after → IsLaidWith after s between
laid-handed p before between after s hands =
    let inside = found-within between (member_of s) s hands.found in
    let without : laid_lists after ≡ set (laid_lists between) (member_of s) None = ap laid_lists hands.after_is ∙ laid_lists-set between (member_of s) None in
    let len = ap length hands.after_is ∙ length-set between (member_of s) None in
    let long : member_of s < length (laid_lists between) = let same = length-map between (option_map laid_list) in omega (arith, inside, same) in
    record {
      number = omega (arith, inside, len);
      out = ap (λ (lists : List (Option (List Entry))). slice_index_or lists (member_of s) None) without ∙ get_or-set_same (laid_lists between) (member_of s) None None long;
      with_it = sym (ap (λ (lists : List (Option (List Entry))). set lists (member_of s) (Some (laid_list s))) without
          ∙ (set-set (laid_lists between) (member_of s) None (Some (laid_list s)) ∙ set-found between (member_of s) s hands.found));
    }

IsLaidWith-alike : (fewer : List (Option MixSeat)) (s : MixSeat) (more then_more : List (Option MixSeat)) → IsLaidAlike then_more more → IsLaidWith fewer s more → IsLaidWith fewer s then_more
IsLaidWith-alike fewer s more then_more alike is = record { number = is.number; out = is.out; with_it = sym alike ∙ is.with_it }

laid-outcome : (p : ℕ) (before between after : List (Option MixSeat)) (r : Result MixSeat PcmError) → IsLaidAlike before between → Outcome p before between r after
    → KeepsLaid before r after
laid-outcome p before between after (Ok s) alike out = IsLaidWith-alike after s between before alike (laid-handed p before between after s out)
laid-outcome p before between after (Err e) alike out = ap laid_lists out.1 ∙ alike

-- an attach
pub laid-attached : (load : Position → MixSeat → MixSeat → Type 0) (l m : Free) (r : Result MixSeat PcmError)
    → (lowest_free (free_seats l) ≡ None → (r ≡ Err (Busy None (seen_of_lobby l))) × (m ≡ l))
    → ((place : ℕ) → lowest_free (free_seats l) ≡ Some place → Attaches load place l m r)
    → KeepsLaid (free_seats l) r (free_seats m)
laid-attached load l m r none_free free = by_free (lowest_free (free_seats l)) refl
  where
    by_free : (o : Option ℕ) → lowest_free (free_seats l) ≡ o → KeepsLaid (free_seats l) r (free_seats m)
    by_free None found =
        let came = none_free found in
        subst (λ (x : Result MixSeat PcmError). KeepsLaid (free_seats l) x (free_seats m)) (sym came.0) (ap (λ (x : Free). laid_lists (free_seats x)) came.1)
    by_free (Some place) found =
        let came = free place found in
        laid-outcome came.position.frame (free_seats l) came.between (free_seats m) r (laid-loaded (load came.position) (free_seats l) came.between place came.loads) came.outcome

-- whose seat met the player then
pub laid-met : (p q : PlayerSeat) (before after : List (Option MixSeat)) (s t : MixSeat) → HasMetPlayer p q s t → KeepsLaid before (Ok s) after → KeepsLaid before (Ok t) after
laid-met p q before after s t met keeps =
    let at : member_of s ≡ member_of t = sym met.member in
    record {
      number = subst (λ place. place < length after) at keeps.number;
      out = subst (λ place. slice_index_or (laid_lists after) place None ≡ None) at keeps.out;
      with_it = keeps.with_it
          ∙ (ap (λ place. set (laid_lists after) place (Some (laid_list s))) at ∙ ap (λ (es : List Entry). set (laid_lists after) (member_of t) (Some es)) (sym met.laid));
    }

-- one that comes back brings what was placed by it
pub laid-back : (k m : Free) (l : Free) (s : MixSeat) → k ≡ l → CanTakeBack l s → TakesBack k m s → IsLaidWith (free_seats l) s (free_seats m)
laid-back k m l s same can back = record {
  number = can.out.number;
  out = laid_lists-at (free_seats l) (member_of s) ∙ ap (option_map laid_list) can.out.is_none;
  with_it = ap laid_lists (back.seats ∙ ap (λ (x : Free). set (free_seats x) (member_of s) (Some s)) same) ∙ laid_lists-set (free_seats l) (member_of s) (Some s);
}

-- ---- a new lobby

abbrev IsUnused : Option MixSeat → Type 0
IsUnused o = (s : MixSeat) × (o ≡ Some s) × ((view_of s).laid ≡ [])

all-unlaid : (seats : List (Option MixSeat)) → ((i : ℕ) → i < length seats → IsUnused (seat_at seats i)) → IsUnlaid seats
all-unlaid [] each = refl
all-unlaid (seat ∷ seats) each =
    let one = each 0 (omega arith) in
    ap (λ (own : Option (List Entry)). own ∷ laid_lists seats) (ap (option_map laid_list) one.1 ∙ ap Some one.2)
    ∙ ap (λ (others : List (Option (List Entry))). Some [] ∷ others) (all-unlaid seats (λ i within. each (suc i) (omega (arith, within))))

pub unlaid-new : (whole : MixSeat) (l : Free) → IsNewLobby whole l → IsUnlaid (free_seats l)
unlaid-new whole l is =
    all-unlaid (free_seats l) (λ i within. let seat = is.each i (omega (arith, within, is.places)) in (seat.0, seat.1, ap (λ (v : View). v.laid) seat.2.view))
