-- The least last frame of the free places is that of the free seats.
use Rattle.lab_places.specs.Prelude.{All, ap, arith, get_or, if◌then◌else◌, length, List, min, None, Option, refl, Some, suc, sym, zero, ℕ, [], ◌<◌, ◌∙◌, ◌∷◌}
use Rattle.lab_places.specs.Prelude.{◌≡◌, ◌≤◌, same_Some, cons_option, option_and_then, MixSeat, IsLeast, last_frames, last_of, last_if_free, least, least_last}
use Rattle.lab_places.specs.Prelude.{Place, AreAtPlaces, IsAtPlace}
use Rattle.std.proofs.lemmas.List.Elements.{All-head, All-tail}

-- the least of some frames, where there is one
abbrev earliest : List ℕ → Option ℕ
earliest [] = None
earliest (x ∷ xs) = least (Some x) (earliest xs)

earliest-bound : (x : ℕ) (xs : List ℕ) → All (λ y. x ≤ y) xs → least (Some x) (earliest xs) ≡ Some x
earliest-bound x [] all = refl
earliest-bound x (y ∷ ys) all = with_rest (earliest ys) (earliest-bound x ys (All-tail (λ z. x ≤ z) y ys all))
  where
    head : x ≤ y
    head = All-head (λ z. x ≤ z) y ys all

    with_rest : (o : Option ℕ) → least (Some x) o ≡ Some x → least (Some x) (least (Some y) o) ≡ Some x
    with_rest None is = ap Some (omega (arith, head))
    with_rest (Some w) is = ap Some (omega (arith, head, same_Some (min x w) x is))

earliest-at : (x : ℕ) (xs : List ℕ) (k : ℕ) → All (λ y. x ≤ y) xs → k < length xs → get_or xs k x ≡ x → earliest xs ≡ Some x
earliest-at x [] k all within at = absurd (omega (arith, within))
earliest-at x (y ∷ ys) zero all within at = ap (λ z. least (Some z) (earliest ys)) at ∙ earliest-bound x ys (All-tail (λ z. x ≤ z) y ys all)
earliest-at x (y ∷ ys) (suc k) all within at =
    let head : x ≤ y = All-head (λ z. x ≤ z) y ys all in
    ap (least (Some y)) (earliest-at x ys k (All-tail (λ z. x ≤ z) y ys all) (omega (arith, within)) at) ∙ ap Some (omega (arith, head))

earliest-least : (xs : List ℕ) (x : ℕ) → IsLeast xs x → earliest xs ≡ Some x
earliest-least xs x is = earliest-at x xs is.among.0 is.least is.among.1 is.among.2

last_if_free-at : (seat : Option MixSeat) (place : Place) → IsAtPlace seat place → last_if_free place ≡ option_and_then last_of seat
last_if_free-at None place at = ap (λ free. if free then place.last else None) at
last_if_free-at (Some s) place at = ap (λ free. if free then place.last else None) at.0 ∙ at.1

earliest-cons : (o : Option ℕ) (xs : List ℕ) → earliest (cons_option o xs) ≡ least o (earliest xs)
earliest-cons None xs = refl
earliest-cons (Some x) xs = refl

least_last-at : (seats : List (Option MixSeat)) (places : List Place) → AreAtPlaces seats places → least_last places ≡ earliest (last_frames seats)
least_last-at [] [] at = refl
least_last-at [] (place ∷ places) at = absurd at
least_last-at (seat ∷ more) [] at = absurd at
least_last-at (seat ∷ more) (place ∷ places) at =
    ap (λ o. least o (least_last places)) (last_if_free-at seat place at.0)
    ∙ (ap (least (option_and_then last_of seat)) (least_last-at more places at.1) ∙ sym (earliest-cons (option_and_then last_of seat) (last_frames more)))

pub least_last-is : (seats : List (Option MixSeat)) (places : List Place) (x : ℕ) → AreAtPlaces seats places → IsLeast (last_frames seats) x → least_last places ≡ Some x
least_last-is seats places x at is = least_last-at seats places at ∙ earliest-least (last_frames seats) x is
