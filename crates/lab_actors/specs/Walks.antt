-- Two lists item by item: each item of the one is in a relation, which may know its number, to that of the other.
use Rattle.std.specs.Prelude.{◌≡◌, ℕ, zero, suc, ◌+◌, ◌<◌, ◌≤◌, List, [], ◌∷◌, length, slice_index_or, slice_set, vec_len, ⊤}
use Rattle.std.specs.Global.{Vec}
use Rattle.std.proofs.Common.{refl, sym, ◌∙◌, ap, subst, arith, inl, inr}
use Rattle.std.proofs.lemmas.Bool.{cases_eq, cases_lt}
use Rattle.std.proofs.lemmas.List.{get_or-set_other, get_or-set_same, length-set}

-- the first items of both lists have a number
abbrev pub AreEach : {X Y : Type 0} → (ℕ → X → Y → Type 0) → ℕ → List X → List Y → Type 0
AreEach R number [] [] = ⊤
AreEach R number (x ∷ xs) (y ∷ ys) = R number x y × AreEach R (number + 1) xs ys
AreEach R number [] (y ∷ ys) = ⊥
AreEach R number (x ∷ xs) [] = ⊥

-- a walk along a list: its items up to a place became others, and the items from there on are as before
pub record HasWalked {X : Type 0} (R : ℕ → X → X → Type 0) (before after : List X) (to : ℕ) : Type 0 where
  pub len : length after ≡ length before
  pub each : (i : ℕ) (d : X) → i < to → i < length before → R i (slice_index_or before i d) (slice_index_or after i d)
  pub others : (i : ℕ) (d : X) → to ≤ i → slice_index_or after i d ≡ slice_index_or before i d

pub HasWalked-none : {X : Type 0} (R : ℕ → X → X → Type 0) (xs : List X) → HasWalked R xs xs 0
HasWalked-none R xs = record { len = refl; each = λ i d below inside. absurd (omega (arith, below)); others = λ i d from. refl }

pub HasWalked-next : {X : Type 0} (R : ℕ → X → X → Type 0) (xs ys : List X) (to : ℕ) (y : X) → to < length xs → HasWalked R xs ys to
    → ((d : X) → R to (slice_index_or xs to d) y) → HasWalked R xs (slice_set ys to y) (to + 1)
HasWalked-next {X = X} R xs ys to y inside so_far step = record {
  len = length-set ys to y ∙ so_far.len;
  each = λ i d below within. elim (cases_eq i to) [
    | inl here ↦ subst (λ k. R k (slice_index_or xs k d) (slice_index_or (slice_set ys to y) k d)) (sym here)
        (subst (R to (slice_index_or xs to d)) (sym (get_or-set_same ys to y d (let len = so_far.len in omega (arith, inside, len)))) (step d))
    | inr other ↦ subst (R i (slice_index_or xs i d)) (sym (get_or-set_other ys to i y d other))
        (so_far.each i d (omega (arith, below, other)) within)
  ];
  others = λ i d from. get_or-set_other ys to i y d (λ is. omega (arith, from, is)) ∙ so_far.others i d (omega (arith, from));
}

-- an item of a list, whatever the default
pub get_or-any : {X : Type 0} (xs : List X) (i : ℕ) (d e : X) → i < length xs → slice_index_or xs i d ≡ slice_index_or xs i e
get_or-any [] i d e inside = absurd (omega (arith, inside))
get_or-any (x ∷ xs) zero d e inside = refl
get_or-any (x ∷ xs) (suc i) d e inside = get_or-any xs i d e (omega (arith, inside))

-- the item at a place, which is as before, became another one
pub HasWalked-step : {X : Type 0} (R : ℕ → X → X → Type 0) (xs ys : List X) (to : ℕ) (y e : X) → to < length xs → HasWalked R xs ys to → R to (slice_index_or ys to e) y
    → HasWalked R xs (slice_set ys to y) (to + 1)
HasWalked-step R xs ys to y e inside so_far step =
    HasWalked-next R xs ys to y inside so_far (λ d. subst (λ x. R to x y) (so_far.others to e (omega arith) ∙ get_or-any xs to e d inside) step)

-- an item that is read at the place is as before
pub HasWalked-still : {X : Type 0} (R : ℕ → X → X → Type 0) (xs ys : List X) (to : ℕ) (d : X) → HasWalked R xs ys to → d ≡ slice_index_or ys to d → d ≡ slice_index_or xs to d
HasWalked-still R xs ys to d so_far is = is ∙ so_far.others to d (omega arith)

-- a relation that follows from another at the places so far
pub HasWalked-map : {X : Type 0} (R T : ℕ → X → X → Type 0) (xs ys : List X) (to : ℕ) → ((i : ℕ) (x y : X) → i < to → R i x y → T i x y) → HasWalked R xs ys to → HasWalked T xs ys to
HasWalked-map R T xs ys to then so_far = record {
  len = so_far.len;
  each = λ i d below inside. then i (slice_index_or xs i d) (slice_index_or ys i d) below (so_far.each i d below inside);
  others = so_far.others;
}

-- a walk to the end, from a number on
pub AreEach-from : {X : Type 0} (R : ℕ → X → X → Type 0) (number : ℕ) (xs ys : List X) → length ys ≡ length xs
    → ((i : ℕ) (d : X) → i < length xs → R (number + i) (slice_index_or xs i d) (slice_index_or ys i d)) → AreEach R number xs ys
AreEach-from R number [] [] len each = tt
AreEach-from R number [] (y ∷ ys) len each = absurd (omega (arith, len))
AreEach-from R number (x ∷ xs) [] len each = absurd (omega (arith, len))
AreEach-from R number (x ∷ xs) (y ∷ ys) len each = (
  subst (λ n. R n x y) (omega arith) (each 0 x (omega arith)),
  AreEach-from R (number + 1) xs ys (omega (arith, len)) (λ i d inside. subst (λ n. R n (slice_index_or xs i d) (slice_index_or ys i d)) (omega arith) (each (suc i) d (omega (arith, inside)))),
)

pub AreEach-walked : {X : Type 0} (R : ℕ → X → X → Type 0) (xs ys : List X) (to : ℕ) → length xs ≤ to → HasWalked R xs ys to → AreEach R 0 xs ys
AreEach-walked R xs ys to all walked =
    AreEach-from R 0 xs ys walked.len
    (λ i d inside. subst (λ n. R n (slice_index_or xs i d) (slice_index_or ys i d)) (omega arith) (walked.each i d (omega (arith, all, inside)) inside))

pub AreEach-length : {X Y : Type 0} (R : ℕ → X → Y → Type 0) (number : ℕ) (xs : List X) (ys : List Y) → AreEach R number xs ys → length ys ≡ length xs
AreEach-length R number [] [] are = refl
AreEach-length R number (x ∷ xs) (y ∷ ys) are = ap suc (AreEach-length R (number + 1) xs ys are.1)
AreEach-length R number [] (y ∷ ys) are = absurd are
AreEach-length R number (x ∷ xs) [] are = absurd are

-- a list and itself
pub AreEach-same : {X : Type 0} (R : ℕ → X → X → Type 0) (number : ℕ) (xs : List X) → ((n : ℕ) (x : X) → R n x x) → AreEach R number xs xs
AreEach-same R number [] same = tt
AreEach-same R number (x ∷ xs) same = (same number x, AreEach-same R (number + 1) xs same)

-- one item of each
pub AreEach-at : {X Y : Type 0} (R : ℕ → X → Y → Type 0) (number : ℕ) (xs : List X) (ys : List Y) → AreEach R number xs ys → (i : ℕ) (d : X) (e : Y) → i < length xs
    → R (number + i) (slice_index_or xs i d) (slice_index_or ys i e)
AreEach-at R number [] ys are i d e inside = absurd (omega (arith, inside))
AreEach-at R number (x ∷ xs) [] are i d e inside = absurd are
AreEach-at R number (x ∷ xs) (y ∷ ys) are zero d e inside = subst (λ n. R n x y) (omega arith) are.0
AreEach-at R number (x ∷ xs) (y ∷ ys) are (suc i) d e inside =
    subst (λ n. R n (slice_index_or xs i d) (slice_index_or ys i e)) (omega arith) (AreEach-at R (number + 1) xs ys are.1 i d e (omega (arith, inside)))

-- a relation that follows from another, item by item
pub AreEach-map : {X Y : Type 0} (R T : ℕ → X → Y → Type 0) (number : ℕ) (xs : List X) (ys : List Y) → ((n : ℕ) (x : X) (y : Y) → R n x y → T n x y) → AreEach R number xs ys
    → AreEach T number xs ys
AreEach-map R T number [] [] then are = tt
AreEach-map R T number (x ∷ xs) (y ∷ ys) then are = (then number x y are.0, AreEach-map R T (number + 1) xs ys then are.1)
AreEach-map R T number [] (y ∷ ys) then are = absurd are
AreEach-map R T number (x ∷ xs) [] then are = absurd are

-- two relations one after the other, item by item
pub record AreJoined {X Y Z : Type 0} (R : ℕ → X → Y → Type 0) (T : ℕ → Y → Z → Type 0) (number : ℕ) (x : X) (z : Z) : Type 0 where
  pub between : Y
  pub first : R number x between
  pub then : T number between z

pub AreEach-joined : {X Y Z : Type 0} (R : ℕ → X → Y → Type 0) (T : ℕ → Y → Z → Type 0) (number : ℕ) (xs : List X) (ys : List Y) (zs : List Z) → AreEach R number xs ys → AreEach T number ys zs
    → AreEach (AreJoined R T) number xs zs
AreEach-joined R T number [] [] [] first then = tt
AreEach-joined R T number (x ∷ xs) (y ∷ ys) (z ∷ zs) first then =
    (record { between = y; first = first.0; then = then.0 }, AreEach-joined R T (number + 1) xs ys zs first.1 then.1)
AreEach-joined R T number [] (y ∷ ys) zs first then = absurd first
AreEach-joined R T number (x ∷ xs) [] zs first then = absurd first
AreEach-joined R T number [] [] (z ∷ zs) first then = absurd then
AreEach-joined R T number (x ∷ xs) (y ∷ ys) [] first then = absurd then

-- a walk to a place, where a relation holds of each item and itself
pub AreEach-part : {X : Type 0} (R : ℕ → X → X → Type 0) (xs ys : List X) (to : ℕ) → ((i : ℕ) (x : X) → R i x x) → HasWalked R xs ys to → AreEach R 0 xs ys
AreEach-part R xs ys to still walked = AreEach-from R 0 xs ys walked.len
    (λ i d inside. subst (λ (n : ℕ). R n (slice_index_or xs i d) (slice_index_or ys i d)) {x = i} (omega arith)
    (elim (cases_lt i to) as (λ _. R i (slice_index_or xs i d) (slice_index_or ys i d)) [
      | inl below ↦ walked.each i d below inside
      | inr from ↦ subst (R i (slice_index_or xs i d)) (sym (walked.others i d from)) (still i (slice_index_or xs i d))
    ]))

-- a walk along a Vec up to its length: the item that was read at the place became another one, and the end
pub HasWalked-read : {X : Type 0} {R : ℕ → X → X → Type 0} {to end : ℕ} (xs ys : Vec X) (y d : X) → end ≡ vec_len xs → to < end → HasWalked R xs.items ys.items to
    → d ≡ slice_index_or ys.items to d → R to d y → HasWalked R xs.items (slice_set ys.items to y) (to + 1)
HasWalked-read {X = X} {R = R} {to = to} xs ys y d end_is inside so_far is step =
    let len = xs.ok.0 in
    HasWalked-step R xs.items ys.items to y d (omega (arith, end_is, inside, len)) so_far (subst (λ (x : X). R to x y) is step)

pub AreEach-ended : {X : Type 0} {R : ℕ → X → X → Type 0} {to end : ℕ} (xs ys : Vec X) → end ≡ vec_len xs → end ≤ to → HasWalked R xs.items ys.items to → AreEach R 0 xs.items ys.items
AreEach-ended {R = R} {to = to} xs ys end_is over walked = let len = xs.ok.0 in AreEach-walked R xs.items ys.items to (omega (arith, end_is, over, len)) walked
