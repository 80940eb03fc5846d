-- Two lists item by item: one item of each is exchanged, and an item of one becomes another.
use Rattle.std.specs.Prelude.{◌≢◌, ℕ, zero, suc, ◌+◌, ◌≤◌, List, [], ◌∷◌, slice_set, ◌≡◌, ◌<◌, length, slice_index_or, map}
use Rattle.std.proofs.Common.{subst, arith}
use Rattle.lab_actors.specs.Walks.{AreEach, AreEach-same}

-- a relation that follows from another at the numbers from one on
pub AreEach-past : {X Y : Type 0} (R T : ℕ → X → Y → Type 0) (from number : ℕ) (xs : List X) (ys : List Y) → from ≤ number
    → ((n : ℕ) (x : X) (y : Y) → from ≤ n → R n x y → T n x y) → AreEach R number xs ys → AreEach T number xs ys
AreEach-past R T from number [] [] past follows are = tt
AreEach-past R T from number (x ∷ xs) (y ∷ ys) past follows are =
    (follows number x y past are.0, AreEach-past R T from (number + 1) xs ys (omega (arith, past)) follows are.1)
AreEach-past R T from number [] (y ∷ ys) past follows are = absurd are
AreEach-past R T from number (x ∷ xs) [] past follows are = absurd are

-- one item of each list is exchanged
pub AreEach-set_rest : {X Y : Type 0} (R T : ℕ → X → Y → Type 0) (number at : ℕ) (xs : List X) (ys : List Y) (x : X) (y : Y)
    → ((n : ℕ) (a : X) (b : Y) → n ≢ number + at → R n a b → T n a b) → T (number + at) x y → AreEach R number xs ys → AreEach T number (slice_set xs at x) (slice_set ys at y)
AreEach-set_rest R T number at [] [] x y others own are = tt
AreEach-set_rest R T number at [] (b ∷ ys) x y others own are = absurd are
AreEach-set_rest R T number at (a ∷ xs) [] x y others own are = absurd are
AreEach-set_rest R T number zero (a ∷ xs) (b ∷ ys) x y others own are = (
  subst (λ n. T n x y) (omega arith) own,
  AreEach-past R T (number + 1) (number + 1) xs ys (omega arith) (λ n c d past is. others n c d (λ same. absurd (omega (arith, past, same))) is) are.1,
)
AreEach-set_rest R T number (suc at) (a ∷ xs) (b ∷ ys) x y others own are = (
  others number a b (λ same. absurd (omega (arith, same))) are.0,
  AreEach-set_rest R T (number + 1) at xs ys x y (λ n c d differ is. others n c d (λ same. differ (omega (arith, same))) is) (subst (λ n. T n x y) (omega arith) own) are.1,
)

pub AreEach-set_same : {X : Type 0} (R : ℕ → X → X → Type 0) → ((n : ℕ) (x : X) → R n x x) → (number : ℕ) (xs : List X) (at : ℕ) (d e : X) → at < length xs → d ≡ slice_index_or xs at d
    → R (number + at) d e → AreEach R number xs (slice_set xs at e)
AreEach-set_same R same number [] at d e inside is step = absurd (omega (arith, inside))
AreEach-set_same R same number (x ∷ xs) zero d e inside is step =
    (subst (λ y. R number y e) is (subst (λ n. R n d e) (omega arith) step), AreEach-same R (number + 1) xs same)
AreEach-set_same R same number (x ∷ xs) (suc at) d e inside is step =
    (same number x, AreEach-set_same R same (number + 1) xs at d e (omega (arith, inside)) is (subst (λ n. R n d e) (omega arith) step))

-- one item of each list is another one
pub AreEach-set : {X Y : Type 0} (R : ℕ → X → Y → Type 0) (number : ℕ) (xs : List X) (ys : List Y) (i : ℕ) (x : X) (y : Y) → i < length xs → AreEach R number xs ys → R (number + i) x y
    → AreEach R number (slice_set xs i x) (slice_set ys i y)
AreEach-set R number [] [] i x y inside are is = absurd (omega (arith, inside))
AreEach-set R number (w ∷ xs) (z ∷ ys) zero x y inside are is = (subst (λ n. R n x y) (omega arith) is, are.1)
AreEach-set R number (w ∷ xs) (z ∷ ys) (suc i) x y inside are is =
    (are.0, AreEach-set R (number + 1) xs ys i x y (omega (arith, inside)) are.1 (subst (λ n. R n x y) (omega arith) is))
AreEach-set R number [] (z ∷ ys) i x y inside are is = absurd are
AreEach-set R number (w ∷ xs) [] i x y inside are is = absurd are

-- one item of the first list is another one
pub AreEach-set_left : {X Y : Type 0} (R : ℕ → X → Y → Type 0) (number : ℕ) (xs : List X) (ys : List Y) (i : ℕ) (x : X) (e : Y) → i < length xs → AreEach R number xs ys
    → R (number + i) x (slice_index_or ys i e) → AreEach R number (slice_set xs i x) ys
AreEach-set_left R number [] [] i x e inside are is = absurd (omega (arith, inside))
AreEach-set_left R number (w ∷ xs) (z ∷ ys) zero x e inside are is = (subst (λ n. R n x z) (omega arith) is, are.1)
AreEach-set_left R number (w ∷ xs) (z ∷ ys) (suc i) x e inside are is =
    (are.0, AreEach-set_left R (number + 1) xs ys i x e (omega (arith, inside)) are.1 (subst (λ n. R n x (slice_index_or ys i e)) (omega arith) is))
AreEach-set_left R number [] (z ∷ ys) i x e inside are is = absurd are
AreEach-set_left R number (w ∷ xs) [] i x e inside are is = absurd are

-- a relation that follows from that of the items before and from what they became
pub AreEach-moved : {W X Y : Type 0} (R : ℕ → W → Y → Type 0) (T : ℕ → W → X → Type 0) (Q : ℕ → X → Y → Type 0) (number : ℕ) (ws : List W) (xs : List X) (ys : List Y)
    → ((n : ℕ) (w : W) (x : X) (y : Y) → R n w y → T n w x → Q n x y) → AreEach R number ws ys → AreEach T number ws xs → AreEach Q number xs ys
AreEach-moved R T Q number [] [] [] then are moved = tt
AreEach-moved R T Q number (w ∷ ws) (x ∷ xs) (y ∷ ys) then are moved =
    (then number w x y are.0 moved.0, AreEach-moved R T Q (number + 1) ws xs ys then are.1 moved.1)
AreEach-moved R T Q number [] [] (y ∷ ys) then are moved = absurd are
AreEach-moved R T Q number [] (x ∷ xs) ys then are moved = absurd moved
AreEach-moved R T Q number (w ∷ ws) [] ys then are moved = absurd moved
AreEach-moved R T Q number (w ∷ ws) (x ∷ xs) [] then are moved = absurd are

-- a relation to the images of the items
pub AreEach-image : {X Y Z : Type 0} (R : ℕ → X → Y → Type 0) (Q : ℕ → X → Z → Type 0) (f : Y → Z) (number : ℕ) (xs : List X) (ys : List Y)
    → ((n : ℕ) (x : X) (y : Y) → R n x y → Q n x (f y)) → AreEach R number xs ys → AreEach Q number xs (map f ys)
AreEach-image R Q f number [] [] then are = tt
AreEach-image R Q f number (x ∷ xs) (y ∷ ys) then are = (then number x y are.0, AreEach-image R Q f (number + 1) xs ys then are.1)
AreEach-image R Q f number [] (y ∷ ys) then are = absurd are
AreEach-image R Q f number (x ∷ xs) [] then are = absurd are
