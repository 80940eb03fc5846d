-- The first place of an element that is made from its number.
use Rattle.lab_make.specs.Prelude.{ap, arith, Bool, cond, false, length, map, nat_lt, None, Some, true, zero-add, ℕ, ◌<◌, ◌∙◌, ◌≡◌, ◌≤◌, le-ltb, lt-ltb}
use Rattle.lab_make.specs.Prelude.{get_or-map-range_with_len, length-map-range_with_len, position_or_len_is, position, position_or_len, range_with_len}

-- none before this place passes, and the element there does, if there is one
position_at : {X : Type 0} (p : X → Bool) (f : ℕ → X) (n k : ℕ) → k ≤ n → ((j : ℕ) → j < k → p (f j) ≡ false) → (k < n → p (f k) ≡ true)
    → position p (map f (range_with_len 0 n)) ≡ cond (nat_lt k n) (Some k) None
position_at p f n k most fails passes =
    let xs = map f (range_with_len 0 n) in
    let count : length xs ≡ n = length-map-range_with_len f 0 n in
    let place : position_or_len p xs ≡ k = position_or_len_is p xs k (f 0) (omega (arith, count, most))
    (λ j l. ap p (get_or-map-range_with_len f 0 n j j (f 0) (omega (arith, l, most)) (zero-add j)) ∙ fails j l)
    (λ l. ap p (get_or-map-range_with_len f 0 n k k (f 0) (omega (arith, l, count)) (zero-add k)) ∙ passes (omega (arith, l, count))) in
    ap (λ m. cond (nat_lt m (length xs)) (Some m) None) place ∙ ap (λ m. cond (nat_lt k m) (Some k) None) count

-- none of the elements of these numbers passes
pub position-none : {X : Type 0} (p : X → Bool) (f : ℕ → X) (n : ℕ) → ((j : ℕ) → j < n → p (f j) ≡ false) → position p (map f (range_with_len 0 n)) ≡ None
position-none p f n h = position_at p f n n (omega arith) h (λ l. absurd (omega (arith, l))) ∙ ap (λ t. cond t (Some n) None) (le-ltb n n (omega arith))

-- the element of this number is the first that passes
pub position-first : {X : Type 0} (p : X → Bool) (f : ℕ → X) (n k : ℕ) → k < n → ((j : ℕ) → j < k → p (f j) ≡ false) → p (f k) ≡ true
    → position p (map f (range_with_len 0 n)) ≡ Some k
position-first p f n k l h e = position_at p f n k (omega (arith, l)) h (λ inside. e) ∙ ap (λ t. cond t (Some k) None) (lt-ltb k n l)
