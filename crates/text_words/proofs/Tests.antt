-- Tests of each element of a list.
use Rattle.text_words.specs.Prelude.{arith, Bool, false, List, refl, suc, true, zero, ℕ, [], ◌&&◌, ◌∷◌, ◌≡◌, false≢true, All, list_all}

-- a conjunction's parts
pub both : (a b : Bool) → (a && b) ≡ true → (a ≡ true) × (b ≡ true)
both true b e = (refl, e)
both false b e = absurd (false≢true e)

-- two tests that hold, together
pub and_true : (a b : Bool) → a ≡ true → b ≡ true → (a && b) ≡ true
and_true true b e f = f
and_true false b e f = absurd (false≢true e)

-- what passes a test fails another one
pub all_of : (p q : ℕ → Bool) → ((b : ℕ) → p b ≡ true → q b ≡ false) → (xs : List ℕ) → list_all p xs ≡ true → All (λ x. q x ≡ false) xs
all_of p q h [] e k d l = absurd (omega arith)
all_of p q h (x ∷ xs) e zero d l = h x (both (p x) (list_all p xs) e).0
all_of p q h (x ∷ xs) e (suc k) d l = all_of p q h xs (both (p x) (list_all p xs) e).1 k d (omega arith)

-- what passes a test passes a weaker one
pub weaker : (p q : ℕ → Bool) → ((b : ℕ) → p b ≡ true → q b ≡ true) → (xs : List ℕ) → list_all p xs ≡ true → list_all q xs ≡ true
weaker p q h [] e = refl
weaker p q h (x ∷ xs) e =
    let parts = both (p x) (list_all p xs) e in
    rw (h x parts.0, weaker p q h xs parts.1) refl
