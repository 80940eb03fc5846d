-- Tests of the first numbers.
use Rattle.lab_make.specs.Prelude.{add-zero, ap, arith, Bool, refl, suc, sym, true, zero, zero-add, ℕ, ◌+◌, ◌<◌, ◌∙◌, ◌≡◌, and_parts, list_all, range_with_len}

-- a test that numbers from one on pass is passed by each
pub range_test : (p : ℕ → Bool) (a n k : ℕ) → list_all p (range_with_len a n) ≡ true → k < n → p (a + k) ≡ true
range_test p a zero k e h = absurd (omega arith)
range_test p a (suc n) zero e h = ap p (add-zero a) ∙ (and_parts (p a) (list_all p (range_with_len (a + 1) n)) e).0
range_test p a (suc n) (suc k) e h =
    let place : a + suc k ≡ a + 1 + k = omega arith in
    ap p place ∙ range_test p (a + 1) n k (and_parts (p a) (list_all p (range_with_len (a + 1) n)) e).1 (omega arith)

-- the same, from 0
pub below_test : (p : ℕ → Bool) (n k : ℕ) → list_all p (range_with_len 0 n) ≡ true → k < n → p k ≡ true
below_test p n k e h = ap p (sym (zero-add k)) ∙ range_test p 0 n k e h

-- a test that each number passes
pub range_all : (p : ℕ → Bool) (a n : ℕ) → ((k : ℕ) → k < n → p (a + k) ≡ true) → list_all p (range_with_len a n) ≡ true
range_all p a zero h = refl
range_all p a (suc n) h =
    let first : p a ≡ true = ap p (sym (add-zero a)) ∙ h 0 (omega arith) in
    let next : (k : ℕ) → k < n → p (a + 1 + k) ≡ true = λ k l. ap p (omega arith) ∙ h (suc k) (omega arith) in
    rw (first, range_all p (a + 1) n next) refl
