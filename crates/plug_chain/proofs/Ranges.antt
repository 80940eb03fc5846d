-- Lists made over a range of numbers.
use Rattle.plug_chain.specs.Prelude.{ap, append_assoc, arith, List, refl, suc, sym, zero, ℕ, ◌++◌, ◌+◌, ◌<◌, ◌∙◌, ◌≡◌, ◌≤◌, append-nil, flat_map}
use Rattle.plug_chain.specs.Prelude.{range_with_len}

-- a range in two parts
pub flat_map-range_add : {X : Type 0} (g : ℕ → List X) (a m k s b : ℕ) → s ≡ m + k → b ≡ a + m
    → flat_map g (range_with_len a s) ≡ flat_map g (range_with_len a m) ++ flat_map g (range_with_len b k)
flat_map-range_add g a zero k s b whole from =
    let count : s ≡ k = omega (arith, whole) in
    let first : a ≡ b = omega (arith, from) in
    ap (λ n. flat_map g (range_with_len a n)) count ∙ ap (λ n. flat_map g (range_with_len n k)) first
flat_map-range_add g a (suc m) k zero b whole from = absurd (omega arith)
flat_map-range_add g a (suc m) k (suc s) b whole from =
    ap (λ ys. g a ++ ys) (flat_map-range_add g (a + 1) m k s b (omega arith) (omega arith)) ∙ sym (append_assoc (g a) (flat_map g (range_with_len (a + 1) m)) (flat_map g (range_with_len b k)))

-- two functions that agree on a range
pub flat_map-range_same : {X : Type 0} (g h : ℕ → List X) (a n : ℕ) → ((j : ℕ) → a ≤ j → j < a + n → g j ≡ h j)
    → flat_map g (range_with_len a n) ≡ flat_map h (range_with_len a n)
flat_map-range_same g h a zero same = refl
flat_map-range_same g h a (suc n) same =
    ap (λ x. x ++ flat_map g (range_with_len (a + 1) n)) (same a (omega arith) (omega arith))
    ∙ ap (λ ys. h a ++ ys) (flat_map-range_same g h (a + 1) n (λ j low high. same j (omega (arith, low)) (omega (arith, high))))

-- one number
pub flat_map-range_one : {X : Type 0} (g : ℕ → List X) (a : ℕ) → flat_map g (range_with_len a 1) ≡ g a
flat_map-range_one g a = append-nil (g a)
