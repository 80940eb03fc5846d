-- Where an item of a longer list is.
use Rattle.std.specs.Prelude.{◌≡◌, ◌⊎◌, ℕ, zero, suc, List, [], ◌∷◌, ◌++◌, length}
use Rattle.std.proofs.Common.{inl, inr, arith, sym, refl}
use mathlib.Core.Option.{some, some-injective, some-ne-none}
use lib.ListN.{get_elem?}

-- an item of a list that is one longer
pub at_more : {A : Type 0} (l : List A) (a b : A) (j : ℕ) → get_elem? (l ++ a ∷ []) j ≡ some b → (get_elem? l j ≡ some b) ⊎ ((j ≡ length l) × (a ≡ b))
at_more [] a b zero is = inr (refl, some-injective a b is)
at_more [] a b (suc j) is = absurd (some-ne-none b (sym is))
at_more (x ∷ xs) a b zero is = inl is
at_more (x ∷ xs) a b (suc j) is = elim (at_more xs a b j is) [
  | inl there ↦ inl there
  | inr last ↦ inr (omega (arith, last.0), last.1)
]

-- an item of joined lists
pub at_append : {A : Type 0} (xs ys : List A) (b : A) (j : ℕ) → get_elem? (xs ++ ys) j ≡ some b → (get_elem? xs j ≡ some b) ⊎ ((i : ℕ) × (get_elem? ys i ≡ some b))
at_append [] ys b j is = inr (j, is)
at_append (x ∷ xs) ys b zero is = inl is
at_append (x ∷ xs) ys b (suc j) is = elim (at_append xs ys b j is) [ inl here ↦ inl here | inr there ↦ inr there ]

-- an item of the second of joined lists is after the first
pub at_second : {A : Type 0} (xs ys : List A) (i : ℕ) (b : A) → get_elem? ys i ≡ some b → (j : ℕ) × (get_elem? (xs ++ ys) j ≡ some b)
at_second [] ys i b is = (i, is)
at_second (x ∷ xs) ys i b is =
    let rest = at_second xs ys i b is in
    (suc rest.0, rest.1)

-- the item of a list of one
pub at_only : {A : Type 0} (a : A) (j : ℕ) (b : A) → get_elem? (a ∷ []) j ≡ some b → (j ≡ 0) × (a ≡ b)
at_only a zero b is = (refl, some-injective a b is)
at_only a (suc j) b is = absurd (some-ne-none b (sym is))
