-- Laws of published positions.
use Rattle.std.specs.Prelude.{◌≡◌, ◌⊎◌, ℕ, zero, suc, ◌<◌, ◌≤◌, true, false, ◌==◌, List, [], ◌∷◌, ◌++◌}
use Rattle.std.specs.List.{list_any}
use Rattle.std.proofs.Common.{inl, inr, arith, sym, refl, ap, ◌∙◌}
use Rattle.std.proofs.lemmas.Bool.{and_from, and_parts, cases_eq, false≢true, or_left, or_right}
use Rattle.std.proofs.lemmas.Bool.Decides.{nat_tests}
use Rattle.std.proofs.lemmas.List.Folds.{list_any-append}
use mathlib.Core.Option.{some, some-injective, some-ne-none}
use lib.ListN.{get_elem?}
use Rattle.atomic_table.proofs.Lists.{at_longer}
use Rattle.snd_base.specs.declared.geometry.Geometry.{Geometry}
use Rattle.snd_base.specs.Places.{end_frame, first_frame}
use Rattle.ring_rule.specs.Positions.{IsPosition, Rising, has_all, last_number, last_position}

-- the last of some numbers and one more is that one
pub last_number-more : (d : ℕ) (xs : List ℕ) (x : ℕ) → last_number d (xs ++ x ∷ []) ≡ x
last_number-more d [] x = refl
last_number-more d (y ∷ ys) x = last_number-more y ys x

-- numbers that never fall, and one that is not below the last of them
pub Rising-more : (d : ℕ) (xs : List ℕ) (x : ℕ) → Rising d xs → last_number d xs ≤ x → Rising d (xs ++ x ∷ [])
Rising-more d [] x rising up = (up, tt)
Rising-more d (y ∷ ys) x rising up = (rising.0, Rising-more y ys x rising.1 up)

-- the last position is one, and a position stays one
pub IsPosition-last : (g : Geometry) (ps : List ℕ) → IsPosition g ps (last_position g ps)
IsPosition-last g ps = from (first_frame g) ps where
  from : (d : ℕ) (xs : List ℕ) → (last_number d xs ≡ d) ⊎ ((i : ℕ) × (get_elem? xs i ≡ some (last_number d xs)))
  from d [] = inl refl
  from d (x ∷ xs) = elim (from x xs) [
    | inl same ↦ inr (0, ap some (sym same))
    | inr one ↦ inr (suc one.0, one.1)
  ]

pub IsPosition-more : (g : Geometry) (ps : List ℕ) (p q : ℕ) → IsPosition g ps p → IsPosition g (ps ++ q ∷ []) p
IsPosition-more g ps p q is = elim is [
  | inl first ↦ inl first
  | inr one ↦ inr (one.0, at_longer ps (q ∷ []) one.0 p one.1)
]

-- more positions were seen
pub has_all-more : (ns more ms : List ℕ) → has_all ns ms ≡ true → has_all (ns ++ more) ms ≡ true
has_all-more ns more [] is = refl
has_all-more ns more (m ∷ ms) is =
    let parts = and_parts (list_any (λ n. n == m) ns) (has_all ns ms) is in
    and_from _ _ (list_any-append (λ n. n == m) ns more ∙ or_left (list_any (λ n. n == m) ns) (list_any (λ n. n == m) more) parts.0) (has_all-more ns more ms parts.1)

-- one more was published, and seen
has_last : (ns ms : List ℕ) (m : ℕ) → has_all ns ms ≡ true → list_any (λ n. n == m) ns ≡ true → has_all ns (ms ++ m ∷ []) ≡ true
has_last ns [] m is here = and_from (list_any (λ n. n == m) ns) true here refl
has_last ns (x ∷ xs) m is here =
    let parts = and_parts (list_any (λ n. n == x) ns) (has_all ns xs) is in
    and_from _ _ parts.0 (has_last ns xs m parts.1 here)

pub has_all-published : (ns ms : List ℕ) (m : ℕ) → has_all ns ms ≡ true → has_all (ns ++ m ∷ []) (ms ++ m ∷ []) ≡ true
has_all-published ns ms m is =
    let own : (m == m) ≡ true = grind (arith, nat_tests) in
    let here : list_any (λ n. n == m) (ns ++ m ∷ []) ≡ true =
    list_any-append (λ n. n == m) ns (m ∷ []) ∙ or_right (list_any (λ n. n == m) ns) (list_any (λ n. n == m) (m ∷ [])) (rw own refl) in
    has_last (ns ++ m ∷ []) ms m (has_all-more ns (m ∷ []) ms is) here

-- what is among the positions is at some place
found_there : (ns : List ℕ) (m : ℕ) → list_any (λ n. n == m) ns ≡ true → (j : ℕ) × (get_elem? ns j ≡ some m)
found_there [] m is = absurd (false≢true is)
found_there (n ∷ ns) m is = elim (cases_eq n m) [
  | inl same ↦ (0, ap some same)
  | inr apart ↦
      let test : (n == m) ≡ false = grind (arith, nat_tests) in
      let later : list_any (λ x. x == m) ns ≡ true = rw test at is in
      let rest = found_there ns m later in
      (suc rest.0, rest.1)
]

pub has_each : (ns ms : List ℕ) (i m : ℕ) → has_all ns ms ≡ true → get_elem? ms i ≡ some m → (j : ℕ) × (get_elem? ns j ≡ some m)
has_each ns [] i m is there = absurd (some-ne-none m (sym there))
has_each ns (x ∷ xs) zero m is there =
    let parts = and_parts (list_any (λ n. n == x) ns) (has_all ns xs) is in
    found_there ns m (ap (λ y. list_any (λ n. n == y) ns) (sym (some-injective x m there)) ∙ parts.0)
has_each ns (x ∷ xs) (suc i) m is there =
    let parts = and_parts (list_any (λ n. n == x) ns) (has_all ns xs) is in
    has_each ns xs i m parts.1 there

-- a position up to the end fits its word, beside the bit that says whether the card is gone
pub position_fits : (g : Geometry) (p : ℕ) → p ≤ end_frame g → p < 9223372036854775808
position_fits g p most = omega (arith, g.frames_most, most)
