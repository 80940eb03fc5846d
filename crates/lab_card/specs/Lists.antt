-- Facts of lists.
use Rattle.std.specs.Prelude.{◌≡◌, ℕ, zero, suc, ◌+◌, List, [], ◌∷◌, ◌++◌, Contains}
use Rattle.std.specs.List.{range_with_len}
use Rattle.std.proofs.Common.{sym, ap, subst, ◌∙◌, arith}
use mathlib.Core.Option.{some, some-injective, some-ne-none}
use lib.ListN.{get_elem?}
use Rattle.lab_run.specs.ActorPart.{Each}

-- numbers in a row, and the next ones
pub range_with_len-append : (from n m : ℕ) → range_with_len from (n + m) ≡ range_with_len from n ++ range_with_len (from + n) m
range_with_len-append from zero m =
    ap (range_with_len from) (let e : 0 + m ≡ m = omega arith in e) ∙ ap (λ (k : ℕ). range_with_len k m) (let e : from ≡ from + 0 = omega arith in e)
range_with_len-append from (suc n) m =
    ap (range_with_len from) (let e : suc n + m ≡ suc (n + m) = omega arith in e)
    ∙ ap (λ (xs : List ℕ). from ∷ xs)
    (range_with_len-append (from + 1) n m ∙ ap (λ (k : ℕ). range_with_len (from + 1) n ++ range_with_len k m) (let e : from + 1 + n ≡ from + suc n = omega arith in e))

pub Each-append : {X : Type 0} (P : X → Type 0) (xs ys : List X) → Each P xs → Each P ys → Each P (xs ++ ys)
Each-append P [] ys first then_ = then_
Each-append P (x ∷ xs) ys first then_ = (first.0, Each-append P xs ys first.1 then_)

pub Each-less : {X : Type 0} (P Q : X → Type 0) (xs : List X) → ((x : X) → P x → Q x) → Each P xs → Each Q xs
Each-less P Q [] weaker each = tt
Each-less P Q (x ∷ xs) weaker each = (weaker x each.0, Each-less P Q xs weaker each.1)

pub Each-both : {X : Type 0} (P Q : X → Type 0) (xs : List X) → Each P xs → Each Q xs → Each (λ (x : X). P x × Q x) xs
Each-both P Q [] first then_ = tt
Each-both P Q (x ∷ xs) first then_ = ((first.0, then_.0), Each-both P Q xs first.1 then_.1)

pub Each-at : {X : Type 0} (P : X → Type 0) (xs : List X) (i : ℕ) (x : X) → get_elem? xs i ≡ some x → Each P xs → P x
Each-at P [] i x is each = absurd (some-ne-none x (sym is))
Each-at P (y ∷ xs) zero x is each = subst P (some-injective y x is) each.0
Each-at P (y ∷ xs) (suc i) x is each = Each-at P xs i x is each.1

pub Contains-at : {X : Type 0} (xs : List X) (i : ℕ) (x : X) → get_elem? xs i ≡ some x → Contains xs x
Contains-at [] i x is = absurd (some-ne-none x (sym is))
Contains-at (y ∷ xs) zero x is = (0, omega arith, some-injective y x is)
Contains-at (y ∷ xs) (suc i) x is = let there = Contains-at xs i x is in (suc there.0, omega (arith, there.1), there.2)
