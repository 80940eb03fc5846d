-- Lists that are gone through by their places.
use Rattle.std.proofs.Common.{◌≡◌, ℕ, zero, suc, ◌<◌, max, Bool, true, false, ◌==◌, if◌then◌else◌, List, [], ◌∷◌, ◌++◌, length, get_or, Option, Some, None, refl, sym, ap, ◌∙◌, arith, inl, inr}
use Rattle.std.proofs.Math.ListN.{set, length-set}
use Rattle.std.proofs.lemmas.Bool.{cases_eq, or_right}
use Rattle.std.proofs.lemmas.List.{get_or-set_other, get_or-set_same}
use Rattle.std.proofs.lemmas.Bool.Decides.{nat_tests}
use Rattle.dshare.specs.Owners.{greatest, has_channel, later}
use Rattle.dshare.specs.Shared.{with_value_at, with_later_at}

-- ---- the later of frames

pub later_assoc : (a b c : Option ℕ) → later (later a b) c ≡ later a (later b c)
later_assoc None b c = refl
later_assoc (Some x) None c = refl
later_assoc (Some x) (Some y) None = refl
later_assoc (Some x) (Some y) (Some z) = ap Some (let e : max (max x y) z ≡ max x (max y z) = omega arith in e)

pub later_again : (a b : Option ℕ) → later a (later a b) ≡ later a b
later_again None b = refl
later_again (Some x) None = ap Some (let e : max x x ≡ x = omega arith in e)
later_again (Some x) (Some y) = ap Some (let e : max x (max x y) ≡ max x y = omega arith in e)

pub greatest-append : (xs ys : List ℕ) → greatest (xs ++ ys) ≡ later (greatest xs) (greatest ys)
greatest-append [] ys = refl
greatest-append (x ∷ xs) ys = ap (later (Some x)) (greatest-append xs ys) ∙ sym (later_assoc (Some x) (greatest xs) (greatest ys))

-- ---- marked and raised lists

-- a choice of one value
both : {X : Type 0} (x : X) (b : Bool) → (if b then x else x) ≡ x
both x true = refl
both x false = refl

pub marked-at : {X : Type 0} (x d : X) (xs : List X) (cs : List ℕ) (c : ℕ) → c < length xs → get_or (with_value_at x xs cs) c d ≡ (if has_channel cs c then x else get_or xs c d)
marked-at x d xs [] c within = refl
marked-at x d xs (a ∷ cs) c within =
    marked-at x d (set xs a x) cs c (omega (arith, length-set xs a x, within))
    ∙ elim (cases_eq a c) [
      | inl same ↦
          let test : (c == c) ≡ true = grind (arith, nat_tests) in
          rw (same, get_or-set_same xs c x d within, test) (both x (has_channel cs c))
      | inr other ↦
          let test : (a == c) ≡ false = grind (arith, nat_tests) in
          rw (get_or-set_other xs a c x d (λ e. other (sym e)), test)
    ]

pub raised-at : (f : Option ℕ) (xs : List (Option ℕ)) (cs : List ℕ) (c : ℕ) → c < length xs → get_or (with_later_at f xs cs) c None ≡ (if has_channel cs c then later f (get_or xs c None) else get_or xs c None)
raised-at f xs [] c within = refl
raised-at f xs (a ∷ cs) c within =
    let raised : List (Option ℕ) = set xs a (later f (get_or xs a None)) in
    raised-at f raised cs c (omega (arith, length-set xs a (later f (get_or xs a None)), within))
    ∙ elim (cases_eq a c) [
      | inl same ↦
          let last : Option ℕ = get_or xs c None in
          let test : (c == c) ≡ true = grind (arith, nat_tests) in
          rw (same, get_or-set_same xs c (later f last) None within, test, later_again f last) (both (later f last) (has_channel cs c))
      | inr other ↦
          let test : (a == c) ≡ false = grind (arith, nat_tests) in
          rw (get_or-set_other xs a c (later f (get_or xs a None)) None (λ e. other (sym e)), test)
    ]

-- a list has each of its elements
pub has_channel-at : (cs : List ℕ) (i : ℕ) → i < length cs → has_channel cs (get_or cs i 0) ≡ true
has_channel-at [] i within = absurd (omega arith)
has_channel-at (a ∷ cs) zero within = grind (arith, nat_tests)
has_channel-at (a ∷ cs) (suc i) within = or_right (a == get_or cs i 0) _ (has_channel-at cs i (omega arith))
