-- Lists of what each of several members has, with the members' numbers.
use Rattle.run_laws.specs.Prelude.{ap, arith, length, List, refl, subst, sym, ℕ, [], ◌++◌, ◌+◌, ◌∙◌, ◌∷◌, ◌≡◌, ◌≤◌, eq-eqb, nat_tests, append-nil}
use Rattle.run_laws.specs.Prelude.{flat_map-append, flat_map-map, flat_map, range_with_len, false, map, nat_eq, slice_index_or, suc, zero, with_numbers}
use Rattle.run_laws.proofs.OwnLines.{members-append, members-other, members_of, numbered-past}

members-own : {Y : Type 0} (n : ℕ) (ys : List Y) → members_of n (map (λ y. (n, y)) ys) ≡ ys
members-own n [] = refl
members-own n (y ∷ ys) = rw (eq-eqb n n refl) (ap (λ zs. y ∷ zs) (members-own n ys))

-- two functions that agree from a number on
from-range : {A : Type 0} (f g : ℕ → List A) (first n : ℕ) → ((m : ℕ) → first ≤ m → f m ≡ g m)
    → flat_map f (range_with_len first n) ≡ flat_map g (range_with_len first n)
from-range f g first zero same = refl
from-range f g first (suc n) same = ap (λ l. l ++ flat_map f (range_with_len (first + 1) n)) (same first (omega arith))
    ∙ ap (λ l. g first ++ l) (from-range f g (first + 1) n (λ m low. same m (omega (arith, low))))

-- the first number is that of the first member
numbered-first : {X Y : Type 0} (has : X → List Y) (number : ℕ) (x : X) (xs : List X) → members_of number (with_numbers has number (x ∷ xs)) ≡ has x
numbered-first has number x xs =
    rw (members-append number (map (λ y. (number, y)) (has x)) (with_numbers has (number + 1) xs), numbered-past has number (number + 1) xs (omega arith)) (append-nil _ ∙ members-own number (has x))

-- and none of a later one
numbered-later : {X Y : Type 0} (has : X → List Y) (n number : ℕ) (x : X) (xs : List X) → nat_eq number n ≡ false
    → members_of n (with_numbers has number (x ∷ xs)) ≡ members_of n (with_numbers has (number + 1) xs)
numbered-later has n number x xs other =
    members-append n (map (λ y. (number, y)) (has x)) (with_numbers has (number + 1) xs)
    ∙ ap (λ r. r ++ members_of n (with_numbers has (number + 1) xs)) (members-other n number (has x) other)

-- what is made of a numbered list is what is made of each member's part, one after the other
pub numbered-parts : {X Y A : Type 0} (has : X → List Y) (of : ℕ × Y → List A) (number : ℕ) (xs : List X)
    → flat_map of (with_numbers has number xs)
    ≡ flat_map (λ n. flat_map (λ y. of (n, y)) (members_of n (with_numbers has number xs))) (range_with_len number (length xs))
numbered-parts has of number [] = refl
numbered-parts {X = X} {Y = Y} {A = A} has of number (x ∷ xs) =
    flat_map-append of (map (λ y. (number, y)) (has x)) others
    ∙ ap (λ l. l ++ flat_map of others) (flat_map-map of (λ y. (number, y)) (has x))
    ∙ ap (λ l. flat_map (λ y. of (number, y)) (has x) ++ l) (numbered-parts has of (number + 1) xs)
    ∙ ap (λ l. flat_map (λ y. of (number, y)) l ++ flat_map (part others) (range_with_len (number + 1) (length xs))) (sym (numbered-first has number x xs))
    ∙ ap (λ l. part (with_numbers has number (x ∷ xs)) number ++ l) (from-range (part others) (part (with_numbers has number (x ∷ xs))) (number + 1) (length xs)
    (λ m low. ap (flat_map (λ y. of (m, y))) (sym (numbered-later has m number x xs (grind (arith, nat_tests, low))))))
  where
    others : List (ℕ × Y)
    others = with_numbers has (number + 1) xs

    part : List (ℕ × Y) → ℕ → List A
    part pairs n = flat_map (λ y. of (n, y)) (members_of n pairs)

-- what is numbered for a member is what that one has
pub numbered-at : {X Y : Type 0} (of : X → List Y) (none : X) (n number i : ℕ) (xs : List X) → number + i ≡ n → of none ≡ []
    → members_of n (with_numbers of number xs) ≡ of (slice_index_or xs i none)
numbered-at of none n number i [] at is = sym is
numbered-at of none n number zero (x ∷ xs) at is =
    let here : number ≡ n = omega (arith, at) in subst (λ m. members_of m (with_numbers of number (x ∷ xs)) ≡ of x) here (numbered-first of number x xs)
numbered-at of none n number (suc i) (x ∷ xs) at is =
    numbered-later of n number x xs (grind (arith, nat_tests, at)) ∙ numbered-at of none n (number + 1) i xs (omega (arith, at)) is
