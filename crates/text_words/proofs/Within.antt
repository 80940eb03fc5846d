-- What a number up to a limit says.
use Rattle.text_words.specs.Prelude.{arith, Bool, cond, false, nat_le, None, refl, Some, true, ℕ, ◌≡◌, ◌≤◌, nat_tests, within}

-- a greater number isn't up to it either
none_by : (most a b : ℕ) (t u : Bool) → nat_le a most ≡ t → nat_le b most ≡ u → None ≡ cond t (Some a) None → a ≤ b → None ≡ cond u (Some b) None
none_by most a b true u e f g h = absurd (cc)
none_by most a b false true e f g h = absurd (passes a b most e f h)
  where
    passes : (a b most : ℕ) → nat_le a most ≡ false → nat_le b most ≡ true → a ≤ b → ⊥
    passes a b most e f h = grind (arith, nat_tests)
none_by most a b false false e f g h = refl

pub within-none : (most a b : ℕ) → None ≡ within most a → a ≤ b → None ≡ within most b
within-none most a b g h = none_by most a b (nat_le a most) (nat_le b most) refl refl g h

some_by : (a v : ℕ) (t : Bool) → Some v ≡ cond t (Some a) None → v ≡ a
some_by a v true g = cc
some_by a v false g = absurd (cc)

pub within-some : (most a v : ℕ) → Some v ≡ within most a → v ≡ a
within-some most a v g = some_by a v (nat_le a most) g

most_by : (most a v : ℕ) (t : Bool) → nat_le a most ≡ t → Some v ≡ cond t (Some a) None → v ≤ most
most_by most a v true e g = let same : v ≡ a = cc (g) in let h : a ≤ most = at_most a most e in omega arith
  where
    at_most : (a most : ℕ) → nat_le a most ≡ true → a ≤ most
    at_most a most e = grind (arith, nat_tests)
most_by most a v false e g = absurd (cc)

pub within-most : (most a v : ℕ) → Some v ≡ within most a → v ≤ most
within-most most a v g = most_by most a v (nat_le a most) refl g

pub within-fits : (most n : ℕ) → n ≤ most → Some n ≡ within most n
within-fits most n h = grind (arith, nat_tests)
