-- A list is cut at the first element that passes a test.
use Rattle.text_words.specs.Prelude.{ap, arith, Bool, drop, length, List, None, Some, take, ℕ, [], ◌+◌, ◌-◌, ◌<◌, ◌∙◌, ◌∷◌, ◌≡◌, ◌≤◌, nat_tests, length-drop}
use Rattle.text_words.specs.Prelude.{take_all, slice_split_first, slice_split_none, fails_before_first, position, position_or_len, slice_split}
use Rattle.std.proofs.lemmas.Option.{cond_some}

-- what follows a place
pub take-drop : (i : ℕ) (xs : List ℕ) → take (length xs - i) (drop i xs) ≡ drop i xs
take-drop i xs = take_all (length xs - i) (drop i xs) (omega (arith, length-drop i xs))

pub position_place : (p : ℕ → Bool) (xs : List ℕ) (i : ℕ) → position p xs ≡ Some i → (position_or_len p xs < length xs) × (position_or_len p xs ≡ i)
position_place p xs i e = grind (arith, nat_tests, cond_some)

pub position_missing : (p : ℕ → Bool) (xs : List ℕ) (k : ℕ) → position p xs ≡ None → k < length xs → k < position_or_len p xs
position_missing p xs k e h = grind (arith, nat_tests)

-- where nothing passes, the first place is after the end
pub position_end : (p : ℕ → Bool) (xs : List ℕ) → position p xs ≡ None → length xs ≤ position_or_len p xs
position_end p xs e = grind (arith, nat_tests)

pub split_at : (p : ℕ → Bool) (xs : List ℕ) (i : ℕ) → position p xs ≡ Some i → slice_split p xs ≡ take i xs ∷ slice_split p (take (length xs - (i + 1)) (drop (i + 1) xs))
split_at p xs i e =
    let h = position_place p xs i e in
    rw (take-drop (i + 1) xs) (slice_split_first p xs 0 h.0 ∙ ap (λ k. take k xs ∷ slice_split p (drop (k + 1) xs)) h.1)

pub split_none : (p : ℕ → Bool) (xs : List ℕ) → position p xs ≡ None → slice_split p xs ≡ xs ∷ []
split_none p xs e = slice_split_none p xs (λ k d h. fails_before_first p xs k d (position_missing p xs k e h))
