-- What a phase publishes isn't before the position at which it begins, or after that at which it ends.
use Rattle.run_laws.specs.Prelude.{arith, List, subst, ℕ, [], ◌+◌, ◌<◌, ◌∷◌, ◌≡◌, ◌≤◌, All-append, All-cons, All-contains, All-filter, All-nil}
use Rattle.run_laws.specs.Prelude.{get_or-range_with_len, length-range_with_len, sum_by-cons, range_with_len, All, Contains, ◌%◌, ◌==◌, Line, on_the_way}
use Rattle.run_laws.specs.Prelude.{phase_positions, played_at, played_in, published_by}

abbrev pub IsBetween : ℕ → ℕ → ℕ → Type 0
IsBetween begin end q = (begin ≤ q) × (q ≤ end)

on_the_way-between : (period begin end from frames : ℕ) → begin ≤ from → from + frames ≤ end → All (IsBetween begin end) (on_the_way period from frames)
on_the_way-between period begin end from frames low high =
    All-append (IsBetween begin end) _ _
    (All-filter (λ (q : ℕ). q % period == 0) (IsBetween begin end) (range_with_len (from + 1) frames) range)
    (All-cons (IsBetween begin end) (from + frames) [] (omega (arith, low), high) (All-nil (IsBetween begin end)))
  where
    range : All (IsBetween begin end) (range_with_len (from + 1) frames)
    range k d within =
        let below : k < frames = subst (λ (n : ℕ). k < n) (length-range_with_len (from + 1) frames) within in
        let is = get_or-range_with_len (from + 1) frames k d below in
        (omega (arith, low, is), omega (arith, high, below, is))

published_by-between : (period begin end from : ℕ) (lines : List Line) → begin ≤ from → from + played_in lines ≤ end → All (IsBetween begin end) (published_by period from lines)
published_by-between period begin end from [] low high = All-nil (IsBetween begin end)
published_by-between period begin end from (line ∷ lines) low high =
    let all : played_in (line ∷ lines) ≡ played_at line + played_in lines = sum_by-cons played_at line lines in
    All-append (IsBetween begin end) (on_the_way period from (played_at line)) (published_by period (from + played_at line) lines)
    (on_the_way-between period begin end from (played_at line) low (omega (arith, high, all)))
    (published_by-between period begin end (from + played_at line) lines (omega (arith, low)) (omega (arith, high, all)))

pub published-between : (period from : ℕ) (lines : List Line) → All (IsBetween from (from + played_in lines)) (phase_positions period from lines)
published-between period from lines =
    All-cons (IsBetween from (from + played_in lines)) from (published_by period from lines) (omega arith, omega arith)
    (published_by-between period from (from + played_in lines) from lines (omega arith) (omega arith))

pub published-within : (period from : ℕ) (lines : List Line) (q : ℕ) → Contains (phase_positions period from lines) q → (from ≤ q) × (q ≤ from + played_in lines)
published-within period from lines q there = All-contains (IsBetween from (from + played_in lines)) (phase_positions period from lines) q (published-between period from lines) there

pub published-past : (period from p : ℕ) (lines : List Line) → p ≤ from → (q : ℕ) → Contains (phase_positions period from lines) q → p ≤ q
published-past period from p lines past q there = let is = published-within period from lines q there in omega (arith, past, is)
