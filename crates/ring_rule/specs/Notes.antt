-- The notes that seats take of the words that they found: at each word's index at most one word, the last that was seen there.
use Rattle.std.specs.Prelude.{◌≡◌, ℕ, Option, None, Some, List, [], ◌∷◌, nat_lt, if◌then◌else◌}
use Rattle.std.specs.List.{slice_index_or}
use Rattle.ring_rule.specs.Words.{NotPast, rank}

-- the later one of two notes
abbrev pub later_note : Option ℕ → Option ℕ → Option ℕ
later_note None o = o
later_note (Some n) None = Some n
later_note (Some n) (Some o) = if nat_lt (rank n) (rank o) then Some o else Some n

-- the later notes of two lists
abbrev pub later_notes : List (Option ℕ) → List (Option ℕ) → List (Option ℕ)
later_notes [] os = os
later_notes (n ∷ ns) [] = n ∷ ns
later_notes (n ∷ ns) (o ∷ os) = later_note n o ∷ later_notes ns os

-- no noted word is followed by an earlier one, by lap and then by count
abbrev pub NeverFall : List (Option ℕ) → List (Option ℕ) → Type 0
NeverFall ns ms = (i n : ℕ) → slice_index_or ns i None ≡ Some n → (m : ℕ) × (slice_index_or ms i None ≡ Some m) × NotPast n m
