-- Tables of words, and what each word means.
use Rattle.std.specs.Prelude.{ℕ, List, [], ◌∷◌, bytes_eq, Option, Some, None, if◌then◌else◌}

-- the row of a word in a table
abbrev pub row_of : {A : Type 0} → List (List ℕ × A) → List ℕ → Option A
row_of [] word = None
row_of (row ∷ rows) word = if bytes_eq word row.0 then Some row.1 else row_of rows word
