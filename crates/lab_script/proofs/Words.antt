-- Keywords are the words that no name is.
use Rattle.lab_script.specs.Prelude.{arith, Bool, cond, false, is_some, List, Option, refl, Some, true, ℕ, ◌||◌, ◌≡◌, row_of, is_reserved, keywords}

-- whether a test's row is found, or a later one
some_row : {A : Type 0} (b : Bool) (x : A) (later : Option A) → is_some (cond b (Some x) later) ≡ (b || is_some later)
some_row true x later = refl
some_row false x later = refl

-- a word is a keyword where it is reserved
pub row_of_keywords : (word : List ℕ) → is_some (row_of keywords word) ≡ is_reserved word
row_of_keywords word = grind (arith, some_row)
