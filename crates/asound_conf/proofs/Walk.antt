-- The nodes in a group, row by row.
use Rattle.asound_conf.specs.Prelude.{ap, arith, drop, false, length, List, refl, suc, true, zero, ℕ, [], ◌<◌, ◌∙◌, ◌∷◌, ◌≡◌, ◌≤◌, drop_all, ConfRow}
use Rattle.asound_conf.specs.Prelude.{entries_from, group_in_rows, group_of, is_in, node, row_at, empty, entry}

-- the rows from a number on are the row of this number and those after it
drop-row : (rows : List ConfRow) (n : ℕ) → n < length rows → drop n rows ≡ row_at rows n ∷ drop (suc n) rows
drop-row [] n inside = absurd (omega arith)
drop-row (row ∷ rows) zero inside = refl
drop-row (row ∷ rows) (suc n) inside = drop-row rows n (omega arith)

-- the row of this number is in the group
pub entries_from-in : (p n : ℕ) (rows : List ConfRow) → n < length rows → is_in p (row_at rows n).parent ≡ true
    → entries_from p n rows ≡ entry (row_at rows n).name (node (row_at rows n).value (group_of n rows)) (entries_from p (suc n) rows)
entries_from-in p n rows inside is = ap (group_in_rows p n) (drop-row rows n inside) ∙ rw is refl

-- it isn't
pub entries_from-out : (p n : ℕ) (rows : List ConfRow) → n < length rows → is_in p (row_at rows n).parent ≡ false
    → entries_from p n rows ≡ entries_from p (suc n) rows
entries_from-out p n rows inside is = ap (group_in_rows p n) (drop-row rows n inside) ∙ rw is refl

-- there is no row from this number on
pub entries_from-end : (p n : ℕ) (rows : List ConfRow) → length rows ≤ n → entries_from p n rows ≡ empty
entries_from-end p n rows past = ap (group_in_rows p n) (drop_all n rows past)
