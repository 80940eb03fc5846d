-- What a table of cells means: each cell is a row, which is in the group of an earlier row, or in none.
use Rattle.std.specs.Prelude.{◌≡◌, ℕ, suc, ◌<◌, ◌≤◌, ◌==◌, Bool, false, if◌then◌else◌, List, [], ◌∷◌, ◌++◌, length, drop, get_or, bytes_eq, Option, Some, None, ◌⊎◌}
use Rattle.asound_conf.specs.Tree.{Tree, text, group, Entries, empty, entry}

-- A row: the number of the row whose group it is in, where it is in one, its name, and its text, where it is no group.
pub record ConfRow : Type 0 where
  pub parent : Option ℕ
  pub name : List ℕ
  pub value : Option (List ℕ)

-- What a table has: the text that was read, and the rows, of which row 0 is the text's own group.
pub record Contents : Type 0 where
  pub text : List ℕ
  pub rows : List ConfRow

-- a row is in the group of this number
abbrev pub is_in : ℕ → Option ℕ → Bool
is_in p None = false
is_in p (Some q) = q == p

-- the node of a row: its text, or else this group
abbrev pub node : Option (List ℕ) → Entries → Tree
node (Some t) g = text t
node None g = group g

-- the group of a number, by rows of which the first has the number `first`
abbrev pub group_in_rows : ℕ → ℕ → List ConfRow → Entries
group_in_rows p first [] = empty
group_in_rows p first (row ∷ rows) =
    if is_in p row.parent then entry row.name (node row.value (group_in_rows first (suc first) rows)) (group_in_rows p (suc first) rows) else group_in_rows p (suc first) rows

-- what a group has of the rows from a number on
abbrev pub entries_from : ℕ → ℕ → List ConfRow → Entries
entries_from p first rows = group_in_rows p first (drop first rows)

-- the group of the row of this number: those that are in it come after it
abbrev pub group_of : ℕ → List ConfRow → Entries
group_of p rows = group_in_rows p (suc p) (drop (suc p) rows)

-- what is beside the rows: it is in no group
abbrev pub no_row : ConfRow
no_row = record { parent = None; name = []; value = None }

-- the row of this number
abbrev pub row_at : List ConfRow → ℕ → ConfRow
row_at rows n = get_or rows n no_row

-- no row of a group has this name
abbrev pub IsAbsent : List ConfRow → ℕ → List ℕ → Type 0
IsAbsent rows p name = (j : ℕ) → (row_at rows j).parent ≡ Some p → bytes_eq (row_at rows j).name name ≡ false

-- a row is the last one of its group that has this name
pub record IsNode (rows : List ConfRow) (p : ℕ) (name : List ℕ) (n : ℕ) : Type 0 where
  pub inside : n < length rows
  pub parent : (row_at rows n).parent ≡ Some p
  pub named : (row_at rows n).name ≡ name
  pub falls : p < n
  pub last : (j : ℕ) → n < j → (row_at rows j).parent ≡ Some p → bytes_eq (row_at rows j).name name ≡ false

-- a row is the first one of a group from a number on: the group has this node next, and then what it has of the rows after that
pub record IsNextNode (rows : List ConfRow) (p first n : ℕ) : Type 0 where
  pub inside : n < length rows
  pub entries : entries_from p first rows ≡ entry (row_at rows n).name (node (row_at rows n).value (group_of n rows)) (entries_from p (suc n) rows)

-- a row is in no other group than this one
abbrev pub IsOnlyIn : ℕ → ConfRow → Type 0
IsOnlyIn q row = (d : ℕ) → (d ≡ q → ⊥) → is_in d row.parent ≡ false

-- the rows that changed, and those that were added, are and were in the group of q or in none
pub record Alters (q : ℕ) (old new : List ConfRow) : Type 0 where
  pub longer : length old ≤ length new
  pub each : (j : ℕ) → (row_at old j ≡ row_at new j) ⊎ (IsOnlyIn q (row_at old j) × IsOnlyIn q (row_at new j))

-- the contents with one row more
abbrev pub with_row : ConfRow → Contents → Contents
with_row row c = record { text = c.text; rows = c.rows ++ row ∷ [] }
