-- Files by name, and the bytes that a sink took.
--     Files       a finite map from names to bytes
--     bytes_under files name      what the file of this name holds, if there is one
--     with_file files name bytes      the files, with this one holding exactly these bytes
--     piece files name from most      the file's bytes from a place on, at most so many
--     changed make files name      the files, with the named one, if it is there, holding what `make` makes of its bytes
--     overwritten head content      the content with other first bytes
--     IsPartWritten, IsPartAppended, IsPartFinished, TookPart      what a failed write may leave
--     bytes_under-with_file_same, bytes_under-with_file, bytes_under-with_file_other      what the files hold once one of them was written
--     name_test-Decides      the maps' test of two names decides whether they are equal
use Rattle.std.specs.Prelude.{◌≡◌, ◌≢◌, ◌≤◌, ◌⊎◌, ◌++◌, ℕ, true, false, cond, List, length, take, drop, Option, Some, IfSome, IsSome, refl}
use Rattle.std.specs.Bool.{Decides}
use Rattle.std.specs.Option.{option_map, option_map_or}
use Rattle.std.specs.Ordering.{nat_cmp, eq_by_cmp}
use Rattle.std.specs.Cmp.Lexicographic.{slice_cmp, nat_list_cmp_total}
use Rattle.std.specs.FinMap.{FinMap, get, insert, get-insert}
use Rattle.std.proofs.Common.{sym, ap, subst, inl, inr, ◌∙◌}
use Rattle.std.proofs.lemmas.Slice.Eq.{bytes_eq-Decides}
use Rattle.std.proofs.lemmas.Map.Text.{is_eq-slice_cmp}

-- files: a finite map from names to bytes
abbrev pub Files : Type 0
Files = FinMap (slice_cmp nat_cmp) (List ℕ)

-- what the file of this name holds, if there is one
abbrev pub bytes_under : Files → List ℕ → Option (List ℕ)
bytes_under files name = get files name

-- the files, with this one holding exactly these bytes
abbrev pub with_file : Files → List ℕ → List ℕ → Files
with_file files name bytes = insert files name bytes

-- the bytes of a file from a place on, at most so many of them
abbrev pub piece : Files → List ℕ → ℕ → ℕ → Option (List ℕ)
piece files name from most = option_map (λ content. take most (drop from content)) (bytes_under files name)

-- the files, with the named one, if it is there, holding what is made of its bytes
abbrev pub with_change : (List ℕ → List ℕ) → Files → List ℕ → Files
with_change make files name = option_map_or (λ content. with_file files name (make content)) (bytes_under files name) files

-- the content with as many other first bytes
abbrev pub with_first_bytes : List ℕ → List ℕ → List ℕ
with_first_bytes head content = head ++ drop (length head) content

-- the files are as they were, or the named one holds the first of the bytes
abbrev pub IsPartWritten : Option Files → Option Files → List ℕ → List ℕ → Type 0
IsPartWritten before after name bytes =
    (after ≡ before) ⊎ ((k : ℕ) × (after ≡ option_map (λ files. with_file files name (take k bytes)) before))

-- the files are as they were, or the named one, if it is there, holds the first of its bytes and these after them
abbrev pub IsPartAppended : Option Files → Option Files → List ℕ → List ℕ → Type 0
IsPartAppended before after name bytes =
    (after ≡ before) ⊎ ((k : ℕ) × (after ≡ option_map (λ files. with_change (λ content. take k (content ++ bytes)) files name) before))

-- the files are as they were, or the named one, if it is there, holds some first bytes of the head and otherwise what it held
abbrev pub IsPartFinished : Option Files → Option Files → List ℕ → List ℕ → Type 0
IsPartFinished before after name head =
    (after ≡ before) ⊎ ((k : ℕ) × (k ≤ length head) × (after ≡ option_map (λ files. with_change (with_first_bytes (take k head)) files name) before))

-- there is a file of this name, where the files are known
abbrev pub HasFileNamed : Option Files → List ℕ → Type 0
HasFileNamed files name = IfSome files (λ m. IsSome (bytes_under m name))

-- where the files are known and there is one of this name, it has as many bytes as the head
abbrev pub HasRoom : Option Files → List ℕ → List ℕ → Type 0
HasRoom files name head = IfSome files (λ m. IfSome (bytes_under m name) (λ content. length head ≤ length content))

-- a sink took the first of the bytes
abbrev pub TookPart : Option (List ℕ) → Option (List ℕ) → List ℕ → Type 0
TookPart before after bytes = (k : ℕ) × (after ≡ option_map (λ taken. taken ++ take k bytes) before)

-- the maps' test of two names decides whether they are equal
pub name_test-Decides : (q name : List ℕ) → Decides (eq_by_cmp (slice_cmp nat_cmp) q name) (q ≡ name)
name_test-Decides q name =
    subst (λ b. Decides b (q ≡ name)) (sym (is_eq-slice_cmp q name)) (bytes_eq-Decides q name)

-- a file that was written holds the bytes
pub bytes_under-with_file_same : (files : Files) (name bytes : List ℕ) → bytes_under (with_file files name bytes) name ≡ Some bytes
bytes_under-with_file_same files name bytes =
    get-insert nat_list_cmp_total files name bytes name
    ∙ ap (λ b. cond b (Some bytes) (bytes_under files name)) ((name_test-Decides name name).1 refl)

-- every other file is as it was
pub bytes_under-with_file : (files : Files) (name bytes q : List ℕ) → (q ≡ name) ⊎ (bytes_under (with_file files name bytes) q ≡ bytes_under files q)
bytes_under-with_file files name bytes q =
    elim (eq_by_cmp (slice_cmp nat_cmp) q name) as
    (λ b. Decides b (q ≡ name) → bytes_under (with_file files name bytes) q ≡ cond b (Some bytes) (bytes_under files q)
    → (q ≡ name) ⊎ (bytes_under (with_file files name bytes) q ≡ bytes_under files q)) [
      | true ↦ λ decides is. inl (decides.0 refl)
      | false ↦ λ decides is. inr is
    ] (name_test-Decides q name) (get-insert nat_list_cmp_total files name bytes q)

-- a file with another name is as it was
pub bytes_under-with_file_other : (files : Files) (name bytes q : List ℕ) → q ≢ name → bytes_under (with_file files name bytes) q ≡ bytes_under files q
bytes_under-with_file_other files name bytes q other =
    elim (bytes_under-with_file files name bytes q) [ inl same ↦ absurd (other same) | inr is ↦ is ]
