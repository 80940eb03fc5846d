-- The groups of rows by their numbers: what is found in them, and what one row more or another row changes.
use Rattle.asound_conf.specs.Prelude.{ap, ap₂, arith, cond, drop, false, inl, inr, length, List, None, refl, Some, suc, sym, true, zero, ℕ, [], ◌++◌, ◌+◌, ◌-◌}
use Rattle.asound_conf.specs.Prelude.{◌<◌, ◌∙◌, ◌∷◌, ◌≡◌, ◌≤◌, cases_Bool, nat_tests, drop-append-le, drop-drop, drop-set-add, get_or-drop, length-drop}
use Rattle.asound_conf.specs.Prelude.{bytes_eq, Alters, ConfRow, group_in_rows, group_of, is_in, IsAbsent, IsNode, no_row, node, row_at, empty, get, group}
use Rattle.asound_conf.specs.Prelude.{has_node, text, without_name}
use Rattle.asound_conf.proofs.Places.{get-none}
use Rattle.asound_conf.proofs.Rows.{IsAt, get-at, has_node-absent, reaches, within-child, within-push, within-set, without-removed}
use Rattle.std.proofs.Common as common
use Rattle.asound_conf.specs.Tree as tree

-- the rows after a row, as they are among those after an earlier row
row-after : (rows : List ConfRow) (p n : ℕ) → p < n → row_at (drop (suc p) rows) (n - suc p) ≡ row_at rows n
row-after rows p n low =
    let sum : suc p + (n - suc p) ≡ n = omega arith in
    get_or-drop (suc p) rows (n - suc p) no_row ∙ ap (row_at rows) sum

pub drop-after : (rows : List ConfRow) (p n : ℕ) → p < n → drop (suc (n - suc p)) (drop (suc p) rows) ≡ drop (suc n) rows
drop-after rows p n low =
    let sum : suc p + suc (n - suc p) ≡ suc n = omega arith in
    drop-drop (suc (n - suc p)) (suc p) rows ∙ ap (λ m. drop m rows) sum

-- a name that no row of a group has
absent-after : (rows : List ConfRow) (p first : ℕ) (name : List ℕ) → ((j : ℕ) → first ≤ j → (row_at rows j).parent ≡ Some p → bytes_eq (row_at rows j).name name ≡ false) → has_node name (group_in_rows p first (drop first rows)) ≡ false
absent-after rows p first name none =
    has_node-absent p first name (drop first rows) (λ j there.
    let moved : row_at (drop first rows) j ≡ row_at rows (first + j) = get_or-drop first rows j no_row in
    ap (λ (r : ConfRow). bytes_eq r.name name) moved ∙ none (first + j) (omega arith) (sym (ap (λ (r : ConfRow). r.parent) moved) ∙ there))

pub has_node-IsAbsent : (rows : List ConfRow) (p : ℕ) (name : List ℕ) → IsAbsent rows p name → has_node name (group_of p rows) ≡ false
has_node-IsAbsent rows p name none = absent-after rows p (suc p) name (λ j later there. none j there)

pub get-IsAbsent : (rows : List ConfRow) (p : ℕ) (name : List ℕ) → IsAbsent rows p name → get name (group_of p rows) ≡ None
get-IsAbsent rows p name none = get-none name (group_of p rows) (has_node-IsAbsent rows p name none)

-- the last row of a name, among the rows after its group's row
pub at-IsNode : (rows : List ConfRow) (p : ℕ) (name : List ℕ) (n : ℕ) → IsNode rows p name n → IsAt p name n (suc p) (n - suc p) (drop (suc p) rows)
at-IsNode rows p name n is =
    let low : p < n = is.falls in
    let inside : n < length rows = is.inside in
    let row = row-after rows p n low in
    record {
      number = omega arith;
      inside = omega (arith, length-drop (suc p) rows);
      parent = ap (λ (r : ConfRow). r.parent) row ∙ is.parent;
      name_is = ap (λ (r : ConfRow). r.name) row ∙ is.named;
      last = ap (λ (rs : List ConfRow). has_node name (group_in_rows p (suc n) rs)) (drop-after rows p n low) ∙ absent-after rows p (suc n) name (λ j later there. is.last j (omega arith) there);
    }

pub get-IsNode : (rows : List ConfRow) (p : ℕ) (name : List ℕ) (n : ℕ) → IsNode rows p name n → get name (group_of p rows) ≡ Some (node (row_at rows n).value (group_of n rows))
get-IsNode rows p name n is =
    get-at p name n (suc p) (n - suc p) (drop (suc p) rows) (at-IsNode rows p name n is)
    ∙ ap₂ (λ (r : ConfRow) (rs : List ConfRow). Some (node r.value (group_in_rows n (suc n) rs))) (row-after rows p n is.falls) (drop-after rows p n is.falls)

-- a row more goes to the end of its group
pub group-push : (rows : List ConfRow) (q : ℕ) (row : ConfRow) → q < length rows → row.parent ≡ Some q → has_node row.name (group_of q rows) ≡ false → group_of q (rows ++ row ∷ []) ≡ tree.set row.name (node row.value empty) (group_of q rows)
group-push rows q row inside parent none =
    ap (group_in_rows q (suc q)) (drop-append-le (suc q) rows (row ∷ []) (omega arith)) ∙ within-push q (suc q) row (drop (suc q) rows) parent (omega arith) none

set-after : (rows : List ConfRow) (q n : ℕ) (s : ConfRow) → q < n → drop (suc q) (common.set rows n s) ≡ common.set (drop (suc q) rows) (n - suc q) s
set-after rows q n s low =
    let sum : suc q + (n - suc q) ≡ n = omega arith in
    ap (λ m. drop (suc q) (common.set rows m s)) (sym sum) ∙ drop-set-add (suc q) rows (n - suc q) s

-- another text in the place of one
pub group-set : (rows : List ConfRow) (q : ℕ) (name : List ℕ) (n : ℕ) (s : ConfRow) (t : List ℕ) → IsNode rows q name n → s.parent ≡ Some q → s.name ≡ (row_at rows n).name → s.value ≡ Some t → group_of q (common.set rows n s) ≡ tree.set name (text t) (group_of q rows)
group-set rows q name n s t is parent same value =
    let low : q < n = is.falls in
    ap (group_in_rows q (suc q)) (set-after rows q n s low)
    ∙ within-set q name n (suc q) (n - suc q) s t (drop (suc q) rows) (at-IsNode rows q name n is) (omega arith) parent (same ∙ sym (ap (λ (r : ConfRow). r.name) (row-after rows q n low))) value

-- a row that is taken out
pub group-removed : (rows : List ConfRow) (q : ℕ) (name : List ℕ) (n : ℕ) (s : ConfRow) → IsNode rows q name n → s.parent ≡ None → without_name name (group_of q (common.set rows n s)) ≡ without_name name (group_of q rows)
group-removed rows q name n s is parent =
    ap (λ (rs : List ConfRow). without_name name (group_in_rows q (suc q) rs)) (set-after rows q n s is.falls)
    ∙ without-removed q name n (suc q) (n - suc q) s (drop (suc q) rows) (at-IsNode rows q name n is) (omega arith) parent

alters-drop : (q n : ℕ) (old new : List ConfRow) → Alters q old new → Alters q (drop n old) (drop n new)
alters-drop q n old new a =
    let longer : length old ≤ length new = a.longer in
    record {
      longer = omega (arith, length-drop n old, length-drop n new);
      each = λ j. rw (get_or-drop n old j no_row, get_or-drop n new j no_row) (a.each (n + j));
    }

-- a group has the new group of a row below which the change is
pub group-child : (q p : ℕ) (name : List ℕ) (n : ℕ) (old new : List ConfRow) → Alters q old new → IsNode old p name n → (row_at old n).value ≡ None → (p ≡ q → ⊥) → reaches q n (suc n) (drop (suc n) old) ≡ true
    → group_of p new ≡ tree.set name (group (group_of n new)) (group_of p old)
group-child q p name n old new a is is_group differ below =
    let low : p < n = is.falls in
    within-child q p name n (suc p) (n - suc p) (drop (suc p) old) (drop (suc p) new) (alters-drop q (suc p) old new a) (at-IsNode old p name n is)
    (ap (λ (r : ConfRow). r.value) (row-after old p n low) ∙ is_group) differ (omega arith) (ap (reaches q n (suc n)) (drop-after old p n low) ∙ below)
    ∙ ap (λ (rs : List ConfRow). tree.set name (group (group_in_rows n (suc n) rs)) (group_of p old)) (drop-after new p n low)

-- what changes a group twice
pub Alters-both : (q : ℕ) (old mid new : List ConfRow) → Alters q old mid → Alters q mid new → Alters q old new
Alters-both q old mid new a b = grind (arith, nat_tests)

-- how many rows are in a group
abbrev pub members : ℕ → List ConfRow → ℕ
members q [] = 0
members q (row ∷ rows) = cond (is_in q row.parent) (suc (members q rows)) (members q rows)

-- a row fewer is in a group once one is taken out
pub members-removed : (q n : ℕ) (s : ConfRow) (rows : List ConfRow) → n < length rows → is_in q (row_at rows n).parent ≡ true → is_in q s.parent ≡ false → members q (common.set rows n s) < members q rows
members-removed q n s [] inside was out = absurd (omega arith)
members-removed q zero s (r ∷ rows) inside was out = rw (was, out) (omega arith)
members-removed q (suc n) s (r ∷ rows) inside was out =
    let fewer = members-removed q n s rows (omega arith) was out in
    elim (cases_Bool (is_in q r.parent)) [ inl is ↦ rw is (omega (arith, fewer)) | inr is ↦ rw is fewer ]

pub Alters-same : (q : ℕ) (rows : List ConfRow) → Alters q rows rows
Alters-same q rows = record { longer = omega arith; each = λ j. inl refl }
