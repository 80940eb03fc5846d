-- The groups of rows: what is found in them, and what one row more or another row changes.
use Rattle.asound_conf.specs.Prelude.{ap, ap₂, arith, Bool, cond, drop, false, inl, inr, length, length-append, List, None, Option, refl, Some, subst, suc, sym}
use Rattle.asound_conf.specs.Prelude.{true, zero, ℕ, [], ◌++◌, ◌+◌, ◌-◌, ◌<◌, ◌||◌, ◌∙◌, ◌∷◌, ◌≡◌, ◌⊎◌, cases_Bool, or_parts, or_right, nat_tests, length-set}
use Rattle.asound_conf.specs.Prelude.{◌==◌, bytes_eq, Alters, ConfRow, group_in_rows, is_in, IsOnlyIn, node, row_at, empty, entry, get, group, has_node, text}
use Rattle.asound_conf.specs.Prelude.{without_name}
use Rattle.asound_conf.proofs.Places.{bytes_eq-self}
use Rattle.std.proofs.Common as common
use Rattle.asound_conf.specs.Tree as tree

-- a row that is in a group
pub is_in-Some : (p : ℕ) (parent : Option ℕ) → parent ≡ Some p → is_in p parent ≡ true
is_in-Some p parent is = grind (arith, nat_tests)

pub is_in-true : (p : ℕ) (parent : Option ℕ) → is_in p parent ≡ true → parent ≡ Some p
is_in-true p None is = cc
is_in-true p (Some q) is = let same : q ≡ p = grind (arith, nat_tests) in ap Some same

-- a row is in one group at most
pub is_in-one : (p q : ℕ) (parent : Option ℕ) → (p ≡ q → ⊥) → is_in p parent ≡ true → is_in q parent ≡ false
is_in-one p q None differ is = refl
is_in-one p q (Some r) differ is = grind (arith, nat_tests)

-- a group in which no row has this name
pub has_node-absent : (p first : ℕ) (name : List ℕ) (rows : List ConfRow) → ((j : ℕ) → (row_at rows j).parent ≡ Some p → bytes_eq (row_at rows j).name name ≡ false) → has_node name (group_in_rows p first rows) ≡ false
has_node-absent p first name [] none = refl
has_node-absent p first name (row ∷ rows) none =
    let rest = has_node-absent p (suc first) name rows (λ j is. none (suc j) is) in
    elim (cases_Bool (is_in p row.parent)) [ inl is ↦ rw (is, none 0 (is_in-true p row.parent is), rest) refl | inr is ↦ rw is rest ]

-- the row of this index, which is the last of its name in a group; its number is e
pub record IsAt (p : ℕ) (name : List ℕ) (e first k : ℕ) (rows : List ConfRow) : Type 0 where
  pub number : e ≡ first + k
  pub inside : k < length rows
  pub parent : (row_at rows k).parent ≡ Some p
  pub name_is : (row_at rows k).name ≡ name
  pub last : has_node name (group_in_rows p (suc e) (drop (suc k) rows)) ≡ false

at-next : (p : ℕ) (name : List ℕ) (e first k : ℕ) (row : ConfRow) (rows : List ConfRow) → IsAt p name e first (suc k) (row ∷ rows) → IsAt p name e (suc first) k rows
at-next p name e first k row rows at = record { number = omega arith; inside = omega arith; parent = at.parent; name_is = at.name_is; last = at.last }

-- its name is in the group
pub has_node-at : (p : ℕ) (name : List ℕ) (e first k : ℕ) (rows : List ConfRow) → IsAt p name e first k rows → has_node name (group_in_rows p first rows) ≡ true
has_node-at p name e first k [] at = absurd (omega arith)
has_node-at p name e first zero (row ∷ rows) at =
    let named : bytes_eq row.name name ≡ true = rw at.name_is (bytes_eq-self name) in
    rw (is_in-Some p row.parent at.parent, named) refl
has_node-at p name e first (suc k) (row ∷ rows) at =
    let rest = has_node-at p name e (suc first) k rows (at-next p name e first k row rows at) in
    elim (cases_Bool (is_in p row.parent)) [ inl is ↦ rw (is, rest) (or_right (bytes_eq row.name name) true refl) | inr is ↦ rw is rest ]

-- and has its node
pub get-at : (p : ℕ) (name : List ℕ) (e first k : ℕ) (rows : List ConfRow) → IsAt p name e first k rows → get name (group_in_rows p first rows) ≡ Some (node (row_at rows k).value (group_in_rows e (suc e) (drop (suc k) rows)))
get-at p name e first k [] at = absurd (omega arith)
get-at p name e first zero (row ∷ rows) at =
    let named : bytes_eq row.name name ≡ true = rw at.name_is (bytes_eq-self name) in
    let here : first ≡ e = omega arith in
    let last : has_node name (group_in_rows p (suc first) rows) ≡ false = ap (λ n. has_node name (group_in_rows p (suc n) rows)) here ∙ at.last in
    rw (is_in-Some p row.parent at.parent, last, named) (ap (λ n. Some (node row.value (group_in_rows n (suc n) rows))) here)
get-at p name e first (suc k) (row ∷ rows) at =
    let next = at-next p name e first k row rows at in
    let rest = get-at p name e (suc first) k rows next in
    elim (cases_Bool (is_in p row.parent)) [ inl is ↦ rw (is, has_node-at p name e (suc first) k rows next) rest | inr is ↦ rw is rest ]

-- a number is that of a group, or that of a row in the group or in a group in it
pub reaches : ℕ → ℕ → ℕ → List ConfRow → Bool
reaches q d first [] = q == d
reaches q d first (row ∷ rows) = cond (is_in d row.parent) (reaches q first (suc first) rows || reaches q d (suc first) rows) (reaches q d (suc first) rows)

cond-true : (b c : Bool) → cond b (c || true) true ≡ true
cond-true b c = grind (arith, nat_tests)

pub reaches-self : (q first : ℕ) (rows : List ConfRow) → reaches q q first rows ≡ true
unfolding reaches
reaches-self q first [] = grind (arith, nat_tests)
reaches-self q first (row ∷ rows) = rw (reaches-self q (suc first) rows) (cond-true (is_in q row.parent) (reaches q first (suc first) rows))

-- no number is below two groups of which neither is below the other
reaches-one : (q d e first : ℕ) (rows : List ConfRow) → (d ≡ e → ⊥) → d < first → e < first → reaches q d first rows ≡ true → reaches q e first rows ≡ false
unfolding reaches
reaches-one q d e first [] differ low lower is = grind (arith, nat_tests)
reaches-one q d e first (row ∷ rows) differ low lower is = by_tests (λ x y. reaches-one q x y (suc first) rows) (is_in d row.parent) (is_in e row.parent) refl refl is
  where
    by_tests : ((x y : ℕ) → (x ≡ y → ⊥) → x < suc first → y < suc first → reaches q x (suc first) rows ≡ true → reaches q y (suc first) rows ≡ false)
        → (b c : Bool) → is_in d row.parent ≡ b → is_in e row.parent ≡ c → cond b (reaches q first (suc first) rows || reaches q d (suc first) rows) (reaches q d (suc first) rows) ≡ true
        → cond c (reaches q first (suc first) rows || reaches q e (suc first) rows) (reaches q e (suc first) rows) ≡ false
    by_tests again b c in_d in_e is = grind (arith, nat_tests)

-- an earlier number isn't below a later one
reaches-later : (q d first : ℕ) (rows : List ConfRow) → (q ≡ d → ⊥) → q < first → reaches q d first rows ≡ false
unfolding reaches
reaches-later q d first [] differ low = grind (arith, nat_tests)
reaches-later q d first (row ∷ rows) differ low =
    let inner = reaches-later q first (suc first) rows (λ same. omega arith) (omega arith) in
    let rest = reaches-later q d (suc first) rows differ (omega arith) in
    elim (cases_Bool (is_in d row.parent)) [ inl is ↦ rw (is, inner, rest) refl | inr is ↦ rw is rest ]

-- what is below a row is below the group that the row is in
pub reaches-at : (q p : ℕ) (name : List ℕ) (e first k : ℕ) (rows : List ConfRow) → IsAt p name e first k rows → reaches q e (suc e) (drop (suc k) rows) ≡ true → reaches q p first rows ≡ true
unfolding reaches
reaches-at q p name e first k [] at below = absurd (omega arith)
reaches-at q p name e first zero (row ∷ rows) at below =
    let here : first ≡ e = omega arith in
    let there : reaches q first (suc first) rows ≡ true = ap (λ n. reaches q n (suc n) rows) here ∙ below in
    rw (is_in-Some p row.parent at.parent, there) refl
reaches-at q p name e first (suc k) (row ∷ rows) at below =
    rw (reaches-at q p name e (suc first) k rows (at-next p name e first k row rows at) below) (cond-true (is_in p row.parent) (reaches q first (suc first) rows))

alters-next : (q : ℕ) (r s : ConfRow) (old new : List ConfRow) → Alters q (r ∷ old) (s ∷ new) → Alters q old new
alters-next q r s old new a = record { longer = let h = a.longer in omega arith; each = λ j. a.each (suc j) }

alters-nil : (q : ℕ) (s : ConfRow) (new : List ConfRow) → Alters q [] (s ∷ new) → Alters q [] new
alters-nil q s new a = record { longer = omega arith; each = λ j. a.each (suc j) }

apart-differ : (q d first : ℕ) (rows : List ConfRow) → reaches q d first rows ≡ false → d ≡ q → ⊥
apart-differ q d first rows apart same =
    let self = reaches-self q first rows in
    let other : reaches q q first rows ≡ false = subst (λ x. reaches q x first rows ≡ false) same apart in
    cc

-- a group that q isn't below stays as it is
pub within-kept : (q d first : ℕ) (old new : List ConfRow) → Alters q old new → reaches q d first old ≡ false → group_in_rows d first new ≡ group_in_rows d first old
unfolding reaches
within-kept q d first [] [] a apart = refl
within-kept q d first [] (s ∷ new) a apart =
    let differ : d ≡ q → ⊥ = λ same. apart-differ q d first [] apart same in
    let out : is_in d s.parent ≡ false = elim (a.each 0) [ inl same ↦ ap (λ (x : ConfRow). is_in d x.parent) (sym same) | inr only ↦ only.1 d differ ] in
    rw out (within-kept q d (suc first) [] new (alters-nil q s new a) apart)
within-kept q d first (r ∷ old) [] a apart = let h = a.longer in absurd (omega arith)
within-kept q d first (r ∷ old) (s ∷ new) a apart =
    let again : (x : ℕ) → reaches q x (suc first) old ≡ false → group_in_rows x (suc first) new ≡ group_in_rows x (suc first) old = λ x h. within-kept q x (suc first) old new (alters-next q r s old new a) h in
    elim (a.each 0) [
      | inl same ↦ elim (cases_Bool (is_in d r.parent)) [
        | inl is ↦
            let parts = or_parts (reaches q first (suc first) old) (reaches q d (suc first) old) (rw is at apart) in
            rw (← same, is) (ap₂ (λ inner rest. entry r.name (node r.value inner) rest) (again first parts.0) (again d parts.1))
        | inr is ↦ rw (← same, is) (again d (rw is at apart))
      ]
      | inr only ↦
          let differ : d ≡ q → ⊥ = λ same. apart-differ q d first (r ∷ old) apart same in
          rw (only.1 d differ, only.0 d differ) (again d (rw (only.0 d differ) at apart))
    ]

-- a group has the new group of its row, below which the change is
pub within-child : (q d : ℕ) (name : List ℕ) (e first k : ℕ) (old new : List ConfRow) → Alters q old new → IsAt d name e first k old → (row_at old k).value ≡ None → (d ≡ q → ⊥) → d < first → reaches q e (suc e) (drop (suc k) old) ≡ true
    → group_in_rows d first new ≡ tree.set name (group (group_in_rows e (suc e) (drop (suc k) new))) (group_in_rows d first old)
within-child q d name e first k [] new a at is_group differ low below = absurd (omega arith)
within-child q d name e first k (r ∷ old) [] a at is_group differ low below = let h = a.longer in absurd (omega arith)
within-child q d name e first zero (r ∷ old) (s ∷ new) a at is_group differ low below =
    let inside : is_in d r.parent ≡ true = is_in-Some d r.parent at.parent in
    let here : first ≡ e = omega arith in
    let apart : reaches q d (suc first) old ≡ false = ap (λ n. reaches q d (suc n) old) here ∙ reaches-one q e d (suc e) old (λ same. omega arith) (omega arith) (omega arith) below in
    let rest : group_in_rows d (suc first) new ≡ group_in_rows d (suc first) old = within-kept q d (suc first) old new (alters-next q r s old new a) apart in
    let last : has_node name (group_in_rows d (suc first) old) ≡ false = ap (λ n. has_node name (group_in_rows d (suc n) old)) here ∙ at.last in
    let named : bytes_eq r.name name ≡ true = rw at.name_is (bytes_eq-self name) in
    elim (a.each 0) [
      | inl same ↦ rw (← same, inside, is_group, last, named) (ap₂ (λ n more. entry r.name (group (group_in_rows n (suc n) new)) more) here rest)
      | inr only ↦ let out = only.0 d differ in cc
    ]
within-child q d name e first (suc k) (r ∷ old) (s ∷ new) a at is_group differ low below =
    let next = at-next d name e first k r old at in
    let under : reaches q d (suc first) old ≡ true = reaches-at q d name e (suc first) k old next below in
    let apart : reaches q first (suc first) old ≡ false = reaches-one q d first (suc first) old (λ same. omega arith) (omega arith) (omega arith) under in
    let inner = within-kept q first (suc first) old new (alters-next q r s old new a) apart in
    let rest = within-child q d name e (suc first) k old new (alters-next q r s old new a) next is_group differ (omega arith) below in
    elim (a.each 0) [
      | inl same ↦ elim (cases_Bool (is_in d r.parent)) [
        | inl is ↦ rw (← same, is, has_node-at d name e (suc first) k old next) (ap₂ (λ i more. entry r.name (node r.value i) more) inner rest)
        | inr is ↦ rw (← same, is) rest
      ]
      | inr only ↦ rw (only.1 d differ, only.0 d differ) rest
    ]

-- one row more changes its own group
each-push : (q : ℕ) (row : ConfRow) → row.parent ≡ Some q → (rows : List ConfRow) (j : ℕ) → (row_at rows j ≡ row_at (rows ++ row ∷ []) j) ⊎ (IsOnlyIn q (row_at rows j) × IsOnlyIn q (row_at (rows ++ row ∷ []) j))
each-push q row parent [] zero = inr (λ d differ. refl, λ d differ. is_in-one q d row.parent (λ same. differ (sym same)) (is_in-Some q row.parent parent))
each-push q row parent [] (suc j) = inl refl
each-push q row parent (r ∷ rows) zero = inl refl
each-push q row parent (r ∷ rows) (suc j) = each-push q row parent rows j

pub Alters-push : (q : ℕ) (row : ConfRow) (rows : List ConfRow) → row.parent ≡ Some q → Alters q rows (rows ++ row ∷ [])
Alters-push q row rows parent = record { longer = omega (arith, length-append rows (row ∷ [])); each = each-push q row parent rows }

pub within-push : (q first : ℕ) (row : ConfRow) (rows : List ConfRow) → row.parent ≡ Some q → q < first → has_node row.name (group_in_rows q first rows) ≡ false → group_in_rows q first (rows ++ row ∷ []) ≡ tree.set row.name (node row.value empty) (group_in_rows q first rows)
within-push q first row [] parent low none = rw (is_in-Some q row.parent parent) refl
within-push q first row (r ∷ rows) parent low none =
    let inner = within-kept q first (suc first) rows (rows ++ row ∷ []) (Alters-push q row rows parent) (reaches-later q first (suc first) rows (λ same. omega arith) (omega arith)) in
    elim (cases_Bool (is_in q r.parent)) [
      | inl is ↦
          let parts = or_parts (bytes_eq r.name row.name) (has_node row.name (group_in_rows q (suc first) rows)) (rw is at none) in
          rw (is, parts.1, parts.0) (ap₂ (λ i more. entry r.name (node r.value i) more) inner (within-push q (suc first) row rows parent (omega arith) parts.1))
      | inr is ↦ rw is (within-push q (suc first) row rows parent (omega arith) (rw is at none))
    ]

-- another row in the place of one of a group changes that group
each-set : (q : ℕ) (s : ConfRow) → IsOnlyIn q s → (rows : List ConfRow) (k : ℕ) → IsOnlyIn q (row_at rows k) → (j : ℕ) → (row_at rows j ≡ row_at (common.set rows k s) j) ⊎ (IsOnlyIn q (row_at rows j) × IsOnlyIn q (row_at (common.set rows k s) j))
each-set q s only [] k was j = inl refl
each-set q s only (r ∷ rows) zero was zero = inr (was, only)
each-set q s only (r ∷ rows) zero was (suc j) = inl refl
each-set q s only (r ∷ rows) (suc k) was zero = inl refl
each-set q s only (r ∷ rows) (suc k) was (suc j) = each-set q s only rows k was j

pub only-Some : (q : ℕ) (row : ConfRow) → row.parent ≡ Some q → IsOnlyIn q row
only-Some q row parent = λ d differ. is_in-one q d row.parent (λ same. differ (sym same)) (is_in-Some q row.parent parent)

pub only-None : (q : ℕ) (row : ConfRow) → row.parent ≡ None → IsOnlyIn q row
only-None q row parent = λ d differ. ap (is_in d) parent

pub Alters-set : (q k : ℕ) (s : ConfRow) (rows : List ConfRow) → (row_at rows k).parent ≡ Some q → IsOnlyIn q s → Alters q rows (common.set rows k s)
Alters-set q k s rows was only = record { longer = omega (arith, length-set rows k s); each = each-set q s only rows k (only-Some q (row_at rows k) was) }

pub within-set : (q : ℕ) (name : List ℕ) (e first k : ℕ) (s : ConfRow) (t : List ℕ) (rows : List ConfRow) → IsAt q name e first k rows → q < first → s.parent ≡ Some q → s.name ≡ (row_at rows k).name → s.value ≡ Some t
    → group_in_rows q first (common.set rows k s) ≡ tree.set name (text t) (group_in_rows q first rows)
within-set q name e first k s t [] at low parent same value = absurd (omega arith)
within-set q name e first zero s t (r ∷ rows) at low parent same value =
    let here : first ≡ e = omega arith in
    let last : has_node name (group_in_rows q (suc first) rows) ≡ false = ap (λ n. has_node name (group_in_rows q (suc n) rows)) here ∙ at.last in
    let named : bytes_eq r.name name ≡ true = rw at.name_is (bytes_eq-self name) in
    rw (is_in-Some q s.parent parent, is_in-Some q r.parent at.parent, value, last, named) (ap (λ n. entry n (text t) (group_in_rows q (suc first) rows)) same)
within-set q name e first (suc k) s t (r ∷ rows) at low parent same value =
    let next = at-next q name e first k r rows at in
    let inner = within-kept q first (suc first) rows (common.set rows k s) (Alters-set q k s rows at.parent (only-Some q s parent)) (reaches-later q first (suc first) rows (λ same. omega arith) (omega arith)) in
    let rest = within-set q name e (suc first) k s t rows next (omega arith) parent same value in
    elim (cases_Bool (is_in q r.parent)) [
      | inl is ↦ rw (is, has_node-at q name e (suc first) k rows next) (ap₂ (λ i more. entry r.name (node r.value i) more) inner rest)
      | inr is ↦ rw is rest
    ]

-- a row that is taken out of its group
pub without-removed : (q : ℕ) (name : List ℕ) (e first k : ℕ) (s : ConfRow) (rows : List ConfRow) → IsAt q name e first k rows → q < first → s.parent ≡ None → without_name name (group_in_rows q first (common.set rows k s)) ≡ without_name name (group_in_rows q first rows)
without-removed q name e first k s [] at low parent = absurd (omega arith)
without-removed q name e first zero s (r ∷ rows) at low parent =
    let named : bytes_eq r.name name ≡ true = rw at.name_is (bytes_eq-self name) in
    let out : is_in q s.parent ≡ false = ap (is_in q) parent in
    rw (out, is_in-Some q r.parent at.parent, named) refl
without-removed q name e first (suc k) s (r ∷ rows) at low parent =
    let next = at-next q name e first k r rows at in
    let inner = within-kept q first (suc first) rows (common.set rows k s) (Alters-set q k s rows at.parent (only-None q s parent)) (reaches-later q first (suc first) rows (λ same. omega arith) (omega arith)) in
    let rest = without-removed q name e (suc first) k s rows next (omega arith) parent in
    elim (cases_Bool (is_in q r.parent)) [
      | inl is ↦ rw is (ap₂ (λ i w. cond (bytes_eq r.name name) w (entry r.name (node r.value i) w)) inner rest)
      | inr is ↦ rw is rest
    ]
