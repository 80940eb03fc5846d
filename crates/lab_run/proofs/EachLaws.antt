-- The lines of an actor in a phase, and the lines of all actors of a kind: there is always one way to do them, and where the phase leaves
-- no choice there is but one.
use Rattle.lab_run.specs.Prelude.{ap, arith, inl, inr, refl, subst, sym, ℕ, ◌+◌, ◌∙◌, ◌≡◌, ◌≤◌, ◌⊎◌, nat_tests, Contains, false, List, map, [], ⊤, ◌++◌, ◌∷◌}
use Rattle.lab_run.specs.Prelude.{Geometry, Op, Answer, Row, IsStill, reaped_client, reaped_reader, each_text, EachMay, Kind, line_text, LineMay, lines_text}
use Rattle.lab_run.specs.Prelude.{LinesMay, AtPort, CardEnd, Rules}
use Rattle.lab_run.proofs.ActorKinds.{IsKind}
use Rattle.lab_run.proofs.CourseExists.{May-text}
use Rattle.lab_run.proofs.CourseUnique.{May-more, May-only}

-- the card publishes the position at the phase's end
abbrev pub IsPublished : Rules → Type 0
IsPublished rules = Contains rules.published rules.at.position

-- ---- there is a way

record LineExists {S : Type 0} (kind : Kind S) (rules : Rules) (before : AtPort × S) (asked : Op) : Type 0 where
  pub may : LineMay kind rules before asked (line_text kind rules.at before asked).0 (line_text kind rules.at before asked).1
  pub seen : (line_text kind rules.at before asked).0.0.seen ≤ rules.at.position
  pub unstopped : (line_text kind rules.at before asked).0.0.by_gate ≡ before.0.by_gate

line-exists : {S : Type 0} (kind : Kind S) → IsKind kind → (rules : Rules) → IsPublished rules → (before : AtPort × S) (asked : Op)
    → before.0.seen ≤ rules.at.position → LineExists kind rules before asked
line-exists kind is rules published (a, s) asked low =
    let same : (kind.begins s asked a).seen ≡ a.seen = is.seen s asked a in
    let step = May-text rules (kind.begins s asked a) (kind.course (kind.begins s asked a) s asked) (record { published = published; seen = omega arith }) in
    record { may = step.may; seen = step.seen; unstopped = step.unstopped ∙ is.by_gate s asked a }

pub record LinesExist {S : Type 0} (kind : Kind S) (rules : Rules) (before : AtPort × S) (ops : List Op) : Type 0 where
  pub may : LinesMay kind rules before ops (lines_text kind rules.at before ops).0 (lines_text kind rules.at before ops).1
  pub seen : (lines_text kind rules.at before ops).0.0.seen ≤ rules.at.position
  pub unstopped : (lines_text kind rules.at before ops).0.0.by_gate ≡ before.0.by_gate

pub lines-exist : {S : Type 0} (kind : Kind S) → IsKind kind → (rules : Rules) → IsPublished rules → (before : AtPort × S) (ops : List Op)
    → before.0.seen ≤ rules.at.position → LinesExist kind rules before ops
lines-exist kind is rules published before [] low = record { may = (refl, refl); seen = low; unstopped = refl }
lines-exist kind is rules published before (asked ∷ more) low =
    let one = line-exists kind is rules published before asked low in
    let others = lines-exist kind is rules published (line_text kind rules.at before asked).0 more one.seen in
    record {
      may = ((line_text kind rules.at before asked).0, (line_text kind rules.at before asked).1, (lines_text kind rules.at (line_text kind rules.at before asked).0 more).1, one.may, others.may, refl);
      seen = others.seen;
      unstopped = others.unstopped ∙ one.unstopped;
    }

-- none of these actors, the first of which has a number, saw a position past one, and of the stops by each one's own gate a fact holds
abbrev pub AreBehind : {S : Type 0} → (ℕ → ℕ → Type 0) → ℕ → ℕ → List (AtPort × S) → Type 0
AreBehind Q position number [] = ⊤
AreBehind Q position number (actor ∷ actors) =
    (actor.0.seen ≤ position) × Q number actor.0.by_gate × AreBehind Q position (number + 1) actors

pub record EachExist {S : Type 0} (Q : ℕ → ℕ → Type 0) (kind : ℕ → Kind S) (rules : Rules) (ops : ℕ → List Op) (number : ℕ) (actors : List (AtPort × S)) : Type 0 where
  pub may : EachMay kind rules ops number actors (each_text kind rules.at ops number actors).0 (each_text kind rules.at ops number actors).1
  pub seen : AreBehind Q rules.at.position number (each_text kind rules.at ops number actors).0

pub each-exist : {S : Type 0} (Q : ℕ → ℕ → Type 0) (kind : ℕ → Kind S) → ((n : ℕ) → IsKind (kind n)) → (rules : Rules) → IsPublished rules
    → (ops : ℕ → List Op) (number : ℕ) (actors : List (AtPort × S)) → AreBehind Q rules.at.position number actors → EachExist Q kind rules ops number actors
each-exist Q kind is rules published ops number [] low = record { may = (refl, refl); seen = tt }
each-exist Q kind is rules published ops number (actor ∷ actors) low =
    let one = lines-exist (kind number) (is number) rules published actor (ops number) low.0 in
    let others = each-exist Q kind is rules published ops (number + 1) actors low.2 in
    record {
      may = (
        (lines_text (kind number) rules.at actor (ops number)).0,
        (each_text kind rules.at ops (number + 1) actors).0,
        (lines_text (kind number) rules.at actor (ops number)).1,
        (each_text kind rules.at ops (number + 1) actors).1,
        one.may,
        others.may,
        refl,
        refl,
      );
      seen = (one.seen, subst (Q number) (sym one.unstopped) low.1, others.seen);
    }

-- ---- where the phase leaves no choice there is but one

lines-more : {S : Type 0} (kind : Kind S) → IsKind kind → (rules : Rules) (before after : AtPort × S) (ops : List Op) (rows : List Row)
    → LinesMay kind rules before ops after rows → before.0.by_gate ≤ after.0.by_gate
lines-more kind is rules before after [] rows (same, none) = rw same (omega arith)
lines-more kind is rules (a, s) after (asked ∷ more) rows (between, answer, others, step, rest, all) =
    let begun : (kind.begins s asked a).by_gate ≡ a.by_gate = is.by_gate s asked a in
    let one = May-more rules (kind.begins s asked a) between.0 (kind.course (kind.begins s asked a) s asked) (between.1, answer) step in
    let two = lines-more kind is rules between after more others rest in
    omega (arith, begun, one, two)

line-only : {S : Type 0} (kind : Kind S) → IsKind kind → (rules : Rules) → IsStill rules → (before after : AtPort × S) (asked : Op) (answer : Answer)
    → after.0.by_gate ≡ before.0.by_gate → LineMay kind rules before asked after answer → (after, answer) ≡ line_text kind rules.at before asked
line-only kind is rules still (a, s) (b, t) asked answer same may =
    let end = May-only rules false (kind.begins s asked a) b (kind.course (kind.begins s asked a) s asked) (t, answer) still
    (is.first (kind.begins s asked a) s asked) (λ loaded. absurd (cc)) (same ∙ sym (is.by_gate s asked a)) may in
    ap (λ e. ((e.0, e.1.0), e.1.1)) end

-- the rest of some lines, by what the first gave
abbrev next_text : {S : Type 0} → Kind S → CardEnd → Op → List Op → (AtPort × S) × Answer → (AtPort × S) × List Row
next_text kind card asked more done = let others = lines_text kind card done.0 more in (others.0, kind.row asked done.0.1 done.1 ∷ others.1)

lines-only : {S : Type 0} (kind : Kind S) → IsKind kind → (rules : Rules) → IsStill rules → (before after : AtPort × S) (ops : List Op) (rows : List Row)
    → after.0.by_gate ≡ before.0.by_gate → LinesMay kind rules before ops after rows → (after, rows) ≡ lines_text kind rules.at before ops
lines-only kind is rules still before after [] rows same (here, none) = λ i. (here i, none i)
lines-only kind is rules still (a, s) after (asked ∷ more) rows same (between, answer, others, step, rest, all) =
    let begun : (kind.begins s asked a).by_gate ≡ a.by_gate = is.by_gate s asked a in
    let one = May-more rules (kind.begins s asked a) between.0 (kind.course (kind.begins s asked a) s asked) (between.1, answer) step in
    let two = lines-more kind is rules between after more others rest in
    let here : (between, answer) ≡ line_text kind rules.at (a, s) asked =
    line-only kind is rules still (a, s) between asked answer (omega (arith, begun, one, two, same)) step in
    let there : (after, others) ≡ lines_text kind rules.at between more =
    lines-only kind is rules still between after more others (omega (arith, begun, one, two, same)) rest in
    ap (λ r. (after, r)) all ∙ ap (λ e. (e.0, kind.row asked between.1 answer ∷ e.1)) there ∙ ap (next_text kind rules.at asked more) here

-- no actor's own gate stopped it between two moments
abbrev pub NoneStopped : {S : Type 0} → List (AtPort × S) → List (AtPort × S) → Type 0
NoneStopped [] after = ⊤
NoneStopped (before ∷ actors) [] = ⊤
NoneStopped (before ∷ actors) (own ∷ after) = (own.0.by_gate ≡ before.0.by_gate) × NoneStopped actors after

-- an actor without a line is as it was, whatever the phase allows
lines-only-or : {S : Type 0} (kind : Kind S) → IsKind kind → (rules : Rules) (before after : AtPort × S) (ops : List Op) (rows : List Row)
    → (ops ≡ []) ⊎ IsStill rules → after.0.by_gate ≡ before.0.by_gate → LinesMay kind rules before ops after rows → (after, rows) ≡ lines_text kind rules.at before ops
lines-only-or kind is rules before after ops rows (inr still) same may = lines-only kind is rules still before after ops rows same may
lines-only-or kind is rules before after [] rows (inl none) same (here, no_rows) = λ i. (here i, no_rows i)
lines-only-or kind is rules before after (asked ∷ more) rows (inl none) same may = absurd (cc)

pub each-only : {S : Type 0} (kind : ℕ → Kind S) → ((n : ℕ) → IsKind (kind n)) → (rules : Rules) (ops : ℕ → List Op)
    → ((n : ℕ) → (ops n ≡ []) ⊎ IsStill rules) → (number : ℕ) (actors after : List (AtPort × S)) (rows : List Row)
    → NoneStopped actors after → EachMay kind rules ops number actors after rows → (after, rows) ≡ each_text kind rules.at ops number actors
each-only kind is rules ops still number [] after rows same (here, none) = λ i. (here i, none i)
each-only kind is rules ops still number (actor ∷ actors) after rows same (own, others, own_rows, other_rows, may, rest, after_is, rows_are) =
    let none : NoneStopped (actor ∷ actors) (own ∷ others) = rw after_is at same in
    let here : (own, own_rows) ≡ lines_text (kind number) rules.at actor (ops number) =
    lines-only-or (kind number) (is number) rules actor own (ops number) own_rows (still number) none.0 may in
    let there : (others, other_rows) ≡ each_text kind rules.at ops (number + 1) actors =
    each-only kind is rules ops still (number + 1) actors others other_rows none.1 rest in
    (λ i. (after_is i, rows_are i)) ∙ ap (λ e. (e.0 ∷ others, e.1 ++ other_rows)) here
    ∙ ap (λ e. ((lines_text (kind number) rules.at actor (ops number)).0 ∷ e.0, (lines_text (kind number) rules.at actor (ops number)).1 ++ e.1)) there

-- stops by the actors' own gates are never taken back
abbrev pub StopsGrow : {S : Type 0} → List (AtPort × S) → List (AtPort × S) → Type 0
StopsGrow [] [] = ⊤
StopsGrow [] (own ∷ after) = ⊥
StopsGrow (before ∷ actors) [] = ⊥
StopsGrow (before ∷ actors) (own ∷ after) = (before.0.by_gate ≤ own.0.by_gate) × StopsGrow actors after

pub grow-refl : {S : Type 0} (actors : List (AtPort × S)) → StopsGrow actors actors
grow-refl [] = tt
grow-refl (actor ∷ actors) = (omega arith, grow-refl actors)

pub grow-then : {S : Type 0} (xs ys zs : List (AtPort × S)) → StopsGrow xs ys → StopsGrow ys zs → StopsGrow xs zs
grow-then [] [] zs one two = two
grow-then [] (y ∷ ys) zs one two = elim one [ ]
grow-then (x ∷ xs) [] zs one two = elim one [ ]
grow-then (x ∷ xs) (y ∷ ys) [] one two = elim two [ ]
grow-then (x ∷ xs) (y ∷ ys) (z ∷ zs) one two = (omega (arith, one.0, two.0), grow-then xs ys zs one.1 two.1)

-- where none was stopped in all, none was in a part
pub none-between : {S : Type 0} (xs ys zs : List (AtPort × S)) → StopsGrow xs ys → StopsGrow ys zs → NoneStopped xs zs → NoneStopped xs ys × NoneStopped ys zs
none-between [] [] zs one two none = (tt, tt)
none-between [] (y ∷ ys) zs one two none = elim one [ ]
none-between (x ∷ xs) [] zs one two none = elim one [ ]
none-between (x ∷ xs) (y ∷ ys) [] one two none = elim two [ ]
none-between (x ∷ xs) (y ∷ ys) (z ∷ zs) one two none =
    let rest = none-between xs ys zs one.1 two.1 none.1 in
    ((omega (arith, one.0, two.0, none.0), rest.0), (omega (arith, one.0, two.0, none.0), rest.1))

pub each-grow : {S : Type 0} (kind : ℕ → Kind S) → ((n : ℕ) → IsKind (kind n)) → (rules : Rules) (ops : ℕ → List Op) (number : ℕ)
    (actors after : List (AtPort × S)) (rows : List Row) → EachMay kind rules ops number actors after rows → StopsGrow actors after
each-grow kind is rules ops number [] after rows (same, none) = rw same tt
each-grow kind is rules ops number (actor ∷ actors) after rows (own, others, own_rows, other_rows, may, rest, after_is, rows_are) =
    rw after_is (lines-more (kind number) (is number) rules actor own (ops number) own_rows may, each-grow kind is rules ops (number + 1) actors others other_rows rest)

-- ---- actors that are reaped

-- a port is as it was, or new: it saw no more, and its own gate stopped it as often
pub record KeepsPort (a b : AtPort) : Type 0 where
  pub seen : b.seen ≤ a.seen
  pub by_gate : b.by_gate ≡ a.by_gate

-- so is each actor's
abbrev pub KeepsPorts : {S : Type 0} → (AtPort × S → AtPort × S) → Type 0
KeepsPorts {S} f = (x : AtPort × S) → KeepsPort x.0 (f x).0

pub reaped_client-keeps : (ring : Geometry) → KeepsPorts (reaped_client ring)
reaped_client-keeps ring x = grind (arith, nat_tests)

pub reaped_reader-keeps : (ring : Geometry) → KeepsPorts (reaped_reader ring)
reaped_reader-keeps ring x = grind (arith, nat_tests)

pub behind-map : {S : Type 0} (f : AtPort × S → AtPort × S) → KeepsPorts f → (Q : ℕ → ℕ → Type 0) (p number : ℕ) (actors : List (AtPort × S))
    → AreBehind Q p number actors → AreBehind Q p number (map f actors)
behind-map f keeps Q p number [] low = tt
behind-map f keeps Q p number (x ∷ actors) low =
    (omega (arith, (keeps x).seen, low.0), subst (Q number) (sym (keeps x).by_gate) low.1, behind-map f keeps Q p (number + 1) actors low.2)

pub grow-map : {S : Type 0} (f : AtPort × S → AtPort × S) → KeepsPorts f → (actors : List (AtPort × S)) → StopsGrow actors (map f actors)
grow-map f keeps [] = tt
grow-map f keeps (x ∷ actors) = (omega (arith, (keeps x).by_gate), grow-map f keeps actors)
