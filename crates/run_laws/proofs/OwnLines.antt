-- The rows of one actor among those of a phase, where the phase leaves no choice.
use Rattle.run_laws.specs.Prelude.{ap, arith, length, List, refl, subst, sym, ℕ, [], ◌++◌, ◌+◌, ◌<◌, ◌∙◌, ◌∷◌, ◌≡◌, ◌≤◌, eq-eqb, nat_tests, append-nil}
use Rattle.run_laws.specs.Prelude.{append_assoc, map-append, filter-append, Bool, false, filter, if◌then◌else◌, map, nat_eq, slice_index_or, suc, true, zero}
use Rattle.run_laws.specs.Prelude.{Actor, Card, Op, Answer, Row, played_by, with_numbers, each_text, EachMay, Kind, line_text, lines_text, LinesMay, answers_of}
use Rattle.run_laws.specs.Prelude.{is_opening, NoneOpen, rows_by, card_row, card_rows, AtPort, CardEnd, Rules}
use Rattle.lab_lines.specs.declared.line.Op.TheVariants as op

-- one row before others, of this actor or of another
row-more : (is_theirs : Actor → Bool) (b : Bool) (row : Row) (rows : List Row) → is_theirs row.actor ≡ b → rows_by is_theirs rows ≡ (if b then rows else [])
    → rows_by is_theirs (row ∷ rows) ≡ (if b then row ∷ rows else [])
row-more is_theirs true row rows is rest = rw is (ap (λ r. row ∷ r) rest)
row-more is_theirs false row rows is rest = rw is rest

rows-none : (b : Bool) → ◌≡◌ {A = List Row} [] (if b then [] else [])
rows-none true = refl
rows-none false = refl

-- one row behind others, of another actor and of this one
row-behind : (is_theirs : Actor → Bool) (b : Bool) (rows : List Row) (row : Row) → is_theirs row.actor ≡ b
    → rows_by is_theirs (rows ++ row ∷ []) ≡ rows_by is_theirs rows ++ (if b then row ∷ [] else [])
row-behind is_theirs b rows row is = filter-append _ rows (row ∷ []) ∙ ap (λ r. rows_by is_theirs rows ++ r) (row-more is_theirs b row [] is (rows-none b))

pub other-row : (is_theirs : Actor → Bool) (rows : List Row) (row : Row) → is_theirs row.actor ≡ false → rows_by is_theirs (rows ++ row ∷ []) ≡ rows_by is_theirs rows
other-row is_theirs rows row is = row-behind is_theirs false rows row is ∙ append-nil (rows_by is_theirs rows)

pub own-row : (is_theirs : Actor → Bool) (rows : List Row) (row : Row) → is_theirs row.actor ≡ true → rows_by is_theirs (rows ++ row ∷ []) ≡ rows_by is_theirs rows ++ row ∷ []
own-row is_theirs rows row is = row-behind is_theirs true rows row is

-- the rows of an actor's lines are all this actor's, or none
text-rows : {S : Type 0} (is_theirs : Actor → Bool) (b : Bool) (kind : Kind S) (card : CardEnd) (x : AtPort × S) (ops : List Op)
    → ((asked : Op) (s : S) (answer : Answer) → is_theirs (kind.row asked s answer).actor ≡ b)
    → rows_by is_theirs (lines_text kind card x ops).1 ≡ (if b then (lines_text kind card x ops).1 else [])
text-rows is_theirs b kind card x [] is = rows-none b
text-rows is_theirs b kind card x (asked ∷ more) is = let done = line_text kind card x asked in
    row-more is_theirs b (kind.row asked done.0.1 done.1) (lines_text kind card done.0 more).1 (is asked done.0.1 done.1) (text-rows is_theirs b kind card done.0 more is)

may-rows : {S : Type 0} (is_theirs : Actor → Bool) (b : Bool) (kind : Kind S) (rules : Rules) (x y : AtPort × S) (ops : List Op) (rows : List Row)
    → ((asked : Op) (s : S) (answer : Answer) → is_theirs (kind.row asked s answer).actor ≡ b) → LinesMay kind rules x ops y rows
    → rows_by is_theirs rows ≡ (if b then rows else [])
may-rows is_theirs b kind rules x y [] rows is (same, none) = rw none (rows-none b)
may-rows is_theirs b kind rules x y (asked ∷ ops) rows is (between, answer, others, may, rest, are) =
    rw are (row-more is_theirs b (kind.row asked between.1 answer) others (is asked between.1 answer) (may-rows is_theirs b kind rules between y ops others is rest))

-- ---- the actors of a kind, by what the lines of each do

abbrev pub EachBy : {S : Type 0} → (ℕ → AtPort × S → AtPort × S → List Row → Type 0) → ℕ → List (AtPort × S) → List (AtPort × S) → List Row → Type 0
EachBy R number [] after rows = (after ≡ []) × (rows ≡ [])
EachBy {S = S} R number (x ∷ actors) after rows =
    (own : AtPort × S) × (others : List (AtPort × S)) × (own_rows : List Row) × (other_rows : List Row)
    × R number x own own_rows × EachBy R (number + 1) actors others other_rows × (after ≡ own ∷ others) × (rows ≡ own_rows ++ other_rows)

-- the lines of a phase that leaves no choice, and those of any
abbrev pub TextOf : {S : Type 0} → (ℕ → Kind S) → CardEnd → (ℕ → List Op) → ℕ → AtPort × S → AtPort × S → List Row → Type 0
TextOf kind card ops n x y rows = (y ≡ (lines_text (kind n) card x (ops n)).0) × (rows ≡ (lines_text (kind n) card x (ops n)).1)

abbrev pub MayOf : {S : Type 0} → (ℕ → Kind S) → Rules → (ℕ → List Op) → ℕ → AtPort × S → AtPort × S → List Row → Type 0
MayOf kind rules ops n x y rows = LinesMay (kind n) rules x (ops n) y rows

pub text-each : {S : Type 0} (kind : ℕ → Kind S) (card : CardEnd) (ops : ℕ → List Op) (number : ℕ) (actors : List (AtPort × S))
    → EachBy (TextOf kind card ops) number actors (each_text kind card ops number actors).0 (each_text kind card ops number actors).1
text-each kind card ops number [] = (refl, refl)
text-each kind card ops number (x ∷ actors) = (_, _, _, _, (refl, refl), text-each kind card ops (number + 1) actors, refl, refl)

pub may-each : {S : Type 0} (kind : ℕ → Kind S) (rules : Rules) (ops : ℕ → List Op) (number : ℕ) (actors after : List (AtPort × S)) (rows : List Row)
    → EachMay kind rules ops number actors after rows → EachBy (MayOf kind rules ops) number actors after rows
may-each kind rules ops number [] after rows may = may
may-each kind rules ops number (x ∷ actors) after rows (own, others, own_rows, other_rows, may, rest, same, are) =
    (own, others, own_rows, other_rows, may, may-each kind rules ops (number + 1) actors others other_rows rest, same, are)

-- the rows of the lines of a number are all this actor's, or none
abbrev pub HasRowsOf : {S : Type 0} → (Actor → Bool) → (ℕ → Bool) → (ℕ → AtPort × S → AtPort × S → List Row → Type 0) → Type 0
HasRowsOf {S = S} is_theirs is_own R = (m : ℕ) (x y : AtPort × S) (rows : List Row) → R m x y rows → rows_by is_theirs rows ≡ (if is_own m then rows else [])

-- a kind's rows of a number are this actor's exactly where a test of the number says so
abbrev pub AreOf : {S : Type 0} → (Actor → Bool) → (ℕ → Bool) → (ℕ → Kind S) → Type 0
AreOf {S = S} is_theirs is_own kind = (m : ℕ) (asked : Op) (s : S) (answer : Answer) → is_theirs ((kind m).row asked s answer).actor ≡ is_own m

pub text-of : {S : Type 0} (is_theirs : Actor → Bool) (is_own : ℕ → Bool) (kind : ℕ → Kind S) (card : CardEnd) (ops : ℕ → List Op) → AreOf is_theirs is_own kind
    → HasRowsOf is_theirs is_own (TextOf kind card ops)
text-of is_theirs is_own kind card ops are m x y rows (same, is) = rw is (text-rows is_theirs (is_own m) (kind m) card x (ops m) (are m))

pub may-of : {S : Type 0} (is_theirs : Actor → Bool) (is_own : ℕ → Bool) (kind : ℕ → Kind S) (rules : Rules) (ops : ℕ → List Op) → AreOf is_theirs is_own kind
    → HasRowsOf is_theirs is_own (MayOf kind rules ops)
may-of is_theirs is_own kind rules ops are m x y rows may = may-rows is_theirs (is_own m) (kind m) rules x y (ops m) rows (are m) may

module _ {S : Type 0} (is_theirs : Actor → Bool) (is_own : ℕ → Bool) (R : ℕ → AtPort × S → AtPort × S → List Row → Type 0) (has : HasRowsOf is_theirs is_own R) where
  -- the first rows, where they aren't this actor's
  past-first : (number : ℕ) (x own : AtPort × S) (own_rows other_rows rows : List Row) → is_own number ≡ false → R number x own own_rows → rows ≡ own_rows ++ other_rows
      → rows_by is_theirs rows ≡ rows_by is_theirs other_rows
  past-first number x own own_rows other_rows rows other does are =
      ap (rows_by is_theirs) are ∙ filter-append _ own_rows other_rows
      ∙ ap (λ r. r ++ rows_by is_theirs other_rows) (has number x own own_rows does ∙ ap (λ (b : Bool). if b then own_rows else []) other)

  -- actors from a number on none of which is this one
  pub each-other : (number : ℕ) (actors after : List (AtPort × S)) (rows : List Row) → ((m : ℕ) → number ≤ m → is_own m ≡ false) → EachBy R number actors after rows
      → rows_by is_theirs rows ≡ []
  each-other number [] after rows other (same, none) = rw none refl
  each-other number (x ∷ actors) after rows other (own, others, own_rows, other_rows, does, rest, same, are) =
      past-first number x own own_rows other_rows rows (other number (omega arith)) does are
      ∙ each-other (number + 1) actors others other_rows (λ m low. other m (omega (arith, low))) rest

pub each-size : {S : Type 0} (R : ℕ → AtPort × S → AtPort × S → List Row → Type 0) (number : ℕ) (actors after : List (AtPort × S)) (rows : List Row)
    → EachBy R number actors after rows → length after ≡ length actors
each-size R number [] after rows (same, none) = ap length same
each-size R number (x ∷ actors) after rows (own, others, own_rows, other_rows, does, rest, same, are) =
    ap length same ∙ ap suc (each-size R (number + 1) actors others other_rows rest)

-- the rows of the actor of a number, and the actor after them
pub record EachAt {S : Type 0} (is_theirs : Actor → Bool) (n : ℕ) (R : ℕ → AtPort × S → AtPort × S → List Row → Type 0) (i : ℕ) (actors after : List (AtPort × S)) (rows : List Row) (d : AtPort × S) : Type 0 where
  pub own : List Row
  pub does : R n (slice_index_or actors i d) (slice_index_or after i d) own
  pub rows_are : rows_by is_theirs rows ≡ own

pub each-at : {S : Type 0} (is_theirs : Actor → Bool) (n : ℕ) (R : ℕ → AtPort × S → AtPort × S → List Row → Type 0) → HasRowsOf is_theirs (λ m. nat_eq m n) R
    → (number i : ℕ) (actors after : List (AtPort × S)) (rows : List Row) (d : AtPort × S) → number + i ≡ n → i < length actors → EachBy R number actors after rows
    → EachAt is_theirs n R i actors after rows d
each-at is_theirs n R has number i [] after rows d at low each = absurd (omega (arith, low))
each-at {S = S} is_theirs n R has number zero (x ∷ actors) after rows d at low (own, others, own_rows, other_rows, does, rest, same, are) = record {
  own = own_rows;
  does = subst (λ (a : List (AtPort × S)). R n x (slice_index_or a 0 d) own_rows) (sym same) (subst (λ m. R m x own own_rows) here does);
  rows_are = ap (rows_by is_theirs) are ∙ filter-append _ own_rows other_rows
      ∙ ap (λ r. rows_by is_theirs own_rows ++ r) (each-other is_theirs (λ m. nat_eq m n) R has (number + 1) actors others other_rows (λ m past. grind (arith, nat_tests, past, here)) rest)
      ∙ append-nil (rows_by is_theirs own_rows)
      ∙ has number x own own_rows does ∙ ap (λ (b : Bool). if b then own_rows else []) (eq-eqb number n here);
}
  where
    here : number ≡ n
    here = omega (arith, at)
each-at {S = S} is_theirs n R has number (suc i) (x ∷ actors) after rows d at low (own, others, own_rows, other_rows, does, rest, same, are) =
    let more = each-at is_theirs n R has (number + 1) i actors others other_rows d (omega (arith, at)) (omega (arith, low)) rest in record {
      own = more.own;
      does = subst (λ (a : List (AtPort × S)). R n (slice_index_or actors i d) (slice_index_or a (suc i) d) more.own) (sym same) more.does;
      rows_are = past-first is_theirs (λ m. nat_eq m n) R has number x own own_rows other_rows rows other does are ∙ more.rows_are;
    }
  where
    other : nat_eq number n ≡ false
    other = grind (arith, nat_tests)

-- the card's rows are no other actor's
pub cards-other : (is_theirs : Actor → Bool) → is_theirs Card ≡ false → (phase position : ℕ) (ops : List Op) → rows_by is_theirs (card_rows phase position ops) ≡ []
cards-other is_theirs not_card phase position [] = refl
cards-other is_theirs not_card phase position (asked ∷ more) = rw (of_card asked) (cards-other is_theirs not_card phase (position + played_by asked) more)
  where
    of_card : (asked : Op) → is_theirs (card_row phase position asked).actor ≡ false
    of_card op.Unplug = not_card
    of_card asked = not_card

-- lines that open nothing have no answers of opens
pub none-answers : {S : Type 0} (kind : Kind S) (card : CardEnd) (x : AtPort × S) (ops : List Op)
    → ((asked : Op) (s : S) (answer : Answer) → (kind.row asked s answer).op ≡ asked) → NoneOpen ops → answers_of (lines_text kind card x ops).1 ≡ []
none-answers kind card x [] is none = refl
none-answers kind card x (asked ∷ more) is none =
    let done = line_text kind card x asked in
    rw (ap is_opening (is asked done.0.1 done.1) ∙ none.0) (none-answers kind card done.0 more is none.1)

-- the rows of a phase: none of the card's are this actor's, and of those of clients and readers its own
pub phase-rows : (is_theirs : Actor → Bool) (a cards c d own : List Row) → rows_by is_theirs cards ≡ [] → rows_by is_theirs c ++ rows_by is_theirs d ≡ own
    → rows_by is_theirs (a ++ cards ++ c ++ d) ≡ rows_by is_theirs a ++ own
phase-rows is_theirs a cards c d own none is =
    filter-append _ (a ++ cards ++ c) d
    ∙ ap (λ r. r ++ rows_by is_theirs d) (filter-append _ (a ++ cards) c ∙ ap (λ r. r ++ rows_by is_theirs c)
    (filter-append _ a cards ∙ ap (λ r. rows_by is_theirs a ++ r) none ∙ append-nil (rows_by is_theirs a)))
    ∙ append_assoc (rows_by is_theirs a) (rows_by is_theirs c) (rows_by is_theirs d) ∙ ap (λ r. rows_by is_theirs a ++ r) is

-- the members of what is numbered that have a number
abbrev pub members_of : {Y : Type 0} → ℕ → List (ℕ × Y) → List Y
members_of {Y = Y} number pairs = map (λ (pair : ℕ × Y). pair.1) (filter (λ (pair : ℕ × Y). nat_eq pair.0 number) pairs)

pub members-append : {Y : Type 0} (n : ℕ) (xs ys : List (ℕ × Y)) → members_of n (xs ++ ys) ≡ members_of n xs ++ members_of n ys
members-append n xs ys = ap (map (λ pair. pair.1)) (filter-append _ xs ys) ∙ map-append (λ pair. pair.1) (filter _ xs) (filter _ ys)

pub members-other : {Y : Type 0} (n m : ℕ) (ys : List Y) → nat_eq m n ≡ false → members_of n (map (λ y. (m, y)) ys) ≡ []
members-other n m [] is = refl
members-other n m (y ∷ ys) is = rw is (members-other n m ys is)

pub numbered-past : {X Y : Type 0} (of : X → List Y) (n number : ℕ) (xs : List X) → n < number → members_of n (with_numbers of number xs) ≡ []
numbered-past of n number [] low = refl
numbered-past of n number (x ∷ xs) low =
    members-append n (map (λ y. (number, y)) (of x)) (with_numbers of (number + 1) xs)
    ∙ ap (λ r. r ++ members_of n (with_numbers of (number + 1) xs)) (members-other n number (of x) (grind (arith, nat_tests)))
    ∙ ap (λ r. [] ++ r) (numbered-past of n (number + 1) xs (omega arith))
