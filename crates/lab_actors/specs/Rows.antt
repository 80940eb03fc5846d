-- The rows of actors: one for each of their lines, and so no more than a phase has lines; and the room that they want in a list of rows.
use Rattle.std.specs.Prelude.{◌≡◌, ℕ, zero, suc, ◌+◌, ◌<◌, ◌≤◌, nat_eq, Bool, true, false, cond, if◌then◌else◌, List, [], ◌∷◌, ◌++◌, drop, length, slice_index_or, take, vec_capacity, vec_len, ⊤}
use Rattle.std.specs.Global.{Vec}
use Rattle.std.specs.List.{flat_map}
use Rattle.std.proofs.Common.{refl, sym, ◌∙◌, ap, arith}
use Rattle.std.proofs.lemmas.Bool.Decides.{nat_tests}
use Rattle.std.proofs.lemmas.Grind.{flat_map-append}
use Rattle.std.proofs.lemmas.List.{flat_map_more, length-append, take-append-drop, take_more}
use Rattle.lab_lines.specs.declared.line.Actor.{Actor}
use Rattle.lab_lines.specs.declared.line.Actor.TheVariants.{Card, Client, Reader}
use Rattle.lab_lines.specs.declared.line.Line.{Line}
use Rattle.lab_lines.specs.declared.line.Op.{Op}
use Rattle.lab_lines.specs.Script.{is_of_card}
use Rattle.lab_lines.specs.declared.row.Row.{Row}
use Rattle.lab_run.specs.Lines.{EachMay, Kind, LinesMay}
use Rattle.lab_run.specs.Phases.{is_client, is_reader, ops_by}
use Rattle.lab_run.specs.Rules.{AtPort, Rules}
use Rattle.lab_actors.specs.Walks.{HasWalked}

-- ---- a row for each line

-- how many lines so many actors of a kind have, the first of which has a number
abbrev pub lines_from : (ℕ → List Op) → ℕ → ℕ → ℕ
lines_from ops number zero = 0
lines_from ops number (suc count) = length (ops number) + lines_from ops (number + 1) count

LinesMay-rows : {S : Type 0} (kind : Kind S) (rules : Rules) (before : AtPort × S) (ops : List Op) (after : AtPort × S) (rows : List Row)
    → LinesMay kind rules before ops after rows → length rows ≡ length ops
LinesMay-rows kind rules before [] after rows may = ap length may.1
LinesMay-rows kind rules before (asked ∷ more) after rows (between, answer, others, one, rest, is) =
    ap length is ∙ ap suc (LinesMay-rows kind rules between more after others rest)

pub EachMay-rows : {S : Type 0} (kind : ℕ → Kind S) (rules : Rules) (ops : ℕ → List Op) (number : ℕ) (before after : List (AtPort × S)) (rows : List Row)
    → EachMay kind rules ops number before after rows → length rows ≡ lines_from ops number (length before)
EachMay-rows kind rules ops number [] after rows may = ap length may.1
EachMay-rows kind rules ops number (actor ∷ actors) after rows (own, others, own_rows, other_rows, one, rest, is, rows_are) =
    let all = ap length rows_are ∙ length-append own_rows other_rows in
    let first = LinesMay-rows (kind number) rules actor (ops number) own own_rows one in
    let more = EachMay-rows kind rules ops (number + 1) actors others other_rows rest in
    omega (arith, all, first, more)

-- ---- no line is of two actors

-- how many of so many numbers pass a test, the first of which is given
abbrev passes : (ℕ → Bool) → ℕ → ℕ → ℕ
passes test number zero = 0
passes test number (suc count) = cond (test number) 1 0 + passes test (number + 1) count

passes-none : (number count : ℕ) → passes (λ n. false) number count ≡ 0
passes-none number zero = refl
passes-none number (suc count) = let rest = passes-none (number + 1) count in omega (arith, rest)

passes-past : (m number count : ℕ) → m < number → passes (λ n. nat_eq m n) number count ≡ 0
passes-past m number zero past = refl
passes-past m number (suc count) past = by_test (nat_eq m number) refl (passes-past m (number + 1) count (omega (arith, past)))
  where
    by_test : (own : Bool) → nat_eq m number ≡ own → passes (λ n. nat_eq m n) (number + 1) count ≡ 0 → cond own 1 0 + passes (λ n. nat_eq m n) (number + 1) count ≡ 0
    by_test true is rest = absurd (grind (arith, nat_tests, is, past))
    by_test false is rest = omega (arith, rest)

passes-one : (m number count : ℕ) → passes (λ n. nat_eq m n) number count ≤ 1
passes-one m number zero = omega arith
passes-one m number (suc count) = by_test (nat_eq m number) refl (passes-one m (number + 1) count)
  where
    by_test : (own : Bool) → nat_eq m number ≡ own → passes (λ n. nat_eq m n) (number + 1) count ≤ 1 → cond own 1 0 + passes (λ n. nat_eq m n) (number + 1) count ≤ 1
    by_test true is rest =
        let past : m < number + 1 = grind (arith, nat_tests, is) in
        let none = passes-past m (number + 1) count past in
        omega (arith, none)
    by_test false is rest = omega (arith, rest)

-- a line more is of each actor that passes its test
length-line : (own : Bool) (asked : Op) (ops : List Op) (all passed others : ℕ) → all ≡ passed + others
    → length ((if own then asked ∷ [] else []) ++ ops) + all ≡ (cond own 1 0 + passed) + (length ops + others)
length-line true asked ops all passed others rest = omega (arith, rest)
length-line false asked ops all passed others rest = omega (arith, rest)

lines_from-line : (mine : ℕ → Actor → Bool) (line : Line) (lines : List Line) (number count : ℕ)
    → lines_from (λ n. ops_by (mine n) (line ∷ lines)) number count ≡ passes (λ n. mine n line.actor) number count + lines_from (λ n. ops_by (mine n) lines) number count
lines_from-line mine line lines number zero = omega arith
lines_from-line mine line lines number (suc count) =
    length-line (mine number line.actor) line.op (ops_by (mine number) lines) (lines_from (λ n. ops_by (mine n) (line ∷ lines)) (number + 1) count)
    (passes (λ n. mine n line.actor) (number + 1) count) (lines_from (λ n. ops_by (mine n) lines) (number + 1) count) (lines_from-line mine line lines (number + 1) count)

lines_from-none : (number count : ℕ) → lines_from (λ n. []) number count ≡ 0
lines_from-none number zero = refl
lines_from-none number (suc count) = let rest = lines_from-none (number + 1) count in omega (arith, rest)

-- a line is of the card, of one client or of one reader at most
one-actor : (who : Actor) (clients readers : ℕ)
    → cond (is_of_card who) 1 0 + passes (λ n. is_client n who) 0 clients + passes (λ n. is_reader n who) 0 readers ≤ 1
one-actor Card clients readers =
    let no_client = passes-none 0 clients in let no_reader = passes-none 0 readers in omega (arith, no_client, no_reader)
one-actor (Client m) clients readers =
    let own = passes-one m 0 clients in let no_reader = passes-none 0 readers in omega (arith, own, no_reader)
one-actor (Reader m) clients readers =
    let no_client = passes-none 0 clients in let own = passes-one m 0 readers in omega (arith, own, no_client)

length-most : (own : Bool) (asked : Op) (ops : List Op) (own_clients own_readers clients readers all : ℕ) → cond own 1 0 + own_clients + own_readers ≤ 1
    → length ops + clients + readers ≤ all → length ((if own then asked ∷ [] else []) ++ ops) + (own_clients + clients) + (own_readers + readers) ≤ all + 1
length-most true asked ops own_clients own_readers clients readers all one rest = omega (arith, one, rest)
length-most false asked ops own_clients own_readers clients readers all one rest = omega (arith, one, rest)

-- so the card, the clients and the readers have no more lines in a phase than it has
pub lines-most : (lines : List Line) (clients readers : ℕ)
    → length (ops_by is_of_card lines) + lines_from (λ n. ops_by (is_client n) lines) 0 clients + lines_from (λ n. ops_by (is_reader n) lines) 0 readers ≤ length lines
lines-most [] clients readers =
    let no_client = lines_from-none 0 clients in let no_reader = lines_from-none 0 readers in omega (arith, no_client, no_reader)
lines-most (line ∷ lines) clients readers =
    let of_clients = lines_from-line is_client line lines 0 clients in
    let of_readers = lines_from-line is_reader line lines 0 readers in
    let most : length (ops_by is_of_card (line ∷ lines)) + (passes (λ n. is_client n line.actor) 0 clients + lines_from (λ n. ops_by (is_client n) lines) 0 clients)
    + (passes (λ n. is_reader n line.actor) 0 readers + lines_from (λ n. ops_by (is_reader n) lines) 0 readers) ≤ length lines + 1 =
    length-most (is_of_card line.actor) line.op (ops_by is_of_card lines) (passes (λ n. is_client n line.actor) 0 clients) (passes (λ n. is_reader n line.actor) 0 readers)
    (lines_from (λ n. ops_by (is_client n) lines) 0 clients) (lines_from (λ n. ops_by (is_reader n) lines) 0 readers) (length lines) (one-actor line.actor clients readers)
    (lines-most lines clients readers) in
    omega (arith, most, of_clients, of_readers)

-- ---- the rows of one actor after the other, moved to the end of a list; or what else each has a list of

module _ {X Y : Type 0} (rows_of : X → List Y) (R : ℕ → X → X → Type 0) where
  -- the rows so far, with those of the next actor
  pub rows-next : (before rows : List Y) (old new : List X) (to : ℕ) (x : X) → to < length old → HasWalked R old new to → rows ≡ before ++ flat_map rows_of (take to old)
      → rows ++ rows_of (slice_index_or new to x) ≡ before ++ flat_map rows_of (take (to + 1) old)
  rows-next before rows old new to x inside so_far are =
      ap (λ (x : X). rows ++ rows_of x) (so_far.others to x (omega arith))
      ∙ (ap (λ (rs : List Y). rs ++ rows_of (slice_index_or old to x)) are
      ∙ (flat_map_more rows_of before (take to old) (slice_index_or old to x)
      ∙ ap (λ (xs : List X). before ++ flat_map rows_of xs) (sym (take_more old to x inside))))

  length-flat_map-take : (to : ℕ) (old : List X) → length (flat_map rows_of (take to old)) ≤ length (flat_map rows_of old)
  length-flat_map-take to old =
      let parts = ap (λ (xs : List X). length (flat_map rows_of xs)) (sym (take-append-drop to old))
      ∙ (ap length (flat_map-append rows_of (take to old) (drop to old)) ∙ length-append (flat_map rows_of (take to old)) (flat_map rows_of (drop to old))) in
      omega (arith, parts)

  -- where there was room for all rows there is room for those of the next actor
  pub rows-room : (before rows : Vec Y) (old new : List X) (to : ℕ) (x : X) → to < length old → HasWalked R old new to → rows.items ≡ before.items ++ flat_map rows_of (take to old)
      → vec_len before + length (flat_map rows_of old) ≤ vec_capacity before → vec_capacity before ≤ vec_capacity rows
      → vec_len rows + length (rows_of (slice_index_or new to x)) ≤ vec_capacity rows
  rows-room before rows old new to x inside so_far are space room =
      let next = ap length (rows-next before.items rows.items old new to x inside so_far are) in
      let own = length-append rows.items (rows_of (slice_index_or new to x)) in
      let all = length-append before.items (flat_map rows_of (take (to + 1) old)) in
      let part = length-flat_map-take (to + 1) old in
      let before_len = before.ok.0 in
      let rows_len = rows.ok.0 in
      omega (arith, next, own, all, part, before_len, rows_len, space, room)

-- the same of a list whose members stay as they are
module _ {X Y : Type 0} (list_of : X → List Y) where
  stays : (xs : List X) (to : ℕ) → HasWalked (λ n x y. ⊤) xs xs to
  stays xs to = record { len = refl; each = λ i d below inside. tt; others = λ i d from. refl }

  pub lists-next : (before all : List Y) (xs : List X) (to : ℕ) (x : X) → to < length xs → all ≡ before ++ flat_map list_of (take to xs)
      → all ++ list_of (slice_index_or xs to x) ≡ before ++ flat_map list_of (take (to + 1) xs)
  lists-next before all xs to x inside are = rows-next list_of (λ n x y. ⊤) before all xs xs to x inside (stays xs to) are

  pub lists-room : (before all : Vec Y) (xs : List X) (to : ℕ) (x : X) → to < length xs → all.items ≡ before.items ++ flat_map list_of (take to xs)
      → vec_len before + length (flat_map list_of xs) ≤ vec_capacity before → vec_capacity before ≤ vec_capacity all
      → vec_len all + length (list_of (slice_index_or xs to x)) ≤ vec_capacity all
  lists-room before all xs to x inside are space room = rows-room list_of (λ n x y. ⊤) before all xs xs to x inside (stays xs to) are space room
