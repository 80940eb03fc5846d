-- The lines of a script that keeps its limits: only the card plays, and no line of a phase opens an actor.
use Rattle.lab_run.specs.Prelude.{arith, refl, ℕ, ◌≡◌, nat_tests, All-head, All-tail, sum_by-cons, All, Bool, false, if◌then◌else◌, List, true, [], ◌++◌, ◌∷◌}
use Rattle.lab_run.specs.Prelude.{Actor, Item, Line, Op, Script, IsItem, IsLine, IsOpOf, IsScript, is_of_card, played_by, ops_by, played_at, played_in}
use Rattle.lab_run.specs.OwnRows.{HaveLines, NoneOpen, is_opening}
use Rattle.lab_lines.specs.declared.line.Item.TheVariants as item
use Rattle.lab_lines.specs.declared.line.Op.TheVariants as op
use Rattle.lab_lines.specs.Script as script_words

-- what an actor can be asked for opens nothing
not-opens : (actor : Actor) → IsOpOf actor op.Opens → ⊥
not-opens actor is = grind (arith, nat_tests)

none-opens : (Q : Op → Type 0) → (Q op.Opens → ⊥) → (asked : Op) → Q asked → is_opening asked ≡ false
none-opens Q not op.Opens is = absurd (not is)
none-opens Q not other is = refl

none-open : (clients readers : ℕ) (is_theirs : Actor → Bool) (lines : List Line) → All (IsLine clients readers) lines → NoneOpen (ops_by is_theirs lines)
none-open clients readers is_theirs [] all = tt
none-open clients readers is_theirs (line ∷ lines) all = by_test (none-open clients readers is_theirs lines (All-tail (IsLine clients readers) line lines all)) (is_theirs line.actor)
  where
    by_test : NoneOpen (ops_by is_theirs lines) → (b : Bool) → NoneOpen ((if b then line.op ∷ [] else []) ++ ops_by is_theirs lines)
    by_test rest true = (none-opens (IsOpOf line.actor) (not-opens line.actor) line.op (All-head (IsLine clients readers) line lines all).op, rest)
    by_test rest false = rest

items-have_lines : (clients readers : ℕ) (is_theirs : Actor → Bool) (items : List Item) → All (IsItem clients readers) items → HaveLines is_theirs items
items-have_lines clients readers is_theirs [] all = tt
items-have_lines clients readers is_theirs (item.Opens number who ∷ items) all =
    (tt, items-have_lines clients readers is_theirs items (All-tail (IsItem clients readers) (item.Opens number who) items all))
items-have_lines clients readers is_theirs (item.Closes number who ∷ items) all =
    (tt, items-have_lines clients readers is_theirs items (All-tail (IsItem clients readers) (item.Closes number who) items all))
items-have_lines clients readers is_theirs (item.Phase lines ∷ items) all = (
  none-open clients readers is_theirs lines (All-head (IsItem clients readers) (item.Phase lines) items all).each,
  items-have_lines clients readers is_theirs items (All-tail (IsItem clients readers) (item.Phase lines) items all),
)

-- no line of a phase of a script opens an actor
pub script-have_lines : (script : Script) (is_theirs : Actor → Bool) → IsScript script → HaveLines is_theirs script.body
script-have_lines script is_theirs is = items-have_lines _ _ is_theirs script.body is.body

-- the frames that the card plays by a line are those of the line, whoever's it is
played-at : (actor : Actor) (asked : Op) → IsOpOf actor asked → (if is_of_card actor then played_by asked else 0) ≡ played_by asked
played-at actor asked is = grind (arith, nat_tests)

-- so the frames that the card plays by lines are those of all of them
pub played_in-lines : (clients readers : ℕ) (lines : List Line) → All (IsLine clients readers) lines → played_in lines ≡ script_words.played_in lines
played_in-lines clients readers [] all = refl
played_in-lines clients readers (line ∷ lines) all = omega (
  arith,
  sum_by-cons played_at line lines,
  sum_by-cons (λ (l : Line). played_by l.op) line lines,
  played-at line.actor line.op (All-head (IsLine clients readers) line lines all).op,
  played_in-lines clients readers lines (All-tail (IsLine clients readers) line lines all),
)
