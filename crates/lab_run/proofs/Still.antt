-- Where no phase is mixed none leaves a choice: the other actors have no lines in a phase in which the card has, and the card publishes
-- nothing new in any other.
use Rattle.lab_run.specs.Prelude.{arith, inl, inr, refl, ℕ, ◌+◌, ◌∙◌, ◌≡◌, and_cases, or_parts, nat_tests, All-cons, All-contains, All-nil, sum_by-cons}
use Rattle.lab_run.specs.Prelude.{list_any, All, Bool, Contains, false, if◌then◌else◌, List, not, [], ◌++◌, ◌∷◌, Actor, Line, Op, is_card_line, is_mixed}
use Rattle.lab_run.specs.Prelude.{is_of_card, is_client, is_reader, on_the_way, ops_by, phase_positions, played_at, played_in, published_by}
use Rattle.lab_lines.specs.declared.line.Actor.TheVariants.{Card}

abbrev is_other_line : Line → Bool
is_other_line line = not (is_card_line line)

-- a line of another actor plays nothing
idle-line : (line : Line) → is_card_line line ≡ false → played_at line ≡ 0
idle-line line is = rw is refl

still-behind : (period from played : ℕ) (lines : List Line) → played ≡ 0 → All (λ q. q ≡ from) (published_by period from lines)
    → All (λ q. q ≡ from) (on_the_way period from played ++ published_by period (from + played) lines)
still-behind period from played lines none rest = grind (arith, nat_tests)

still-lines : (period from : ℕ) (lines : List Line) → list_any is_card_line lines ≡ false → All (λ q. q ≡ from) (published_by period from lines)
still-lines period from [] none = All-nil (λ q. q ≡ from)
still-lines period from (line ∷ lines) none =
    let first : played_at line ≡ 0 = idle-line line (or_parts (is_card_line line) _ none).0 in
    let rest = still-lines period from lines (or_parts (is_card_line line) _ none).1 in
    still-behind period from (played_at line) lines first rest

idle-lines : (lines : List Line) → list_any is_card_line lines ≡ false → played_in lines ≡ 0
idle-lines [] none = refl
idle-lines (line ∷ lines) none =
    omega (arith, sum_by-cons played_at line lines, idle-line line (or_parts (is_card_line line) _ none).0, idle-lines lines (or_parts (is_card_line line) _ none).1)

-- in a phase without the card no position is published but the one that the card has
still-published : (period from : ℕ) (lines : List Line) → list_any is_card_line lines ≡ false
    → (q : ℕ) → Contains (phase_positions period from lines) q → q ≡ from + played_in lines
still-published period from lines none q there =
    All-contains (λ p. p ≡ from) (phase_positions period from lines) q (All-cons (λ p. p ≡ from) from _ refl (still-lines period from lines none)) there ∙ omega (arith, idle-lines lines none)

-- in a phase of the card alone no other actor has a line
no-other : (is_theirs : Actor → Bool) → is_theirs Card ≡ false → (actor : Actor) (asked : Op) → not (is_of_card actor) ≡ false
    → (if is_theirs actor then asked ∷ [] else []) ≡ []
no-other is_theirs not_card actor asked none = grind (arith, nat_tests)

alone : (is_theirs : Actor → Bool) → is_theirs Card ≡ false → (lines : List Line) → list_any is_other_line lines ≡ false → ops_by is_theirs lines ≡ []
alone is_theirs not_card [] none = refl
alone is_theirs not_card (line ∷ lines) none =
    rw (no-other is_theirs not_card line.actor line.op (or_parts (is_other_line line) _ none).0) (alone is_theirs not_card lines (or_parts (is_other_line line) _ none).1)

-- a phase that isn't mixed: nothing is published in it but one position, or no client and no reader has a line in it
pub data Unmixed (period from : ℕ) (lines : List Line) : Type 0 where
  still_phase : ((q : ℕ) → Contains (phase_positions period from lines) q → q ≡ from + played_in lines) → Unmixed period from lines
  idle_phase : ((n : ℕ) → ops_by (is_client n) lines ≡ []) → ((n : ℕ) → ops_by (is_reader n) lines ≡ []) → Unmixed period from lines

pub unmixed : (period from : ℕ) (lines : List Line) → is_mixed lines ≡ false → Unmixed period from lines
unmixed period from lines is = elim (and_cases (list_any is_card_line lines) (list_any is_other_line lines) is) [
  | inl none ↦ still_phase (still-published period from lines none)
  | inr none ↦ idle_phase (λ n. alone (is_client n) refl lines none) (λ n. alone (is_reader n) refl lines none)
]
