-- The lines of one actor in a phase, and of all actors of a kind: what they may be answered, and what they are answered where the phase
-- leaves no choice. An actor is how it is at its port, and what it is otherwise.
use Rattle.std.specs.Prelude.{◌≡◌, ℕ, ◌+◌, List, [], ◌∷◌, ◌++◌}
use Rattle.course.specs.Course.{Course}
use Rattle.lab_lines.specs.declared.line.Op.{Op}
use Rattle.lab_lines.specs.declared.row.Answer.{Answer}
use Rattle.lab_lines.specs.declared.row.Row.{Row}
use Rattle.lab_run.specs.Rules.{AtPort, CardEnd, May, Rules}
use Rattle.lab_run.specs.CourseText.{course_text}

-- what lines are to a kind of actor: how a line begins, its course, and its row, by the actor after it
pub record Kind (S : Type 0) : Type 0 where
  pub begins : S → Op → AtPort → AtPort
  pub course : AtPort → S → Op → Course (S × Answer)
  pub row : Op → S → Answer → Row

-- a line may be done so
abbrev pub LineMay : {S : Type 0} → Kind S → Rules → AtPort × S → Op → AtPort × S → Answer → Type 0
LineMay kind rules (a, s) asked (b, t) answer =
    May rules (kind.begins s asked a) (kind.course (kind.begins s asked a) s asked) b (t, answer)

-- lines may be done so, one after the other, with these rows
abbrev pub LinesMay : {S : Type 0} → Kind S → Rules → AtPort × S → List Op
    → AtPort × S → List Row → Type 0
LinesMay kind rules before [] after rows = (after ≡ before) × (rows ≡ [])
LinesMay {S = S} kind rules before (asked ∷ more) after rows =
    (between : AtPort × S) × (answer : Answer) × (others : List Row)
    × LineMay kind rules before asked between answer × LinesMay kind rules between more after others
    × (rows ≡ kind.row asked between.1 answer ∷ others)

-- what they give where the phase leaves no choice
abbrev pub line_text : {S : Type 0} → Kind S → CardEnd → AtPort × S → Op → (AtPort × S) × Answer
line_text kind card (a, s) asked =
    let end = course_text card (kind.begins s asked a) (kind.course (kind.begins s asked a) s asked) in ((end.0, end.1.0), end.1.1)

abbrev pub lines_text : {S : Type 0} → Kind S → CardEnd → AtPort × S → List Op
    → (AtPort × S) × List Row
lines_text kind card before [] = (before, [])
lines_text kind card before (asked ∷ more) =
    let done = line_text kind card before asked in
    let others = lines_text kind card done.0 more in
    (others.0, kind.row asked done.0.1 done.1 ∷ others.1)

-- the actors of a kind, each with its lines; the first of them has a number
abbrev pub EachMay : {S : Type 0} → (ℕ → Kind S) → Rules → (ℕ → List Op) → ℕ
    → List (AtPort × S) → List (AtPort × S) → List Row → Type 0
EachMay kind rules ops number [] after rows = (after ≡ []) × (rows ≡ [])
EachMay {S = S} kind rules ops number (actor ∷ actors) after rows =
    (own : AtPort × S) × (others : List (AtPort × S)) × (own_rows : List Row)
    × (other_rows : List Row)
    × LinesMay (kind number) rules actor (ops number) own own_rows
    × EachMay kind rules ops (number + 1) actors others other_rows
    × (after ≡ own ∷ others) × (rows ≡ own_rows ++ other_rows)

abbrev pub each_text : {S : Type 0} → (ℕ → Kind S) → CardEnd → (ℕ → List Op) → ℕ
    → List (AtPort × S) → List (AtPort × S) × List Row
each_text kind card ops number [] = ([], [])
each_text kind card ops number (actor ∷ actors) =
    let own = lines_text (kind number) card actor (ops number) in
    let others = each_text kind card ops (number + 1) actors in
    (own.0 ∷ others.0, own.1 ++ others.1)
