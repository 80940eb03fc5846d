-- The rows of a reader that pass took its runs in slices.
use Rattle.lab_check.specs.Prelude.{ap, append_assoc, arith, List, None, Option, refl, Some, subst, sym, ℕ, [], ◌++◌, ◌+◌, ◌-◌, ◌∙◌, ◌∷◌, ◌≡◌, ◌≤◌, and_parts}
use Rattle.lab_check.specs.Prelude.{eqb-true, leb-true, ltb-true, AllByRecursion, range_with_len, Bool, false, filter, if◌then◌else◌, map, nat_eq, nat_le}
use Rattle.lab_check.specs.Prelude.{nat_lt, Ok, Result, suc, true, zero, ◌&&◌, range_with_len-append, Report, Row, rows_by, runs_by, is_reader, AreSlices}
use Rattle.lab_check.specs.Prelude.{ends_by_row, goes_on_after, got_by, IsFirstOf, AreCapturedRuns, frames_of_runs, after_row, end_defect, is_next}
use Rattle.lab_check.specs.Prelude.{is_run_within, lined_runs, on_row, reader_defect, reads_end, run_defect, runs_with_lines, runs_without, taken_by, Unread}
use Rattle.lab_check.specs.Prelude.{IsCapturedRun}
use Rattle.lab_check.proofs.Tested.{first-none, if-none}

-- a run without its line
abbrev pub unlined : ℕ × ℕ × ℕ → ℕ × ℕ
unlined (line, first, count) = (first, count)

abbrev pub unread_frames : List (ℕ × ℕ × ℕ) → List ℕ
unread_frames runs = frames_of_runs (map unlined runs)

pub lines-off : (number line : ℕ) (runs : List (ℕ × ℕ × ℕ)) → map unlined (runs_with_lines number line runs) ≡ runs_by number runs
lines-off number line [] = refl
lines-off number line ((reader, first, count) ∷ runs) = by_reader (lines-off number (line + 1) runs) (nat_eq reader number)
  where
    by_reader : map unlined (runs_with_lines number (line + 1) runs) ≡ runs_by number runs → (b : Bool)
        → map unlined (if b then (line, first, count) ∷ runs_with_lines number (line + 1) runs else runs_with_lines number (line + 1) runs)
        ≡ map (λ (run : ℕ × ℕ × ℕ). (run.1, run.2)) (if b then (reader, first, count) ∷ filter (λ (run : ℕ × ℕ × ℕ). nat_eq run.0 number) runs else filter (λ (run : ℕ × ℕ × ℕ). nat_eq run.0 number) runs)
    by_reader others true = ap (λ l. (first, count) ∷ l) others
    by_reader others false = others

-- the frames of a run of which some are taken
pub frames-taken : (taken line first count : ℕ) (runs : List (ℕ × ℕ × ℕ)) → taken ≤ count
    → unread_frames ((line, first, count) ∷ runs) ≡ range_with_len first taken ++ unread_frames (runs_without taken line first count runs)
frames-taken taken line first count runs few = by_all (nat_eq taken count) refl
  where
    by_all : (b : Bool) → nat_eq taken count ≡ b
        → range_with_len first count ++ unread_frames runs ≡ range_with_len first taken ++ unread_frames (if b then runs else (line, first + taken, count - taken) ∷ runs)
    by_all true same = ap (λ n. range_with_len first n ++ unread_frames runs) (sym (eqb-true taken count same))
    by_all false other =
        let sum : count ≡ taken + (count - taken) = omega (arith, few) in
        ap (λ n. range_with_len first n ++ unread_frames runs) sum
        ∙ ap (λ l. l ++ unread_frames runs) (range_with_len-append first taken (count - taken))
        ∙ append_assoc (range_with_len first taken) (range_with_len (first + taken) (count - taken)) (unread_frames runs)

-- the next frame of a stretch
first-of : (next : Option ℕ) (first : ℕ) → is_next next first ≡ true → IsFirstOf next first
first-of None first is = tt
first-of (Some frame) first is = eqb-true first frame is

some-first : (next : Option ℕ) → (first : ℕ) × IsFirstOf next first
some-first None = (0, tt)
some-first (Some frame) = (frame, refl)

pub goes-without : (ends : Bool) (next : Option ℕ) (first other : ℕ) → goes_on_after ends next first zero ≡ goes_on_after ends next other zero
goes-without true next first other = refl
goes-without false next first other = refl

-- rows took the frames that are left
abbrev pub TookAll : Option ℕ → List (ℕ × ℕ × ℕ) → List Row → Type 0
TookAll next runs rows = (after : Option ℕ) × AreSlices next rows (unread_frames runs) after

-- what a row that got so many frames leaves: they are the first ones that were left, and the others are left after it
record Leaves (next : Option ℕ) (runs : List (ℕ × ℕ × ℕ)) (ends : Bool) (got : ℕ) (after : Unread) : Type 0 where
  pub first : ℕ
  pub is_first : IsFirstOf next first
  pub goes : after.0 ≡ goes_on_after ends next first got
  pub frames : unread_frames runs ≡ range_with_len first got ++ unread_frames after.1

taken-leaves : (ends : Bool) (got : ℕ) (next : Option ℕ) (runs : List (ℕ × ℕ × ℕ)) (after : Unread) → taken_by ends got next runs ≡ Some after → Leaves next runs ends got after
taken-leaves ends zero next runs after is =
    let any = some-first next in
    let same : (goes_on_after ends next 0 zero, runs) ≡ after = cc in
    subst (Leaves next runs ends 0) same (record { first = any.0; is_first = any.1; goes = goes-without ends next 0 any.0; frames = refl })
taken-leaves ends (suc n) next [] after is = absurd cc
taken-leaves ends (suc n) next ((line, first, count) ∷ runs) after is = by_test (is_next next first && nat_le (suc n) count) refl is
  where
    by_test : (b : Bool) → (is_next next first && nat_le (suc n) count) ≡ b
        → (if b then Some (goes_on_after ends next first (suc n), runs_without (suc n) line first count runs) else None) ≡ Some after
        → Leaves next ((line, first, count) ∷ runs) ends (suc n) after
    by_test true both left =
        let tests = and_parts (is_next next first) _ both in
        let same : (goes_on_after ends next first (suc n), runs_without (suc n) line first count runs) ≡ after = cc in
        subst (Leaves next ((line, first, count) ∷ runs) ends (suc n)) same
        (record { first = first; is_first = first-of next first tests.0; goes = refl; frames = frames-taken (suc n) line first count runs (leb-true (suc n) count tests.1) })
    by_test false both left = absurd cc

-- what is left after a row behind which nothing fails
left-after : (line : ℕ) (after : Option Unread) (rest : Unread → Result (List (ℕ × ℕ × ℕ)) ℕ) → end_defect (on_row line after rest) ≡ None
    → (left : Unread) × (after ≡ Some left) × (end_defect (rest left) ≡ None)
left-after line None rest is = absurd cc
left-after line (Some left) rest is = (left, refl, is)

none-left : (line : ℕ) (next : Option ℕ) (runs : List (ℕ × ℕ × ℕ)) → end_defect (Ok runs) ≡ None → TookAll next runs []
none-left line next [] is = (next, (refl, refl))
none-left line next (run ∷ runs) is = absurd cc

pub rows-took : (number line : ℕ) (next : Option ℕ) (runs : List (ℕ × ℕ × ℕ)) (rows : List Row) → end_defect (reads_end number line (next, runs) rows) ≡ None
    → TookAll next runs (rows_by (is_reader number) rows)
rows-took number line next runs [] is = none-left line next runs is
rows-took number line next runs (row ∷ rows) is =
    by_reader (λ after none. rows-took number (line + 1) after.0 after.1 rows none) (is_reader number row.actor) is
  where
    by_reader : ((after : Unread) → end_defect (reads_end number (line + 1) after rows) ≡ None → TookAll after.0 after.1 (rows_by (is_reader number) rows))
        → (b : Bool)
        → end_defect (if b then on_row line (after_row (next, runs) row.op row.answer) (λ after. reads_end number (line + 1) after rows) else reads_end number (line + 1) (next, runs) rows) ≡ None
        → TookAll next runs (if b then row ∷ rows_by (is_reader number) rows else rows_by (is_reader number) rows)
    by_reader others false none = others (next, runs) none
    by_reader others true none =
        let left = left-after line (after_row (next, runs) row.op row.answer) _ none in
        let leaves = taken-leaves (ends_by_row row.op row.answer) (got_by row.op row.answer) next runs left.0 left.1 in
        let more = others left.0 left.2 in (
          more.0,
          (
            leaves.first,
            unread_frames left.0.1,
            leaves.is_first,
            leaves.frames,
            subst (λ (at : Option ℕ). AreSlices at (rows_by (is_reader number) rows) (unread_frames left.0.1) more.0) leaves.goes more.1,
          ),
        )

-- runs without a defect are of captured frames
pub runs-captured : (least end : ℕ) (runs : List (ℕ × ℕ × ℕ)) → run_defect least end runs ≡ None → AreCapturedRuns least end (map unlined runs)
runs-captured least end [] is = tt
runs-captured least end ((line, first, count) ∷ runs) is =
    let tests = if-none (is_run_within least end first count) (run_defect (first + count + 1) end runs) line is in
    let to = and_parts _ (nat_le (first + count) end) tests.0 in
    let from = and_parts (nat_lt 0 count) _ to.0 in
    (ltb-true 0 count from.0, leb-true least first from.1, leb-true (first + count) end to.1, runs-captured (first + count + 1) end runs tests.1)

-- each of them by itself
pub each-captured : (bottom least end : ℕ) (runs : List (ℕ × ℕ)) → bottom ≤ least → AreCapturedRuns least end runs → AllByRecursion (IsCapturedRun bottom end) runs
each-captured bottom least end [] low are = tt
each-captured bottom least end ((first, count) ∷ runs) low (some, from, to, rest) =
    ((some, omega (arith, low, from), to), each-captured bottom (first + count + 1) end runs (omega (arith, low, from)) rest)

-- the runs of a reader without a defect
pub reader-captured : (report : Report) (number : ℕ) → reader_defect report number ≡ None
    → AreCapturedRuns report.first (report.first + report.frames) (map unlined (lined_runs report number))
reader-captured report number is = runs-captured report.first (report.first + report.frames) (lined_runs report number)
    (first-none (run_defect report.first (report.first + report.frames) (lined_runs report number)) _ is)
