-- A reader whose rows read its runs in slices, where each run is of captured frames, has no defect.
use Rattle.lab_check.specs.Prelude.{ap, arith, List, None, Option, refl, Some, subst, sym, ℕ, [], ◌++◌, ◌+◌, ◌-◌, ◌<◌, ◌∙◌, ◌∷◌, ◌≡◌, ◌≤◌, and_from, eq-eqb}
use Rattle.lab_check.specs.Prelude.{le-leb, nat_tests, append_cancel_left, range_with_len, Bool, false, if◌then◌else◌, map, nat_eq, nat_le, Ok, suc, true, zero}
use Rattle.lab_check.specs.Prelude.{◌&&◌, Report, Row, rows_by, runs_by, is_reader, AreSlices, ends_by_row, goes_on_after, got_by, IsFirstOf, AreCapturedRuns}
use Rattle.lab_check.specs.Prelude.{frames_of_runs, first_row_line, first_run_line, after_row, end_defect, first_defect, is_next, is_run_within, lined_runs}
use Rattle.lab_check.specs.Prelude.{on_row, reader_defect, reads_end, run_defect, runs_without, taken_by, Unread}
use Rattle.lab_check.proofs.Slices.{frames-taken, goes-without, lines-off, unlined, unread_frames}

-- ---- runs

-- the runs of a reader without a defect
runs-within : (least end : ℕ) (runs : List (ℕ × ℕ × ℕ)) → AreCapturedRuns least end (map unlined runs) → run_defect least end runs ≡ None
runs-within least end [] captured = refl
runs-within least end ((line, first, count) ∷ runs) (some, low, within, rest) =
    let passes : is_run_within least end first count ≡ true = grind (arith, nat_tests, some, low, within) in
    rw passes (runs-within (first + count + 1) end runs rest)

captured-less : (least more end : ℕ) (runs : List (ℕ × ℕ)) → least ≤ more → AreCapturedRuns more end runs → AreCapturedRuns least end runs
captured-less least more end [] less captured = tt
captured-less least more end ((first, count) ∷ runs) less (some, low, within, rest) = (some, omega (arith, less, low), within, rest)

-- ---- the frames of a run, and those behind it

-- frames that don't begin with one
abbrev NotFirst : ℕ → List ℕ → Type 0
NotFirst frame frames = (others : List ℕ) → frames ≡ frame ∷ others → ⊥

head-same : (x y : ℕ) (xs ys : List ℕ) → x ∷ xs ≡ y ∷ ys → x ≡ y
head-same x y xs ys same = cc

tail-same : (x y : ℕ) (xs ys : List ℕ) → x ∷ xs ≡ y ∷ ys → xs ≡ ys
tail-same x y xs ys same = cc

-- the frames behind a run don't go on from it
behind-not : (end frame : ℕ) (runs : List (ℕ × ℕ × ℕ)) → AreCapturedRuns (frame + 1) end (map unlined runs) → NotFirst frame (unread_frames runs)
behind-not end frame [] captured others same = absurd cc
behind-not end frame ((line, first, zero) ∷ runs) (some, low, within, rest) others same = absurd (omega (arith, some))
behind-not end frame ((line, first, suc count) ∷ runs) (some, low, within, rest) others same =
    let here : first ≡ frame = head-same first frame (range_with_len (first + 1) count ++ unread_frames runs) others same in absurd (omega (arith, here, low))

-- frames that a row got, which begin with a run's first one, are within the run, where the frames behind it don't go on from it
within-run : (first got count : ℕ) (others rest : List ℕ) → range_with_len first got ++ others ≡ range_with_len first count ++ rest → NotFirst (first + count) rest → got ≤ count
within-run first zero count others rest same not = omega arith
within-run first (suc got) zero others rest same not =
    let here : first ≡ first + zero = omega arith in
    absurd (not (range_with_len (first + 1) got ++ others) (sym same ∙ ap (λ f. f ∷ range_with_len (first + 1) got ++ others) here))
within-run first (suc got) (suc count) others rest same not =
    let less : got ≤ count = within-run (first + 1) got count others rest
    (tail-same first first (range_with_len (first + 1) got ++ others) (range_with_len (first + 1) count ++ rest) same)
    (subst (λ (f : ℕ). NotFirst f rest) next not) in
    omega (arith, less)
  where
    next : first + suc count ≡ first + 1 + count
    next = omega arith

-- ---- a row

-- what is left after a row: the frames behind those that it got
record IsTaken (end : ℕ) (next : Option ℕ) (runs : List (ℕ × ℕ × ℕ)) (ends : Bool) (got first : ℕ) (others : List ℕ) : Type 0 where
  pub after : Unread
  pub taken : taken_by ends got next runs ≡ Some after
  pub goes : after.0 ≡ goes_on_after ends next first got
  pub frames : unread_frames after.1 ≡ others
  pub captured : AreCapturedRuns 0 end (map unlined after.1)

-- the runs of which some frames of the first are read
without-captured : (end taken line first count : ℕ) (runs : List (ℕ × ℕ × ℕ)) → taken ≤ count → first + count ≤ end
    → AreCapturedRuns (first + count + 1) end (map unlined runs) → AreCapturedRuns 0 end (map unlined (runs_without taken line first count runs))
without-captured end taken line first count runs few within rest = by_all (nat_eq taken count) refl
  where
    by_all : (b : Bool) → nat_eq taken count ≡ b → AreCapturedRuns 0 end (map unlined (if b then runs else (line, first + taken, count - taken) ∷ runs))
    by_all true all = captured-less 0 (first + count + 1) end (map unlined runs) (omega arith) rest
    by_all false some =
        let more : 0 < count - taken = grind (arith, nat_tests, few, some) in
        let to : first + taken + (count - taken) ≤ end = omega (arith, few, within) in
        let same : first + count + 1 ≡ first + taken + (count - taken) + 1 = omega (arith, few) in
        (more, omega arith, to, subst (λ (n : ℕ). AreCapturedRuns n end (map unlined runs)) same rest)

next-of : (next : Option ℕ) (first : ℕ) → IsFirstOf next first → is_next next first ≡ true
next-of None first is = refl
next-of (Some frame) first is = eq-eqb first frame is

-- a row that got frames of the first run
run-taken : (end : ℕ) (next : Option ℕ) (line first count : ℕ) (runs : List (ℕ × ℕ × ℕ)) (ends : Bool) (n from : ℕ) (others : List ℕ)
    → AreCapturedRuns 0 end (map unlined ((line, first, count) ∷ runs)) → IsFirstOf next from → first ≡ from
    → unread_frames ((line, first, count) ∷ runs) ≡ range_with_len from (suc n) ++ others
    → IsTaken end next ((line, first, count) ∷ runs) ends (suc n) from others
run-taken end next line first count runs ends n from others (some, low, within, rest) is_first here frames = record {
  after = (goes_on_after ends next first (suc n), runs_without (suc n) line first count runs);
  taken =
      let left : Option Unread = Some (goes_on_after ends next first (suc n), runs_without (suc n) line first count runs) in
      subst (λ (b : Bool). (if b then left else None) ≡ left) (sym passes) refl;
  goes = ap (λ f. goes_on_after ends next f (suc n)) here;
  frames = append_cancel_left (range_with_len first (suc n)) (unread_frames (runs_without (suc n) line first count runs)) others
      (sym (frames-taken (suc n) line first count runs few) ∙ own);
  captured = without-captured end (suc n) line first count runs few within rest;
}
  where
    own : unread_frames ((line, first, count) ∷ runs) ≡ range_with_len first (suc n) ++ others
    own = frames ∙ ap (λ f. range_with_len f (suc n) ++ others) (sym here)

    few : suc n ≤ count
    few = within-run first (suc n) count others (unread_frames runs) (sym own) (behind-not end (first + count) runs rest)

    passes : (is_next next first && nat_le (suc n) count) ≡ true
    passes = and_from (is_next next first) (nat_le (suc n) count) (next-of next first (subst (IsFirstOf next) (sym here) is_first)) (le-leb (suc n) count few)

row-taken : (end : ℕ) (next : Option ℕ) (runs : List (ℕ × ℕ × ℕ)) (ends : Bool) (got from : ℕ) (others : List ℕ) → AreCapturedRuns 0 end (map unlined runs)
    → IsFirstOf next from → unread_frames runs ≡ range_with_len from got ++ others → IsTaken end next runs ends got from others
row-taken end next runs ends zero from others captured is_first frames = record {
  after = (goes_on_after ends next 0 zero, runs);
  taken = refl;
  goes = goes-without ends next 0 from;
  frames = frames;
  captured = captured;
}
row-taken end next [] ends (suc n) from others captured is_first frames = absurd cc
row-taken end next ((line, first, zero) ∷ runs) ends (suc n) from others (some, low, within, rest) is_first frames = absurd (omega (arith, some))
row-taken end next ((line, first, suc count) ∷ runs) ends (suc n) from others captured is_first frames =
    run-taken end next line first (suc count) runs ends n from others captured is_first
    (head-same first from (range_with_len (first + 1) count ++ unread_frames runs) (range_with_len (from + 1) n ++ others) frames) frames

-- ---- the rows of a reader

none-left : (end : ℕ) (runs : List (ℕ × ℕ × ℕ)) → AreCapturedRuns 0 end (map unlined runs) → unread_frames runs ≡ [] → end_defect (Ok runs) ≡ None
none-left end [] captured none = refl
none-left end ((line, first, zero) ∷ runs) (some, low, within, rest) none = absurd (omega (arith, some))
none-left end ((line, first, suc count) ∷ runs) captured none = absurd cc

rows-read : (number line end : ℕ) (next : Option ℕ) (runs : List (ℕ × ℕ × ℕ)) (rows : List Row) (after : Option ℕ) → AreCapturedRuns 0 end (map unlined runs)
    → AreSlices next (rows_by (is_reader number) rows) (unread_frames runs) after → end_defect (reads_end number line (next, runs) rows) ≡ None
rows-read number line end next runs [] after captured slices = none-left end runs captured slices.0
rows-read number line end next runs (row ∷ rows) after captured slices =
    by_reader (λ left is slices_left. rows-read number (line + 1) end left.0 left.1 rows after is slices_left) (is_reader number row.actor) slices
  where
    by_row : ((left : Unread) → AreCapturedRuns 0 end (map unlined left.1) → AreSlices left.0 (rows_by (is_reader number) rows) (unread_frames left.1) after
        → end_defect (reads_end number (line + 1) left rows) ≡ None)
        → AreSlices next (row ∷ rows_by (is_reader number) rows) (unread_frames runs) after
        → end_defect (on_row line (after_row (next, runs) row.op row.answer) (λ left. reads_end number (line + 1) left rows)) ≡ None
    by_row rest (first, others, is_first, frames, more) =
        let step = row-taken end next runs (ends_by_row row.op row.answer) (got_by row.op row.answer) first others captured is_first frames in
        subst (λ left. end_defect (on_row line left (λ r. reads_end number (line + 1) r rows)) ≡ None) (sym step.taken)
        (rest step.after step.captured
        (subst (λ f. AreSlices step.after.0 (rows_by (is_reader number) rows) f after) (sym step.frames)
        (subst (λ (at : Option ℕ). AreSlices at (rows_by (is_reader number) rows) others after) (sym step.goes) more)))

    by_reader : ((left : Unread) → AreCapturedRuns 0 end (map unlined left.1) → AreSlices left.0 (rows_by (is_reader number) rows) (unread_frames left.1) after
        → end_defect (reads_end number (line + 1) left rows) ≡ None)
        → (b : Bool) → AreSlices next (if b then row ∷ rows_by (is_reader number) rows else rows_by (is_reader number) rows) (unread_frames runs) after
        → end_defect (if b then on_row line (after_row (next, runs) row.op row.answer) (λ left. reads_end number (line + 1) left rows)
        else reads_end number (line + 1) (next, runs) rows) ≡ None
    by_reader rest true own = by_row rest own
    by_reader rest false own = rest (next, runs) captured own

-- ---- a reader

pub both-none : (a b : Option ℕ) → a ≡ None → b ≡ None → first_defect a b ≡ None
both-none a b one other = ap (λ x. first_defect x b) one ∙ other

pub reader-passes : (report : Report) (number : ℕ) (after : Option ℕ)
    → AreCapturedRuns report.first (report.first + report.frames) (runs_by number report.runs)
    → AreSlices None (rows_by (is_reader number) report.rows) (frames_of_runs (runs_by number report.runs)) after
    → reader_defect report number ≡ None
reader-passes report number after captured slices =
    both-none (run_defect report.first (report.first + report.frames) (lined_runs report number)) (end_defect (reads_end number first_row_line (None, lined_runs report number) report.rows))
    (runs-within report.first (report.first + report.frames) (lined_runs report number) lined)
    (rows-read number first_row_line (report.first + report.frames) None (lined_runs report number) report.rows after
    (captured-less 0 report.first (report.first + report.frames) (map unlined (lined_runs report number)) (omega arith) lined)
    (subst (λ (r : List (ℕ × ℕ)). AreSlices None (rows_by (is_reader number) report.rows) (frames_of_runs r) after) (sym same) slices))
  where
    same : map unlined (lined_runs report number) ≡ runs_by number report.runs
    same = lines-off number (first_run_line report) report.runs

    lined : AreCapturedRuns report.first (report.first + report.frames) (map unlined (lined_runs report number))
    lined = subst (AreCapturedRuns report.first (report.first + report.frames)) (sym same) captured
