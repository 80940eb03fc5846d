-- Runs of frames that are apart, and frames that are appended to them.
use Rattle.lab_readers.specs.Prelude.{ap, append_assoc, arith, List, refl, subst, suc, sym, zero, ℕ, [], ◌++◌, ◌+◌, ◌∙◌, ◌∷◌, ◌≡◌, ◌≢◌, ◌≤◌, nat_tests}
use Rattle.lab_readers.specs.Prelude.{append-nil, flat_map-append, range_with_len, ⊤, joined_runs, runs_of, AreApart, frames_of_runs}
use Rattle.dmix_client.specs.ExpansionLaws.{range_with_len-append}

-- no run begins at the end of the one before
IsBefore : ℕ → List (ℕ × ℕ) → Type 0
IsBefore end [] = ⊤
IsBefore end (run ∷ runs) = end ≢ run.0

-- a frame before runs is a run of one, unless the first run begins after it
joined-apart : (frame : ℕ) (runs : List (ℕ × ℕ)) → IsBefore (frame + 1) runs → joined_runs frame runs ≡ (frame, 1) ∷ runs
unfolding IsBefore
joined-apart frame runs before = grind (arith, nat_tests)

joined-next : (frame count : ℕ) (runs : List (ℕ × ℕ)) → joined_runs frame ((frame + 1, count) ∷ runs) ≡ (frame, count + 1) ∷ runs
joined-next frame count runs = grind (arith, nat_tests)

-- the frames of a run, and then those of runs that don't go on with it
runs_of-run : (count first : ℕ) (runs : List (ℕ × ℕ)) → IsBefore (first + suc count) runs → runs_of (frames_of_runs runs) ≡ runs
    → runs_of (range_with_len first (suc count) ++ frames_of_runs runs) ≡ (first, suc count) ∷ runs
runs_of-run zero first runs before is =
    ap (joined_runs first) is ∙ joined-apart first runs (subst (λ (end : ℕ). IsBefore end runs) (let same : first + suc zero ≡ first + 1 = omega arith in same) before)
runs_of-run (suc count) first runs before is =
    ap (joined_runs first) (runs_of-run count (first + 1) runs (subst (λ (end : ℕ). IsBefore end runs) (let same : first + suc (suc count) ≡ first + 1 + suc count = omega arith in same) before) is)
    ∙ joined-next first (suc count) runs
    ∙ ap (λ (n : ℕ). (first, n) ∷ runs) (let same : suc count + 1 ≡ suc (suc count) = omega arith in same)

-- runs that are apart are the runs of their frames
pub runs_of-apart : (runs : List (ℕ × ℕ)) → AreApart runs → runs_of (frames_of_runs runs) ≡ runs
unfolding IsBefore
runs_of-apart [] apart = refl
runs_of-apart ((first, zero) ∷ []) apart = absurd (omega (arith, apart))
runs_of-apart ((first, suc count) ∷ []) apart = runs_of-run count first [] tt refl
runs_of-apart ((first, zero) ∷ next ∷ runs) apart = absurd (let some = apart.0 in omega (arith, some))
runs_of-apart ((first, suc count) ∷ next ∷ runs) apart = runs_of-run count first (next ∷ runs) apart.1 (runs_of-apart (next ∷ runs) apart.2)

-- one run more, which the last one doesn't reach
pub apart-more : (runs : List (ℕ × ℕ)) (last run : ℕ × ℕ) → AreApart (runs ++ last ∷ []) → last.0 + last.1 ≢ run.0 → 1 ≤ run.1
    → AreApart ((runs ++ last ∷ []) ++ run ∷ [])
apart-more [] last run apart other some = (apart, other, some)
apart-more (x ∷ []) last run apart other some = (apart.0, apart.1, (apart.2, other, some))
apart-more (x ∷ y ∷ runs) last run apart other some = (apart.0, apart.1, apart-more (y ∷ runs) last run apart.2 other some)

-- the last run goes on
pub apart-longer : (runs : List (ℕ × ℕ)) (first count more : ℕ) → AreApart (runs ++ (first, count) ∷ []) → AreApart (runs ++ (first, count + more) ∷ [])
apart-longer [] first count more apart = omega (arith, apart)
apart-longer (x ∷ []) first count more apart = (apart.0, apart.1, let some = apart.2 in omega (arith, some))
apart-longer (x ∷ y ∷ runs) first count more apart = (apart.0, apart.1, apart-longer (y ∷ runs) first count more apart.2)

-- the frames then
pub frames_of_runs-more : (runs : List (ℕ × ℕ)) (first count : ℕ) → frames_of_runs (runs ++ (first, count) ∷ []) ≡ frames_of_runs runs ++ range_with_len first count
frames_of_runs-more runs first count =
    flat_map-append (λ (run : ℕ × ℕ). range_with_len run.0 run.1) runs ((first, count) ∷ [])
    ∙ ap (λ (frames : List ℕ). frames_of_runs runs ++ frames) (append-nil (range_with_len first count))

pub frames_of_runs-longer : (runs : List (ℕ × ℕ)) (begin length first count : ℕ) → begin + length ≡ first
    → frames_of_runs (runs ++ (begin, length + count) ∷ []) ≡ frames_of_runs (runs ++ (begin, length) ∷ []) ++ range_with_len first count
frames_of_runs-longer runs begin length first count meets =
    frames_of_runs-more runs begin (length + count)
    ∙ ap (λ (frames : List ℕ). frames_of_runs runs ++ frames) (range_with_len-append begin length count ∙ ap (λ (next : ℕ). range_with_len begin length ++ range_with_len next count) meets)
    ∙ sym (append_assoc (frames_of_runs runs) (range_with_len begin length) (range_with_len first count))
    ∙ ap (λ (frames : List ℕ). frames ++ range_with_len first count) (sym (frames_of_runs-more runs begin length))
