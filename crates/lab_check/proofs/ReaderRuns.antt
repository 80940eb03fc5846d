-- Runs without a defect end at numbers of 64 bits; and the readers, one after the other.
use Rattle.lab_check.specs.Prelude.{arith, List, None, ℕ, [], ◌+◌, ◌-◌, ◌<◌, ◌^◌, ◌∷◌, ◌≡◌, nat_tests, map, Report, AreCapturedRuns, first_run_line}
use Rattle.lab_check.specs.Prelude.{first_defect, lined_runs, reader_defect, readers_defect, run_defect, runs_with_lines, RunsFit}
use Rattle.lab_check.proofs.Slices.{reader-captured, runs-captured, unlined}

runs-fit : (least end : ℕ) (runs : List (ℕ × ℕ × ℕ)) → end + 1 < 2 ^ 64 → AreCapturedRuns least end (map unlined runs) → RunsFit runs
runs-fit least end [] low are = tt
runs-fit least end ((line, first, count) ∷ runs) low (some, from, to, rest) = (omega (arith, to, low), runs-fit (first + count + 1) end runs low rest)

pub runs_below : (least end : ℕ) (runs : List (ℕ × ℕ × ℕ)) → end + 1 < 2 ^ 64 → run_defect least end runs ≡ None → RunsFit runs
runs_below least end runs low is = runs-fit least end runs low (runs-captured least end runs is)

pub readers_next : (report : Report) (number count : ℕ) → number < count
    → readers_defect report number (count - number) ≡ first_defect (reader_defect report number) (readers_defect report (number + 1) (count - (number + 1)))
readers_next report number count low = grind (arith, nat_tests)

-- the runs of a reader without a defect
pub reader_below : (report : Report) (number : ℕ) → report.first + report.frames + 1 < 2 ^ 64 → reader_defect report number ≡ None
    → RunsFit (runs_with_lines number (first_run_line report) report.runs)
reader_below report number low is = runs-fit report.first (report.first + report.frames) (lined_runs report number) low (reader-captured report number is)
