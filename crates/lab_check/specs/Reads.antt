-- A reader's runs, and which of their frames its rows read.
use Rattle.std.specs.Prelude.{ℕ, zero, suc, ◌+◌, ◌-◌, ◌&&◌, nat_eq, nat_lt, nat_le, Bool, true, if◌then◌else◌, List, [], ◌∷◌, Option, Some, None, Result, Ok, Err}
use Rattle.lab_lines.specs.declared.line.Op.{Op}
use Rattle.lab_lines.specs.declared.report.Report.{Report}
use Rattle.lab_lines.specs.declared.row.Answer.{Answer}
use Rattle.lab_lines.specs.declared.row.Row.{Row}
use Rattle.lab_run.specs.Phases.{is_reader}
use Rattle.lab_run.specs.Stretches.{ends_by_row, goes_on_after, got_by}
use Rattle.lab_check.specs.Lines.{first_row_line, first_run_line}

-- the runs of a reader, each with its line, its first frame and how many frames follow one another from there
abbrev pub runs_with_lines : ℕ → ℕ → List (ℕ × ℕ × ℕ) → List (ℕ × ℕ × ℕ)
runs_with_lines number line [] = []
runs_with_lines number line ((reader, first, count) ∷ runs) =
    if nat_eq reader number then (line, first, count) ∷ runs_with_lines number (line + 1) runs
    else runs_with_lines number (line + 1) runs

-- a run has a frame, and its frames are from a least one to before the end
abbrev pub is_run_within : ℕ → ℕ → ℕ → ℕ → Bool
is_run_within least end first count =
    nat_lt 0 count && nat_le least first && nat_le (first + count) end

-- the line of the first run that isn't so; each begins at a greater frame than the one after the run before it
abbrev pub run_defect : ℕ → ℕ → List (ℕ × ℕ × ℕ) → Option ℕ
run_defect least end [] = None
run_defect least end ((line, first, count) ∷ runs) =
    if is_run_within least end first count then run_defect (first + count + 1) end runs
    else Some line

-- what a reader's rows haven't read yet: the frame at which the stretch goes on, if it has frames and didn't end, and the runs that are left
abbrev pub Unread : Type 0
Unread = Option ℕ × List (ℕ × ℕ × ℕ)

-- a stretch that has frames goes on with the frame after them
abbrev pub is_next : Option ℕ → ℕ → Bool
is_next None first = true
is_next (Some frame) first = nat_eq first frame

-- the runs of which so many frames of the first are read
abbrev pub runs_without : ℕ → ℕ → ℕ → ℕ → List (ℕ × ℕ × ℕ) → List (ℕ × ℕ × ℕ)
runs_without taken line first count runs =
    if nat_eq taken count then runs else (line, first + taken, count - taken) ∷ runs

-- what is left after a row that got so many frames: they are the next ones of the first run that is left; a row that got none reads none
abbrev pub taken_by : Bool → ℕ → Option ℕ → List (ℕ × ℕ × ℕ) → Option Unread
taken_by ends zero next runs = Some (goes_on_after ends next 0 zero, runs)
taken_by ends (suc n) next [] = None
taken_by ends (suc n) next ((line, first, count) ∷ runs) =
    if is_next next first && nat_le (suc n) count
    then Some (goes_on_after ends next first (suc n), runs_without (suc n) line first count runs)
    else None

-- the same of a row's op and answer
abbrev pub after_row : Unread → Op → Answer → Option Unread
after_row (next, runs) op answer = taken_by (ends_by_row op answer) (got_by op answer) next runs

-- what follows from what is left after a row, or the row's line where it can't have read what it says
abbrev pub on_row : {X : Type 0} → ℕ → Option Unread → (Unread → Result X ℕ) → Result X ℕ
on_row line None f = Err line
on_row line (Some unread) f = f unread

-- the runs that are left after the rows of a reader, the first row of all being on a line
abbrev pub reads_end : ℕ → ℕ → Unread → List Row → Result (List (ℕ × ℕ × ℕ)) ℕ
reads_end number line unread [] = Ok unread.1
reads_end number line unread (row ∷ rows) =
    if is_reader number row.actor
    then on_row line (after_row unread row.op row.answer)
    (λ after. reads_end number (line + 1) after rows)
    else reads_end number (line + 1) unread rows

-- the line of a row that can't be, or of the first run that isn't read wholly
abbrev pub end_defect : Result (List (ℕ × ℕ × ℕ)) ℕ → Option ℕ
end_defect (Err line) = Some line
end_defect (Ok []) = None
end_defect (Ok ((line, first, count) ∷ runs)) = Some line

-- the first of two lines, if there is one
abbrev pub first_defect : Option ℕ → Option ℕ → Option ℕ
first_defect None other = other
first_defect (Some line) other = Some line

-- the runs of a reader in a report, each with its line
abbrev pub lined_runs : Report → ℕ → List (ℕ × ℕ × ℕ)
lined_runs report number = runs_with_lines number (first_run_line report) report.runs

-- the line of the first defect of a reader: of its runs, and then of what its rows read of them
abbrev pub reader_defect : Report → ℕ → Option ℕ
reader_defect report number =
    first_defect
    (run_defect report.first (report.first + report.frames) (lined_runs report number))
    (end_defect (reads_end number first_row_line (None, lined_runs report number) report.rows))

-- the line of the first defect of so many readers, from one on
abbrev pub readers_defect : Report → ℕ → ℕ → Option ℕ
readers_defect report number zero = None
readers_defect report number (suc more) =
    first_defect (reader_defect report number) (readers_defect report (number + 1) more)
