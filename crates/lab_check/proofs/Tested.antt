-- What is known of a report where no test fails.
use Rattle.lab_check.specs.Prelude.{arith, inl, inr, length, List, None, Option, refl, Some, subst, ℕ, [], ◌+◌, ◌<◌, ◌^◌, ◌≡◌, ◌≤◌, cases_eq, nat_tests}
use Rattle.lab_check.specs.Prelude.{prefix_len_passes, position, prefix_len, All, Bool, cond, false, if◌then◌else◌, nat_lt, not, Ok, option_map, suc, true}
use Rattle.lab_check.specs.Prelude.{zero, Sound, Report, Script, IsScript, first_frame, frames_played, phases_of, report_in_text, HasTestedRuns}
use Rattle.lab_check.specs.Prelude.{HasTestedSegments, played_defect, report_defect, row_defect, segment_defect, tested_report, is_right_row, first_row_line}
use Rattle.lab_check.specs.Prelude.{first_segment_line, line_of_end, first_defect, reader_defect, readers_defect, is_right_segment}

-- two causes neither of which is there
pub first-none : (a b : Option ℕ) → first_defect a b ≡ None → a ≡ None
first-none None b is = refl
first-none (Some line) b is = absurd cc

pub second-none : (a b : Option ℕ) → first_defect a b ≡ None → b ≡ None
second-none None b is = is
second-none (Some line) b is = absurd cc

map-none : {X Y : Type 0} (f : X → Y) (o : Option X) → option_map f o ≡ None → o ≡ None
map-none f None is = refl
map-none f (Some x) is = absurd cc

not-not : (b : Bool) → not (not b) ≡ true → b ≡ true
not-not true is = refl
not-not false is = absurd cc

no-place : (n m : ℕ) → cond (nat_lt n m) (Some n) None ≡ None → m ≤ n
no-place n m is = grind (arith, nat_tests)

-- where no place is found at which a test fails, it holds everywhere
pub none-fails : {X : Type 0} (p : X → Bool) (xs : List X) → position (λ x. not (p x)) xs ≡ None → All (λ x. p x ≡ true) xs
none-fails p xs is k d low =
    not-not _ (prefix_len_passes (λ x. not (not (p x))) xs k d (let most = no-place (prefix_len (λ x. not (not (p x))) xs) (length xs) is in omega (arith, low, most)))

-- a value behind a test that is there only where the test fails
pub if-none : (b : Bool) (o : Option ℕ) (line : ℕ) → (if b then o else Some line) ≡ None → (b ≡ true) × (o ≡ None)
if-none true o line is = (refl, is)
if-none false o line is = absurd cc

pub played-passes : (script : Script) (report : Report) → played_defect script report ≡ None
    → (report.first ≡ first_frame script.card) × (report.frames ≡ frames_played (phases_of script.body))
played-passes script report is = grind (arith, nat_tests)

-- all late rows can be, where none can't
pub rows-pass : (script : Script) (wavs : List Sound) (report : Report) → row_defect script wavs report ≡ None
    → All (λ row. is_right_row script wavs report row ≡ true) report.rows
rows-pass script wavs report is = none-fails (is_right_row script wavs report) report.rows (map-none (λ k. first_row_line + k) _ is)

-- none of the four defects of a report is there, where there is none of it
pub record HasNone (script : Script) (wavs : List Sound) (report : Report) : Type 0 where
  pub played : played_defect script report ≡ None
  pub segment : segment_defect script wavs report ≡ None
  pub row : row_defect script wavs report ≡ None
  pub readers : readers_defect report 0 (length script.readers) ≡ None

pub has-none : (script : Script) (wavs : List Sound) (report : Report) → report_defect script wavs report ≡ None → HasNone script wavs report
has-none script wavs report is = grind (arith, nat_tests)

-- all segments can be, where none can't
pub segments_right : (script : Script) (wavs : List Sound) (report : Report) → segment_defect script wavs report ≡ None
    → All (λ segment. is_right_segment script wavs segment ≡ true) report.segments
segments_right script wavs report is = none-fails (is_right_segment script wavs) report.segments (map-none (λ k. first_segment_line report + k) _ is)

-- what a script's card played ends far below the numbers of 64 bits
pub played-end : (script : Script) (report : Report) → IsScript script → played_defect script report ≡ None → report.first + report.frames < 2 ^ 62
played-end script report valid is = grind (arith, nat_tests)

pub ends_below : (script : Script) (report : Report) → IsScript script → played_defect script report ≡ None → report.first + report.frames + 1 < 2 ^ 64
ends_below script report valid is = let end = played-end script report valid is in omega (arith, end)

-- what is known of a text whose report passes
pub record IsPassed (script : Script) (wavs : List Sound) (text : List ℕ) (report : Report) : Type 0 where
  pub read : report_in_text script text ≡ Ok report
  pub none : report_defect script wavs report ≡ None

pub text-passes : (script : Script) (wavs : List Sound) (text : List ℕ) (report : Report) → tested_report script wavs text ≡ Ok report
    → IsPassed script wavs text report
text-passes script wavs text report is = grind (arith, nat_tests)

-- each of so many readers, from one on, has no defect
pub each-reader : (report : Report) (first more number : ℕ) → first ≤ number → number < first + more → readers_defect report first more ≡ None → reader_defect report number ≡ None
each-reader report first zero number low high is = absurd (omega (arith, low, high))
each-reader report first (suc more) number low high is = elim (cases_eq first number) [
  | inl same ↦ subst (λ n. reader_defect report n ≡ None) same (first-none (reader_defect report first) _ is)
  | inr other ↦ each-reader report (first + 1) more number (omega (arith, low, other)) (omega (arith, high)) (second-none (reader_defect report first) _ is)
]

-- a reader that there is, where none has a defect
pub one_reader : (script : Script) (report : Report) (number : ℕ) → number < length script.readers → readers_defect report 0 (length script.readers) ≡ None
    → reader_defect report number ≡ None
one_reader script report number low is = each-reader report 0 (length script.readers) number (omega arith) (omega (arith, low)) is

-- what a report that passes has, as the code asks for it
pub tested_segments : (script : Script) (wavs : List Sound) (report : Report) → report_defect script wavs report ≡ None → line_of_end report < 2 ^ 32
    → HasTestedSegments script wavs report
tested_segments script wavs report is lines = let none = has-none script wavs report is in record { played = none.played; segments = none.segment; few = lines }

pub tested_runs : (script : Script) (wavs : List Sound) (report : Report) → report_defect script wavs report ≡ None → line_of_end report < 2 ^ 32
    → HasTestedRuns script report
tested_runs script wavs report is lines = let none = has-none script wavs report is in record { played = none.played; readers = none.readers; few = lines }
