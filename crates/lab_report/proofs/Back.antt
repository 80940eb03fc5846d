-- The text of a report is read as the report.
use Rattle.lab_report.specs.Prelude.{ap, append_assoc, arith, codes, false, get_or, length, List, map, None, Ok, refl, Some, subst, sym, true, ℕ, [], ◌++◌, ◌∙◌}
use Rattle.lab_report.specs.Prelude.{◌∷◌, ◌≡◌, ◌≤◌, append-nil, length-map, recursion_from_All, slice_get_past, decimal, AllByRecursion, flat_map, slice_get}
use Rattle.lab_report.specs.Prelude.{Segment, Report, Request, Row, Script, IsScript, request_of_row, ◌>>=◌, IsReportInRange, IsRowInRange, IsRunInRange}
use Rattle.lab_report.specs.Prelude.{IsSegmentInRange, IsWide, lines_after, next_line, nothing, on_line, report_in_text, tail_by, with_line, requests_of}
use Rattle.lab_report.specs.Prelude.{client_name, IsReportOf, IsRowOf, IsRunOf, IsSegmentOf, played_line, reader_name, report_text, row_line, run_line}
use Rattle.lab_report.specs.Prelude.{segment_line, front_word, lines_of}
use Rattle.std.specs.Prelude.{All}
use Rattle.lab_report.specs.Reading.{State}
use Rattle.lab_report.proofs.Printed.{lines_of-line, lines_of-lines, front_word-printed}
use Rattle.lab_report.proofs.PrintedReport.{segment_at-printed, run_at-printed, played_run-printed}
use Rattle.lab_report.proofs.PrintedRows.{row_of_line-printed}
use Rattle.lab_report.proofs.PrintedWhole.{front_in_line, row_is_line, segment_is_line, run_is_line, played_is_line}
use Rattle.lab_report.proofs.RowLine.{played_parts, run_parts, segment_parts}

-- a report that is read as far as these rows, segments and runs
abbrev pub read : List Row → List (ℕ × Segment) → List (ℕ × ℕ × ℕ) → State
read rows segments runs = record { head = true; rows = rows; segments = segments; runs = runs; played = None; ended = false }

-- the number of the line after as many lines
abbrev pub after : {X : Type 0} → ℕ → List X → ℕ
after number [] = number
after number (x ∷ xs) = after (next_line number) xs

-- all that printing asks of a row, of a segment and of a run
pub record IsPrinted (script : Script) (row : Row) : Type 0 where
  pub of : IsRowOf script row
  pub range : IsRowInRange row

abbrev pub IsSegmentPrinted : Script → (ℕ × Segment) → Type 0
IsSegmentPrinted script segment = IsSegmentOf script segment × IsSegmentInRange segment.1

pub record IsRunPrinted (script : Script) (run : ℕ × ℕ × ℕ) : Type 0 where
  pub of : IsRunOf script run
  pub range : IsRunInRange run

-- what holds of all holds of one between others
one_of : {X : Type 0} (P : X → Type 0) (front : List X) (x : X) (rest all : List X) → all ≡ front ++ x ∷ rest → All P all → P x
one_of {X = X} P front x rest all e h = at front (recursion_from_All P (front ++ x ∷ rest) (subst (All P) e h))
  where
    at : (front : List X) → AllByRecursion P (front ++ x ∷ rest) → P x
    at [] h = h.0
    at (y ∷ ys) h = at ys h.1

get_at : {X Y : Type 0} (f : X → Y) (before : List X) (x : X) (xs : List X) → slice_get (map f (before ++ x ∷ xs)) (length before) ≡ Some (f x)
get_at f [] x xs = refl
get_at f (b ∷ bs) x xs = get_at f bs x xs

-- lines of one kind that are read one after the other
lines_read : {X : Type 0} (script : Script) (requests : List Request) (state : List X → State) (line : X → List ℕ) (all before xs : List X) (number : ℕ) (lines : List (List ℕ)) → all ≡ before ++ xs
    → ((front : List X) (x : X) (rest : List X) → all ≡ front ++ x ∷ rest → with_line script requests (state front) (line x) ≡ Ok (state (front ++ x ∷ [])))
    → lines_after script requests (state before) number (map line xs ++ lines) ≡ lines_after script requests (state all) (after number xs) lines
lines_read script requests state line all before [] number lines e each = ap (λ xs. lines_after script requests (state xs) number lines) (sym (append-nil before) ∙ sym e)
lines_read script requests state line all before (x ∷ xs) number lines e each =
    ap (λ r. on_line (next_line number) r (λ next. lines_after script requests next (next_line number) (map line xs ++ lines))) (each before x xs e)
    ∙ lines_read script requests state line all (before ++ x ∷ []) xs (next_line number) lines (e ∙ sym (append_assoc before (x ∷ []) xs)) each

row_read : (script : Script) (requests : List Request) (before : List Row) (row : Row) → IsScript script → IsPrinted script row
    → slice_get requests (length before) ≡ Some (request_of_row row) → with_line script requests (read before [] []) (row_line script row) ≡ Ok (read (before ++ row ∷ []) [] [])
row_read script requests before row valid p e =
    rw (e, row_of_line-printed script row (front_in_line script row valid p.of p.range) p.of.answer p.of.state p.range) refl

-- a line below the rows, by its first word
below_word : (script : Script) (requests : List Request) (rows : List Row) (segments : List (ℕ × Segment)) (runs : List (ℕ × ℕ × ℕ)) (w r : List ℕ)
    → length requests ≤ length rows → front_word (w ++ 32 ∷ r) ≡ Ok (w, 32 ∷ r)
    → with_line script requests (read rows segments runs) (w ++ 32 ∷ r) ≡ tail_by script (read rows segments runs) w (32 ∷ r)
below_word script requests rows segments runs w r past e = rw (slice_get_past requests (length rows) past, e) refl

segment_read : (script : Script) (requests : List Request) (rows : List Row) (before : List (ℕ × Segment)) (client : ℕ) (s : Segment) → IsScript script
    → length requests ≤ length rows → IsSegmentPrinted script (client, s)
    → with_line script requests (read rows before []) (segment_line script (client, s)) ≡ Ok (read rows (before ++ (client, s) ∷ []) [])
segment_read script requests rows before client s valid past p =
    ap (with_line script requests (read rows before [])) (segment_parts (client_name script client) (decimal s.source) (decimal s.card) (decimal s.whole) (decimal s.part) (10 ∷ []))
    ∙ below_word script requests rows before [] (codes "segment") (client_name script client ++ 32 ∷ (decimal s.source ++ 32 ∷ (decimal s.card ++ 32 ∷ (decimal s.whole ++ 32 ∷ (decimal s.part ++ 10 ∷ []))))) past (front_word-printed (codes "segment") 32 _ refl refl)
    ∙ ap (λ x. x >>= (λ segment. Ok (read rows (before ++ segment ∷ []) []))) (segment_at-printed script client s valid p.0 p.1)

run_read : (script : Script) (requests : List Request) (rows : List Row) (segments : List (ℕ × Segment)) (before : List (ℕ × ℕ × ℕ)) (reader first count : ℕ) → IsScript script
    → length requests ≤ length rows → IsRunPrinted script (reader, first, count)
    → with_line script requests (read rows segments before) (run_line script (reader, first, count)) ≡ Ok (read rows segments (before ++ (reader, first, count) ∷ []))
run_read script requests rows segments before reader first count valid past p =
    ap (with_line script requests (read rows segments before)) (run_parts (reader_name script reader) (decimal first) (decimal count) (10 ∷ []))
    ∙ below_word script requests rows segments before (codes "run") (reader_name script reader ++ 32 ∷ (decimal first ++ 32 ∷ (decimal count ++ 10 ∷ []))) past (front_word-printed (codes "run") 32 _ refl refl)
    ∙ ap (λ x. x >>= (λ run. Ok (read rows segments (before ++ run ∷ [])))) (run_at-printed script reader first count valid p.of p.range.0 p.range.1)

-- what was played, and the end
end_read : (script : Script) (requests : List Request) (rows : List Row) (segments : List (ℕ × Segment)) (runs : List (ℕ × ℕ × ℕ)) (first frames number : ℕ) → length requests ≤ length rows
    → IsWide first → IsWide frames
    → lines_after script requests (read rows segments runs) number (played_line first frames ∷ codes "end\n" ∷ []) ≡ Ok (record { rows = rows; segments = segments; runs = runs; first = first; frames = frames })
end_read script requests rows segments runs first frames number past f n =
    let played : with_line script requests (read rows segments runs) (played_line first frames) ≡ Ok (record (read rows segments runs) { played = Some (first, frames) }) =
    ap (with_line script requests (read rows segments runs)) (played_parts (decimal first) (decimal frames) (10 ∷ []))
    ∙ below_word script requests rows segments runs (codes "played") (decimal first ++ 32 ∷ (decimal frames ++ 10 ∷ [])) past (front_word-printed (codes "played") 32 _ refl refl)
    ∙ ap (λ x. x >>= (λ p. Ok (record (read rows segments runs) { played = Some p }))) (played_run-printed first frames f n) in
    ap (λ r. on_line (next_line number) r (λ next. lines_after script requests next (next_line number) (codes "end\n" ∷ []))) played
    ∙ rw (slice_get_past requests (length rows) past) refl

whole_parts : (h r s u p e : List ℕ) → (h ++ r) ++ (((s ++ u) ++ p) ++ e) ≡ h ++ (r ++ (s ++ (u ++ (p ++ e))))
whole_parts h r s u p e = simp append_assoc

-- the lines of a report's text
report_lines : (script : Script) (report : Report) → IsScript script → All (IsPrinted script) report.rows → All (IsSegmentPrinted script) report.segments
    → All (IsRunPrinted script) report.runs → IsWide report.first → IsWide report.frames
    → lines_of (report_text script report) ≡ codes "dmixlab 1\n" ∷ (map (row_line script) report.rows ++ (map (segment_line script) report.segments ++ (map (run_line script) report.runs ++ played_line report.first report.frames ∷ codes "end\n" ∷ [])))
report_lines script report valid rows segments runs f n =
    let r = flat_map (row_line script) report.rows in
    let s = flat_map (segment_line script) report.segments in
    let u = flat_map (run_line script) report.runs in
    let p = played_line report.first report.frames in
    ap lines_of (whole_parts (codes "dmixlab 1\n") r s u p (codes "end\n"))
    ∙ lines_of-line (codes "dmixlab 1\n") (r ++ (s ++ (u ++ (p ++ codes "end\n")))) (record { words = codes "dmixlab 1"; is = refl; whole = refl })
    ∙ ap (λ ls. codes "dmixlab 1\n" ∷ ls)
    (lines_of-lines (row_line script) report.rows (s ++ (u ++ (p ++ codes "end\n"))) (λ k d l. row_is_line script (get_or report.rows k d) valid (rows k d l).of (rows k d l).range)
    ∙ ap (λ ls. map (row_line script) report.rows ++ ls)
    (lines_of-lines (segment_line script) report.segments (u ++ (p ++ codes "end\n")) (λ k d l. segment_is_line script (get_or report.segments k d).0 (get_or report.segments k d).1 valid (segments k d l).0 (segments k d l).1)
    ∙ ap (λ ls. map (segment_line script) report.segments ++ ls)
    (lines_of-lines (run_line script) report.runs (p ++ codes "end\n") (λ k d l. let run = get_or report.runs k d in run_is_line script run.0 run.1 run.2 valid (runs k d l).of (runs k d l).range.0 (runs k d l).range.1)
    ∙ ap (λ ls. map (run_line script) report.runs ++ ls) (lines_of-line p (codes "end\n") (played_is_line report.first report.frames f n)))))

-- the text of a report is read as the report
pub report_in_text-text : (script : Script) (report : Report) → IsScript script → IsReportOf script report → IsReportInRange report → report_in_text script (report_text script report) ≡ Ok report
report_in_text-text script report valid of n =
    let q = requests_of script in
    let rows : All (IsPrinted script) report.rows = λ k d l. record { of = of.rows k d l; range = n.rows k d l } in
    let segments : All (IsSegmentPrinted script) report.segments = λ k d l. (of.tail.segments k d l, n.segments k d l) in
    let runs : All (IsRunPrinted script) report.runs = λ k d l. record { of = of.tail.runs k d l; range = n.runs k d l } in
    let past : length q ≤ length report.rows = omega (arith, ap length of.lines, length-map report.rows request_of_row) in
    let last = played_line report.first report.frames ∷ codes "end\n" ∷ [] in
    ap (lines_after script q nothing 0) (report_lines script report valid rows segments runs n.first n.frames)
    ∙ lines_read script q (λ rows. read rows [] []) (row_line script) report.rows [] report.rows 1 (map (segment_line script) report.segments ++ (map (run_line script) report.runs ++ last)) refl
    (λ front row rest e. row_read script q front row valid (one_of (IsPrinted script) front row rest report.rows e rows)
    (subst (λ qs. slice_get qs (length front) ≡ Some (request_of_row row)) (ap (map request_of_row) (sym e) ∙ of.lines) (get_at request_of_row front row rest)))
    ∙ lines_read script q (λ segments. read report.rows segments []) (segment_line script) report.segments [] report.segments (after 1 report.rows) (map (run_line script) report.runs ++ last) refl
    (λ front s rest e. segment_read script q report.rows front s.0 s.1 valid past (one_of (IsSegmentPrinted script) front s rest report.segments e segments))
    ∙ lines_read script q (λ runs. read report.rows report.segments runs) (run_line script) report.runs [] report.runs (after (after 1 report.rows) report.segments) last refl
    (λ front run rest e. run_read script q report.rows report.segments front run.0 run.1 run.2 valid past (one_of (IsRunPrinted script) front run rest report.runs e runs))
    ∙ end_read script q report.rows report.segments report.runs report.first report.frames _ past n.first n.frames
