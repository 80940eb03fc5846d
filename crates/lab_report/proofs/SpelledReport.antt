-- A text that is read as a report is the text of a report of the script: stage by stage, its lines are those of what is read.
use Rattle.lab_report.specs.Prelude.{ap, append_assoc, arith, Bool, bytes_eq, codes, cond, Err, if◌then◌else◌, length, List, map, None, Ok, refl, Result, Some}
use Rattle.lab_report.specs.Prelude.{subst, sym, true, ℕ, [], ◌&&◌, ◌++◌, ◌<◌, ◌==◌, ◌∙◌, ◌∷◌, ◌≡◌, nat_tests, append-nil, map-append, All-nil, All-push}
use Rattle.lab_report.specs.Prelude.{recursion_from_All, bytes_eq-Decides, All, AllByRecursion, flat_map, slice_get, Segment, Report, Request, Row, Script}
use Rattle.lab_report.specs.Prelude.{IsScript, request_of_row, ok_to, ReportError, ReportWhy, Answers, lines_after, next_line, nothing, played_run}
use Rattle.lab_report.specs.Prelude.{report_in_text, row_of_line, run_at, segment_at, version_of, with_played, with_run, with_segment, requests_of, IsReportOf}
use Rattle.lab_report.specs.Prelude.{IsRowOf, IsRunOf, IsSegmentOf, IsTailOf, played_line, report_text, row_line, run_line, segment_line, tail_text}
use Rattle.lab_report.specs.Prelude.{expect_word, feed_of, front_word, lines_of, space_of}
use Rattle.std.proofs.lemmas.Grind.{flat_map-append}
use Rattle.std.specs.Result.{IfOk}
use Rattle.lab_report.specs.Reading.{State}
use Rattle.lab_report.proofs.Actors.{IsAsked, requests_of-asked}
use Rattle.lab_report.proofs.Back.{read}
use Rattle.lab_report.proofs.Spelled.{bind_ok, expect_word-is, feed_of-is, front_word-is, space_of-is, word_choice}
use Rattle.lab_report.proofs.SpelledText.{AreLines, IsOneLine, joined, joined-lines_of, lines_of-lines, on_line-ok, one_line, played_run-spelled, row_of_line-is, run_at-is, segment_at-is, version_of-is}
use Rattle.lab_report.specs.declared.error.ReportWhy.TheVariants as why

-- the request of the next row
get_next : (rows : List Row) (todo : List Request) → slice_get (map request_of_row rows ++ todo) (length rows) ≡ slice_get todo 0
get_next [] todo = refl
get_next (row ∷ rows) todo = get_next rows todo

empty_of : {X : Type 0} (xs : List X) → (length xs == 0) ≡ true → xs ≡ []
empty_of [] e = refl
empty_of (x ∷ xs) e = absurd (none (length (x ∷ xs)) e (omega arith))
  where
    none : (n : ℕ) → (n == 0) ≡ true → 0 < n → ⊥
    none n e h = grind (arith, nat_tests)

both_choice : {A : Type 0} (a b : Bool) (r s : Result A ReportWhy) (x : A) (P : Type 0) → (a ≡ true → b ≡ true → r ≡ Ok x → P) → (s ≡ Ok x → P) → cond (a && b) r s ≡ Ok x → P
both_choice a b r s x P f g e = grind (arith, nat_tests)

-- one more at the end of a part that a text's lines follow
text_more : {X : Type 0} (f : X → List ℕ) (before line after : List ℕ) (xs : List X) (x : X) → line ≡ f x → before ++ flat_map f (xs ++ x ∷ []) ++ after ≡ before ++ flat_map f xs ++ (line ++ after)
text_more f before line after xs x e = rw (flat_map-append f xs (x ∷ []), append-nil (f x), e) (parts before (flat_map f xs) (f x) after)
  where
    parts : (before a b after : List ℕ) → before ++ (a ++ b) ++ after ≡ before ++ a ++ (b ++ after)
    parts before a b after = simp append_assoc

-- what is read below these rows is of the script, and spelled so
record IsTail (script : Script) (rows : List Row) (text : List ℕ) (report : Report) : Type 0 where
  same_rows : report.rows ≡ rows
  tail : IsTailOf script report
  spelled : tail_text script report ≡ text

-- a report of these requests, which are the script's, and its text
record IsSpelled (script : Script) (requests : List Request) (text : List ℕ) (report : Report) : Type 0 where
  lines : map request_of_row report.rows ≡ requests
  rows : All (IsRowOf script) report.rows
  tail : IsTailOf script report
  spelled : report_text script report ≡ text

module _ (script : Script) (requests : List Request) (report : Report) where
  -- nothing follows the end
  ended-is : (rows : List Row) (segments : List (ℕ × Segment)) (runs : List (ℕ × ℕ × ℕ)) (p : ℕ × ℕ) (number : ℕ) (lines : List (List ℕ)) → slice_get requests (length rows) ≡ None
      → lines_after script requests (record (read rows segments runs) { played = Some p; ended = true }) number lines ≡ Ok report
      → (record { rows = rows; segments = segments; runs = runs; first = p.0; frames = p.1 } ≡ report) × (lines ≡ [])
  ended-is rows segments runs p number [] past e = (cc (e), refl)
  ended-is rows segments runs p number (line ∷ lines) past e = let wrong = rw past at e in absurd (cc (wrong))

  -- the end follows what was played
  played-is : (rows : List Row) (segments : List (ℕ × Segment)) (runs : List (ℕ × ℕ × ℕ)) (p : ℕ × ℕ) (number : ℕ) (lines : List (List ℕ)) → slice_get requests (length rows) ≡ None → AreLines lines
      → lines_after script requests (record (read rows segments runs) { played = Some p }) number lines ≡ Ok report
      → (record { rows = rows; segments = segments; runs = runs; first = p.0; frames = p.1 } ≡ report) × (joined lines ≡ codes "end\n")
  played-is rows segments runs p number [] past one e = absurd (cc (e))
  played-is rows segments runs p number (line ∷ lines) past one e =
      let here = rw past at e in
      let next = on_line-ok (next_line number) _ _ report here in
      let a = bind_ok (expect_word (codes "end") line) _ next.0 next.1 in
      let f = bind_ok (feed_of a.0) _ next.0 a.2 in
      let feed = feed_of-is a.0 f.0 f.1 in
      let said : line ≡ codes "end\n" = one_line line (codes "end") feed.0 one.0 (expect_word-is (codes "end") line a.0 a.1 ∙ ap (λ r. codes "end" ++ r) feed.1) in
      let end = ended-is rows segments runs p (next_line number) lines past
      (ok_to (λ (s : State). lines_after script requests s (next_line number) lines ≡ Ok report) next.0 (record (read rows segments runs) { played = Some p; ended = true }) (sym f.2) next.2) in
      (end.0, rw (said, end.1) refl)

  -- the lines below the rows, where these segments and runs are read
  tail-is : (rows : List Row) (segments : List (ℕ × Segment)) (runs : List (ℕ × ℕ × ℕ)) (number : ℕ) (lines : List (List ℕ)) → slice_get requests (length rows) ≡ None → AreLines lines
      → All (IsSegmentOf script) segments → All (IsRunOf script) runs → lines_after script requests (read rows segments runs) number lines ≡ Ok report
      → IsTail script rows (flat_map (segment_line script) segments ++ flat_map (run_line script) runs ++ joined lines) report
  tail-is rows segments runs number [] past one own_segments own_runs e = absurd (cc (e))
  tail-is rows segments runs number (line ∷ lines) past one own_segments own_runs e =
      let here = rw past at e in
      let next = on_line-ok (next_line number) _ _ report here in
      let w = bind_ok (front_word line) _ next.0 next.1 in
      let word = w.0.0 in
      let rest = w.0.1 in
      let s : State = read rows segments runs in
      let P : Type 0 = IsTail script rows (flat_map (segment_line script) segments ++ flat_map (run_line script) runs ++ (line ++ joined lines)) report in
      let go : State → Type 0 = λ (t : State). lines_after script requests t (next_line number) lines ≡ Ok report in
      let at : (v : List ℕ) → word ≡ v → line ≡ v ++ rest = λ v same. front_word-is line w.0 w.1 ∙ ap (λ x. x ++ rest) same in
      let last : Result State ReportWhy = if bytes_eq word (codes "played") then with_played s rest else Err why.Word in
      let later : Result State ReportWhy = if bytes_eq word (codes "run") then with_run script s rest else last in
      both_choice (bytes_eq word (codes "segment")) (length runs == 0) (with_segment script s rest) later next.0 P
      (λ v n f.
      let is = at (codes "segment") ((bytes_eq-Decides word (codes "segment")).0 v) in
      let a = bind_ok (segment_at script rest) (λ segment. Ok (record s { segments = segments ++ segment ∷ [] })) next.0 f in
      let own = segment_at-is script rest a.0 (subst IsOneLine is one.0) a.1 in
      subst (λ text. IsTail script rows text report)
      (ap (λ r. flat_map (segment_line script) (segments ++ a.0 ∷ []) ++ flat_map (run_line script) r ++ joined lines) (empty_of runs n)
      ∙ ap (λ r. r ++ joined lines) (append-nil (flat_map (segment_line script) (segments ++ a.0 ∷ [])))
      ∙ text_more (segment_line script) [] line (joined lines) segments a.0 (is ∙ own.1)
      ∙ ap (λ r. r ++ (line ++ joined lines)) (sym (append-nil (flat_map (segment_line script) segments)))
      ∙ ap (λ r. flat_map (segment_line script) segments ++ flat_map (run_line script) r ++ (line ++ joined lines)) (sym (empty_of runs n)))
      (tail-is rows (segments ++ a.0 ∷ []) runs (next_line number) lines past one.1 (All-push (IsSegmentOf script) segments a.0 own_segments own.0) own_runs
      (ok_to go next.0 (read rows (segments ++ a.0 ∷ []) runs) (sym a.2) next.2)))
      (λ g. word_choice word (codes "run") (with_run script s rest) last next.0 P
      (λ v f.
      let is = at (codes "run") v in
      let a = bind_ok (run_at script rest) (λ run. Ok (record s { runs = runs ++ run ∷ [] })) next.0 f in
      let own = run_at-is script rest a.0 (subst IsOneLine is one.0) a.1 in
      subst (λ text. IsTail script rows text report)
      (text_more (run_line script) (flat_map (segment_line script) segments) line (joined lines) runs a.0 (is ∙ own.1))
      (tail-is rows segments (runs ++ a.0 ∷ []) (next_line number) lines past one.1 own_segments (All-push (IsRunOf script) runs a.0 own_runs own.0)
      (ok_to go next.0 (read rows segments (runs ++ a.0 ∷ [])) (sym a.2) next.2)))
      (λ h. word_choice word (codes "played") (with_played s rest) (Err why.Word) next.0 P
      (λ v f.
      let is = at (codes "played") v in
      let a = bind_ok (played_run rest) (λ played. Ok (record s { played = Some played })) next.0 f in
      let end = played-is rows segments runs a.0 (next_line number) lines past one.1 (ok_to go next.0 (record s { played = Some a.0 }) (sym a.2) next.2) in
      subst (IsTail script rows (flat_map (segment_line script) segments ++ flat_map (run_line script) runs ++ (line ++ joined lines))) end.0 (record {
        same_rows = refl;
        tail = record { segments = own_segments; runs = own_runs };
        spelled =
            append_assoc (flat_map (segment_line script) segments ++ flat_map (run_line script) runs) (played_line a.0.0 a.0.1) (codes "end\n")
            ∙ ap (λ l. flat_map (segment_line script) segments ++ flat_map (run_line script) runs ++ (l ++ codes "end\n"))
            (sym (is ∙ played_run-spelled rest a.0 (subst IsOneLine is one.0) a.1))
            ∙ ap (λ l. flat_map (segment_line script) segments ++ flat_map (run_line script) runs ++ (line ++ l)) (sym end.1);
      }))
      (λ (k : ◌≡◌ {A = Result State ReportWhy} (Err why.Word) (Ok next.0)). absurd (cc (k))) h) g) w.2

  -- the lines of the rows that are left, and those below
  rows-is : (todo : List Request) (rows : List Row) (number : ℕ) (lines : List (List ℕ)) → requests ≡ map request_of_row rows ++ todo
      → AllByRecursion (IsAsked (length script.clients) (length script.readers)) todo → AreLines lines → All (IsRowOf script) rows
      → lines_after script requests (read rows [] []) number lines ≡ Ok report
      → IsSpelled script requests (codes "dmixlab 1\n" ++ flat_map (row_line script) rows ++ joined lines) report
  rows-is [] rows number lines all asked one own e =
      let past : slice_get requests (length rows) ≡ None = rw all (get_next rows []) in
      let tail = tail-is rows [] [] number lines past one (All-nil (IsSegmentOf script)) (All-nil (IsRunOf script)) e in
      record {
        lines = ap (map request_of_row) tail.same_rows ∙ sym (all ∙ append-nil (map request_of_row rows));
        rows = subst (All (IsRowOf script)) (sym tail.same_rows) own;
        tail = tail.tail;
        spelled = ap (λ rs. codes "dmixlab 1\n" ++ flat_map (row_line script) rs ++ tail_text script report) tail.same_rows
            ∙ ap (λ text. codes "dmixlab 1\n" ++ flat_map (row_line script) rows ++ text) tail.spelled;
      }
  rows-is (q ∷ qs) rows number [] all asked one own e = absurd (cc (e))
  rows-is (q ∷ qs) rows number (line ∷ lines) all asked one own e =
      let at : slice_get requests (length rows) ≡ Some q = rw all (get_next rows (q ∷ qs)) in
      let here = rw at at e in
      let next = on_line-ok (next_line number) _ _ report here in
      let row = bind_ok (row_of_line script q line) _ next.0 next.1 in
      let is = row_of_line-is script q line row.0 one.0 row.1 in
      let more : requests ≡ map request_of_row (rows ++ row.0 ∷ []) ++ qs =
      all ∙ ap (λ x. map request_of_row rows ++ x ∷ qs) (sym is.tells) ∙ sym (append_assoc (map request_of_row rows) (request_of_row row.0 ∷ []) qs)
      ∙ ap (λ xs. xs ++ qs) (sym (map-append request_of_row rows (row.0 ∷ []))) in
      subst (λ text. IsSpelled script requests text report) (text_more (row_line script) (codes "dmixlab 1\n") line (joined lines) rows row.0 is.spelled)
      (rows-is qs (rows ++ row.0 ∷ []) (next_line number) lines more asked.1 one.1
      (All-push (IsRowOf script) rows row.0 own (record { actor = subst (IsAsked (length script.clients) (length script.readers)) (sym is.tells) asked.0; answer = is.answer; state = is.state }))
      (ok_to (λ (s : State). lines_after script requests s (next_line number) lines ≡ Ok report) next.0 (read (rows ++ row.0 ∷ []) [] []) (sym row.2) next.2))

  -- the head, and the lines below it
  head-is : (lines : List (List ℕ)) → All (IsAsked (length script.clients) (length script.readers)) requests → AreLines lines → lines_after script requests nothing 0 lines ≡ Ok report
      → IsSpelled script requests (joined lines) report
  head-is [] asked one e = absurd (cc (e))
  head-is (line ∷ lines) asked one e =
      let next = on_line-ok (next_line 0) _ _ report e in
      let name = bind_ok (expect_word (codes "dmixlab") line) _ next.0 next.1 in
      let more = bind_ok (space_of name.0) _ next.0 name.2 in
      let version = bind_ok (version_of more.0) _ next.0 more.2 in
      let end = bind_ok (feed_of version.0) _ next.0 version.2 in
      let feed = feed_of-is version.0 end.0 end.1 in
      let said : line ≡ codes "dmixlab 1\n" = one_line line (codes "dmixlab 1") feed.0 one.0
      (expect_word-is (codes "dmixlab") line name.0 name.1 ∙ ap (λ r. codes "dmixlab" ++ r) (space_of-is name.0 more.0 more.1)
      ∙ ap (λ r. codes "dmixlab " ++ r) (version_of-is more.0 version.0 version.1) ∙ ap (λ r. codes "dmixlab 1" ++ r) feed.1) in
      subst (λ text. IsSpelled script requests text report) (ap (λ l. l ++ joined lines) (sym said))
      (rows-is requests [] (next_line 0) lines refl (recursion_from_All (IsAsked (length script.clients) (length script.readers)) requests asked) one.1 (All-nil (IsRowOf script))
      (ok_to (λ (s : State). lines_after script requests s (next_line 0) lines ≡ Ok report) next.0 (read [] [] []) (sym end.2) next.2))

-- what is read is a report of the script, and the report's text
pub read-is : (script : Script) (text : List ℕ) (report : Report) → IsScript script → report_in_text script text ≡ Ok report → IsReportOf script report × (text ≡ report_text script report)
read-is script text report valid e =
    let is = head-is script (requests_of script) report (lines_of text) (requests_of-asked script valid) (lines_of-lines text) e in
    (record { lines = is.lines; rows = is.rows; tail = is.tail }, sym (is.spelled ∙ joined-lines_of text))

-- the same of an answer
pub answers-read : (script : Script) (text : List ℕ) (r : Result Report ReportError) → IsScript script → Answers r (report_in_text script text)
    → IfOk r (λ report. IsReportOf script report × (text ≡ report_text script report))
answers-read script text (Ok report) valid h = read-is script text report valid h
answers-read script text (Err e) valid h = tt
