-- The tests that the report of a run passes, and the samples that it says.
use Rattle.lab_check.specs.Prelude.{ap, arith, inl, inr, length, List, None, Option, refl, Some, subst, sym, take, ℕ, [], ◌+◌, ◌-◌, ◌<◌, ◌∙◌, ◌∷◌, ◌≡◌, ◌⊎◌}
use Rattle.lab_check.specs.Prelude.{and_from, eq-eqb, le-leb, le-ltb, nat_tests, append-nil, ext_get_or, take_all, prefix_len_is, slice_get_cases}
use Rattle.lab_check.specs.Prelude.{slice_get_within, flat_map, position, prefix_len, All, Bool, cond, Err, if◌then◌else◌, map, nat_eq, nat_lt, not, Ok}
use Rattle.lab_check.specs.Prelude.{option_map, slice_get, slice_index_or, suc, true, zero, ℤ, Segment, canonical, Sound, Report, ReaderLine, Script, IsScript}
use Rattle.lab_check.specs.Prelude.{first_frame, frames_played, phases_of, report_in_text, report_text, captured_sample, LabRun, Outcome, IsSessionOf, read_by}
use Rattle.lab_check.specs.Prelude.{runs_by, bindings_at, frames_of_runs, recording_of, UnopenedHaveNoRuns, IsChecked, run_sounds, most_of_report}
use Rattle.lab_check.specs.Prelude.{played_defect, report_defect, report_or_line, row_defect, segment_defect, tested, tested_report, is_right_place}
use Rattle.lab_check.specs.Prelude.{is_right_row, first_row_line, first_segment_line, line_of_played, reader_defect, readers_defect, captured_by, captured_runs}
use Rattle.lab_check.specs.Prelude.{played_samples, reader_samples, readers_samples, run_samples, is_right_segment, SaysHeadline}
use Rattle.lab_report.specs.Ranges.{IsReportInRange}
use Rattle.lab_report.proofs.Back.{report_in_text-text}
use Rattle.lab_run.specs.Stage.{Session}
use Rattle.lab_run.proofs.ScriptWords.{stages-of_scripts}
use Rattle.run_laws.specs.Headline.{Headline}
use Rattle.run_laws.specs.Reports.{IsOutcomeOf}
use Rattle.run_laws.specs.Segments.{AreOfClients, IsOfClient}
use Rattle.run_laws.proofs.CapturedRuns.{readers-capture}
use Rattle.run_laws.proofs.Runs.{outcomes-are_of_scripts}
use Rattle.lab_check.specs.Runs.{CanPass, UnlateRowsPass, samples_of_run}
use Rattle.lab_check.proofs.ReaderSamples.{recorded-at}
use Rattle.lab_check.proofs.RunReads.{both-none, reader-passes}
use Rattle.lab_check.proofs.Shows.{recorded-size, says-headline}

-- ---- where a test passes everywhere

none-found : {X : Type 0} (p : X → Bool) (xs : List X) → All (λ x. p x ≡ true) xs → position (λ x. not (p x)) xs ≡ None
none-found p [] are = refl
none-found p (x ∷ xs) are =
    let all : prefix_len (λ y. not (not (p y))) (x ∷ xs) ≡ length (x ∷ xs) =
    prefix_len_is (λ y. not (not (p y))) (x ∷ xs) (length (x ∷ xs)) x (omega arith) (λ k low. ap (λ b. not (not b)) (are k x low)) (λ past. absurd (omega (arith, past))) in
    ap (λ n. cond (nat_lt n (length (x ∷ xs))) (Some n) None) all
    ∙ ap (λ b. cond b (Some (length (x ∷ xs))) None) (le-ltb (length (x ∷ xs)) (length (x ∷ xs)) (omega arith))

-- ---- late rows

pub unlate-pass : UnlateRowsPass
unlate-pass script wavs report none = ap (option_map (λ k. first_row_line + k))
    (none-found (is_right_row script wavs report) report.rows (λ k d low. ap (is_right_place script wavs report (slice_index_or report.rows k d)) (none k d low)))

-- ---- segments

segment-passes : (script : Script) (wavs : List Sound) (number : ℕ) (segment : Segment) → IsOfClient script wavs number segment
    → is_right_segment script wavs (number, segment) ≡ true
segment-passes script wavs number segment of = grind (arith, nat_tests)

-- ---- readers

readers-pass : (report : Report) (first more : ℕ) → ((number : ℕ) → number < first + more → reader_defect report number ≡ None) → readers_defect report first more ≡ None
readers-pass report first zero each = refl
readers-pass report first (suc more) each = both-none (reader_defect report first) (readers_defect report (first + 1) more) (each first (omega arith))
    (readers-pass report (first + 1) more (λ number low. each number (omega (arith, low))))

-- ---- a run

module _ (script : Script) (wavs : List Sound) (session : Session) (capture : Option Sound) (client_stops reader_stops : ℕ → ℕ) (outcome : Outcome)
    (script_is : IsScript script) (session_is : IsSessionOf script wavs session) (run : LabRun session capture script.body client_stops reader_stops outcome)
    (headline : Headline script wavs session capture outcome) (segments : AreOfClients script wavs outcome.report) (unopened : UnopenedHaveNoRuns session outcome.report) where
  left : IsOutcomeOf script outcome
  left = outcomes-are_of_scripts script wavs session capture client_stops reader_stops outcome script_is session_is run

  -- the card is at the end of all phases
  frames-played : outcome.report.frames ≡ frames_played (phases_of script.body)
  frames-played =
      let after = stages-of_scripts script wavs session script.body [] run.end
      (record { script_is = script_is; session_is = session_is; body = sym (append-nil script.body); may = run.may }) in
      let position : run.end.position ≡ first_frame script.card + frames_played (phases_of script.body) =
      after.position
      ∙ ap (λ n. first_frame script.card + frames_played (take n (phases_of script.body))) after.phases
      ∙ ap (λ l. first_frame script.card + frames_played l) (take_all (length (phases_of script.body)) (phases_of script.body) (omega arith)) in
      let first : first_frame session.card ≡ first_frame script.card = ap first_frame session_is.card in
      let played : run.end.position - first_frame session.card ≡ frames_played (phases_of script.body) = omega (arith, position, first) in
      ap (λ (o : Outcome). o.report.frames) run.is ∙ played

  -- ---- the tests

  played-passes : played_defect script outcome.report ≡ None
  played-passes = ap (λ b. if b then None else Some (line_of_played outcome.report))
      (and_from (nat_eq outcome.report.first (first_frame script.card)) (nat_eq outcome.report.frames (frames_played (phases_of script.body)))
      (eq-eqb outcome.report.first (first_frame script.card) left.sizes.played.first) (eq-eqb outcome.report.frames (frames_played (phases_of script.body)) frames-played))

  right-segments : All (λ segment. is_right_segment script wavs segment ≡ true) outcome.report.segments
  right-segments k d low = segment-passes script wavs _ _ (segments k d low)

  segment-none : segment_defect script wavs outcome.report ≡ None
  segment-none = ap (option_map (λ k. first_segment_line outcome.report + k)) (none-found (is_right_segment script wavs) outcome.report.segments right-segments)

  readers-none : readers_defect outcome.report 0 (length script.readers) ≡ None
  readers-none = readers-pass outcome.report 0 (length script.readers) (λ number low.
      let there : number < length script.readers = omega (arith, low) in
      let of_session : number < length session.readers = let one = left.sizes.readers in let other = headline.recordings.readers in omega (arith, there, one, other) in
      let recording = headline.recordings.each number of_session in
      reader-passes outcome.report number recording.after (readers-capture script wavs session capture client_stops reader_stops outcome script_is session_is run number there) recording.stretches)

  report-none : row_defect script wavs outcome.report ≡ None → report_defect script wavs outcome.report ≡ None
  report-none rows = both-none (played_defect script outcome.report) _ played-passes
      (both-none (segment_defect script wavs outcome.report) _ segment-none
      (both-none (row_defect script wavs outcome.report) (readers_defect outcome.report 0 (length script.readers)) rows readers-none))

  text-tested : IsReportInRange outcome.report → CanPass script wavs outcome.report → tested_report script wavs (report_text script outcome.report) ≡ Ok outcome.report
  text-tested numbers can =
      ap (λ (b : Bool). if b then tested script wavs (report_in_text script (report_text script outcome.report)) else Err 0) (le-leb _ most_of_report can.short)
      ∙ ap (tested script wavs) (report_in_text-text script outcome.report script_is left.report numbers)
      ∙ ap (report_or_line outcome.report) (report-none can.rows)

  -- ---- the samples

  played-same : outcome.played ≡ played_samples script wavs outcome.report
  played-same = grind (arith, nat_tests)

  captured-same : captured_sample session capture ≡ captured_by script.card capture
  captured-same = grind (arith, nat_tests)

  -- a reader's samples, of one that was opened and one that couldn't be
  reader-same : (number : ℕ) (line : ReaderLine) → slice_get script.readers number ≡ Some line
      → slice_index_or outcome.recorded number [] ≡ reader_samples script.card capture outcome.report number line
  reader-same number line line_is = by_bound (headline.readers number line line_is)
    where
      there : number < length session.readers
      there =
          let low : number < length script.readers = slice_get_within script.readers number line line_is in
          let one = left.sizes.readers in let other = headline.recordings.readers in omega (arith, low, one, other)

      samples : slice_index_or outcome.recorded number [] ≡ recording_of session capture (bindings_at session number) (runs_by number outcome.report.runs)
      samples = (headline.recordings.each number there).frames

      by_bound : (slice_index_or session.readers number None ≡ None) ⊎ (bindings_at session number ≡ read_by script.card line)
          → slice_index_or outcome.recorded number [] ≡ reader_samples script.card capture outcome.report number line
      by_bound (inl none) =
          let empty : runs_by number outcome.report.runs ≡ [] = unopened number none in
          samples ∙ ap (recording_of session capture (bindings_at session number)) empty
          ∙ sym (ap (captured_runs script.card capture (read_by script.card line)) empty)
      by_bound (inr same) = samples
          ∙ ap (λ bindings. recording_of session capture bindings (runs_by number outcome.report.runs)) same
          ∙ ap (λ (sample_of : ℕ → ℕ → ℤ). flat_map (λ frame. map (sample_of frame) (read_by script.card line)) (frames_of_runs (runs_by number outcome.report.runs))) captured-same

  recorded-same : outcome.recorded ≡ readers_samples script.card capture outcome.report 0 script.readers
  recorded-same = ext_get_or [] outcome.recorded (readers_samples script.card capture outcome.report 0 script.readers)
      (left.sizes.readers ∙ sym (recorded-size script.card capture outcome.report 0 script.readers))
      (λ k low. elim (slice_get_cases script.readers k).1 [
        | inl there ↦ reader-same k there.0 there.2 ∙ sym (recorded-at script.card capture outcome.report k script.readers there.0 there.2)
        | inr past ↦ absurd (omega (arith, low, left.sizes.readers, past.0))
      ])

  samples-same : samples_of_run outcome ≡ run_samples script wavs capture outcome.report
  samples-same = λ k. record { played = played-same k; recorded = recorded-same k }

  -- ---- the run

  pub run-checked : IsReportInRange outcome.report → CanPass script wavs outcome.report
      → IsChecked script wavs capture (report_text script outcome.report) (map canonical (run_sounds script (samples_of_run outcome)))
  run-checked numbers can = record {
    report = outcome.report;
    passes = text-tested numbers can;
    files_are = ap (λ samples. map canonical (run_sounds script samples)) samples-same;
  }

  pub run-says : SaysHeadline script wavs capture outcome.report (samples_of_run outcome)
  run-says = subst (SaysHeadline script wavs capture outcome.report) (sym samples-same)
      (says-headline script wavs capture outcome.report left.sizes.played.first right-segments readers-none)
