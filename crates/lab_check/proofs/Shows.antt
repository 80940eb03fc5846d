-- What a checked run shows.
use Rattle.lab_check.specs.Prelude.{ap, arith, length, List, mul-le-mul, None, Option, refl, Some, subst, sym, ℕ, [], ◌%◌, ◌*◌, ◌+◌, ◌<◌, ◌∙◌, ◌∷◌, ◌≡◌, ◌≤◌}
use Rattle.lab_check.specs.Prelude.{nat_tests, All-from_recursion, recursion_from_All, get_or-map-range_with_len, length-map-range_with_len, div-mul-add}
use Rattle.lab_check.specs.Prelude.{mod-mul-add, slice_get_within, All, map, pos, slice_get, slice_index_or, suc, true, clamp_of, total, Sound, Report}
use Rattle.lab_check.specs.Prelude.{CardLine, ReaderLine, Script, first_frame, mixed_at, read_by, rows_by, runs_by, is_reader, AreSlices, AreCapturedRuns}
use Rattle.lab_check.specs.Prelude.{IsMixOfFiles, placed_from, frames_of_runs, IsChecked, first_row_line, first_run_line, end_defect, reader_defect}
use Rattle.lab_check.specs.Prelude.{readers_defect, reads_end, run_defect, runs_with_lines, captured_by, captured_runs, played_samples, readers_samples}
use Rattle.lab_check.specs.Prelude.{run_samples, is_right_segment, IsCapturedRun, IsShown, SaysHeadline, ShowsReader}
use Rattle.run_laws.proofs.Recorded.{frames-count, samples-count}
use Rattle.lab_check.proofs.ClientTotals.{sums-are}
use Rattle.lab_check.proofs.LateMisses.{row-shows}
use Rattle.lab_check.proofs.ReaderSamples.{recorded-at}
use Rattle.lab_check.proofs.Slices.{TookAll, each-captured, lines-off, reader-captured, rows-took, unlined}
use Rattle.lab_check.proofs.Tested.{has-none, one_reader, played-passes, rows-pass, second-none, segments_right, text-passes}

mix-shows : (script : Script) (wavs : List Sound) (report : Report) → report.first ≡ first_frame script.card → IsMixOfFiles script wavs report (played_samples script wavs report)
mix-shows script wavs report first_is =
    let channels = script.card.channels in
    let mixed_of = mixed_at channels report.first (placed_from script wavs report) in
    record {
      first = first_is;
      samples = length-map-range_with_len mixed_of 0 (report.frames * channels);
      sums = λ frame channel in_frames in_channels.
          let k = frame * channels + channel in
          let most : suc frame * channels ≤ report.frames * channels = mul-le-mul {n₁ = suc frame} {m₁ = channels} {n₂ = report.frames} {m₂ = channels} in_frames (omega arith) in
          let step : suc frame * channels ≡ frame * channels + channels = omega arith in
          let within : k < report.frames * channels = omega (arith, most, step, in_channels) in
          get_or-map-range_with_len mixed_of 0 (report.frames * channels) k k (pos 0) within (omega arith)
          ∙ ap (λ f. clamp_of (total (placed_from script wavs report) (report.first + f) (k % channels))) (div-mul-add frame channels channel in_channels)
          ∙ ap (λ c. clamp_of (total (placed_from script wavs report) (report.first + frame) c)) (mod-mul-add frame channels channel in_channels);
    }

-- a reader of which nothing fails
pub reader-shows : (script : Script) (capture : Option Sound) (report : Report) (number : ℕ) (line : ReaderLine) → reader_defect report number ≡ None
    → ShowsReader script capture report number line (captured_runs script.card capture (read_by script.card line) (runs_by number report.runs))
reader-shows script capture report number line is =
    let lined = runs_with_lines number (first_run_line report) report.runs in
    let runs = runs_by number report.runs in
    let same : map unlined lined ≡ runs = lines-off number (first_run_line report) report.runs in
    let none_read = second-none (run_defect report.first (report.first + report.frames) lined) (end_defect (reads_end number first_row_line (None, lined) report.rows)) is in
    let took : TookAll None lined (rows_by (is_reader number) report.rows) = rows-took number first_row_line None lined report.rows none_read in
    let bindings = read_by script.card line in
    record {
      frames = refl;
      samples_are = samples-count (captured_by script.card capture) bindings (frames_of_runs runs) ∙ ap (λ n. n * length bindings) (frames-count runs);
      captured = All-from_recursion (IsCapturedRun report.first (report.first + report.frames)) runs
          (each-captured report.first report.first _ runs (omega arith) (subst (AreCapturedRuns report.first (report.first + report.frames)) same (reader-captured report number is)));
      after = took.0;
      stretches = subst (λ (r : List (ℕ × ℕ)). AreSlices None (rows_by (is_reader number) report.rows) (frames_of_runs r) took.0) same took.1;
    }

pub recorded-size : (card : CardLine) (capture : Option Sound) (report : Report) (number : ℕ) (lines : List ReaderLine)
    → length (readers_samples card capture report number lines) ≡ length lines
recorded-size card capture report number [] = refl
recorded-size card capture report number (line ∷ lines) = ap suc (recorded-size card capture report (number + 1) lines)

each-shows : (script : Script) (capture : Option Sound) (report : Report) → readers_defect report 0 (length script.readers) ≡ None → (number : ℕ) (line : ReaderLine)
    → slice_get script.readers number ≡ Some line
    → ShowsReader script capture report number line (slice_index_or (readers_samples script.card capture report 0 script.readers) number [])
each-shows script capture report readers number line is =
    let none : reader_defect report number ≡ None = one_reader script report number (slice_get_within script.readers number line is) readers in
    subst (ShowsReader script capture report number line) (sym (recorded-at script.card capture report number script.readers line is)) (reader-shows script capture report number line none)

-- a report that says what its card played, whose segments and readers can be, says the headline
pub says-headline : (script : Script) (wavs : List Sound) (capture : Option Sound) (report : Report) → report.first ≡ first_frame script.card
    → All (λ segment. is_right_segment script wavs segment ≡ true) report.segments → readers_defect report 0 (length script.readers) ≡ None
    → SaysHeadline script wavs capture report (run_samples script wavs capture report)
says-headline script wavs capture report first segments readers = record {
  mix = mix-shows script wavs report first;
  clients = λ frame channel. sums-are script wavs frame channel report.segments (recursion_from_All (λ segment. is_right_segment script wavs segment ≡ true) report.segments segments);
  late = λ none k row low. row-shows script wavs report _ (rows-pass script wavs report none k row low);
  readers = recorded-size script.card capture report 0 script.readers;
  each = each-shows script capture report readers;
}

-- and so does what a check shows
pub shown-says : (script : Script) (wavs : List Sound) (capture : Option Sound) (text : List ℕ) (files : List (List ℕ)) (shown : IsShown script wavs capture text files)
    → SaysHeadline script wavs capture shown.report shown.samples
shown-says script wavs capture text files shown = grind (arith, nat_tests)

pub checked-shows : (script : Script) (wavs : List Sound) (capture : Option Sound) (text : List ℕ) (files : List (List ℕ))
    → IsChecked script wavs capture text files → IsShown script wavs capture text files
checked-shows script wavs capture text files checked =
    let report = checked.report in
    let passed = text-passes script wavs text report checked.passes in
    let none = has-none script wavs report passed.none in
    let says = says-headline script wavs capture report (played-passes script report none.played).0 (segments_right script wavs report none.segment) none.readers in
    record {
      report = checked.report;
      samples = run_samples script wavs capture checked.report;
      read = passed.read;
      shows = record { mix = says.mix; clients = says.clients; late = says.late none.row; readers = says.readers; each = says.each };
      files_are = checked.files_are;
    }
