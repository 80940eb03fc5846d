-- The samples of a checked run are so few that a canonical file holds them.
use Rattle.lab_check.specs.Prelude.{ap, arith, length, List, mul-le-mul, None, Option, Some, subst, sym, ℕ, [], ◌*◌, ◌+◌, ◌-◌, ◌<◌, ◌^◌, ◌∷◌, ◌≡◌, ◌≤◌}
use Rattle.lab_check.specs.Prelude.{All-get_or, length-map-range_with_len, get_or_from_slice_get, slice_get_within, map, slice_get, Sound, Report, ReaderLine}
use Rattle.lab_check.specs.Prelude.{Script, IsReaderLine, IsScript, mixed_at, read_by, runs_by, AreCapturedRuns, placed_from, frames_in_runs, HasTestedRuns}
use Rattle.lab_check.specs.Prelude.{HasTestedSegments, first_run_line, lined_runs, reader_defect, played_samples, reader_samples}
use Rattle.run_laws.proofs.SampleSizes.{line-channels}
use Rattle.lab_check.proofs.Shows.{reader-shows}
use Rattle.lab_check.proofs.Slices.{lines-off, reader-captured, unlined}
use Rattle.lab_check.proofs.Tested.{one_reader, played-passes}

pub played-few : (script : Script) (wavs : List Sound) (report : Report) → IsScript script → HasTestedSegments script wavs report
    → length (played_samples script wavs report) * 2 + 36 < 2 ^ 32
played-few script wavs report valid tested =
    let channels : script.card.channels ≤ 8 = valid.card.channels.high in
    let frames : report.frames ≤ 4194304 = subst (λ n. n ≤ 4194304) (sym (played-passes script report tested.played).1) valid.frames in
    let size : length (played_samples script wavs report) ≡ report.frames * script.card.channels =
    length-map-range_with_len (mixed_at script.card.channels report.first (placed_from script wavs report)) 0 (report.frames * script.card.channels) in
    let most : report.frames * script.card.channels ≤ 4194304 * 8 = mul-le-mul frames channels in
    omega (arith, size, most)

-- ---- a reader

-- its runs are apart
runs-frames : (least end : ℕ) (runs : List (ℕ × ℕ)) → AreCapturedRuns least end runs → frames_in_runs runs ≤ end - least
runs-frames least end [] are = omega arith
runs-frames least end ((first, count) ∷ runs) (some, from, to, rest) =
    let more : frames_in_runs runs ≤ end - (first + count + 1) = runs-frames (first + count + 1) end runs rest in omega (arith, from, to, more)

pub reader-few : (script : Script) (capture : Option Sound) (report : Report) (number : ℕ) (line : ReaderLine) → IsScript script → HasTestedRuns script report
    → slice_get script.readers number ≡ Some line
    → length (reader_samples script.card capture report number line) * 2 + 36 < 2 ^ 32
reader-few script capture report number line valid tested line_is =
    let none : reader_defect report number ≡ None = one_reader script report number (slice_get_within script.readers number line line_is) tested.readers in
    let own : IsReaderLine script.card line =
    subst (IsReaderLine script.card) (get_or_from_slice_get script.readers number line line line_is)
    (All-get_or (IsReaderLine script.card) script.readers number line (slice_get_within script.readers number line line_is) valid.each_reader) in
    let channels : length (read_by script.card line) ≤ 8 = (line-channels script.card line valid.card own).1 in
    let within : frames_in_runs (map unlined (lined_runs report number)) ≤ (report.first + report.frames) - report.first =
    runs-frames report.first (report.first + report.frames) _ (reader-captured report number none) in
    let same : frames_in_runs (map unlined (lined_runs report number)) ≡ frames_in_runs (runs_by number report.runs) =
    ap frames_in_runs (lines-off number (first_run_line report) report.runs) in
    let all : report.frames ≤ 4194304 = subst (λ n. n ≤ 4194304) (sym (played-passes script report tested.played).1) valid.frames in
    let frames : frames_in_runs (runs_by number report.runs) ≤ 4194304 = omega (arith, within, same, all) in
    let size : length (reader_samples script.card capture report number line) ≡ frames_in_runs (runs_by number report.runs) * length (read_by script.card line) =
    (reader-shows script capture report number line none).samples_are in
    let most : frames_in_runs (runs_by number report.runs) * length (read_by script.card line) ≤ 4194304 * 8 = mul-le-mul frames channels in
    omega (arith, size, most)
