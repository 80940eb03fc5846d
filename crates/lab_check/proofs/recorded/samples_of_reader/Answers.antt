use Rattle.lab_check.specs.Prelude.{ap, refl, ◌∙◌, ◌≡◌, runs_by, first_run_line, runs_with_lines, unlined_runs}
use Rattle.lab_check.proofs.ReaderRuns.{reader_below}
use Rattle.lab_check.proofs.Slices.{lines-off}
use Rattle.lab_check.proofs.recorded.samples_of_reader.Goals as goal

pub recorded_runs-requires : goal.recorded_runs-requires
recorded_runs-requires c =
    rw (c.as_slice-2.ensures.value, c.in_ok-runs.ensures, c.first_run_line.ensures, c.as_slice.ensures) (reader_below c.args.report.now c.args.number c.requires.end c.requires.reader)

pub returns : goal.returns
returns c =
    let report = c.args.report.now in
    let runs_are : c.as_slice-2.result.now ≡ runs_with_lines c.args.number (first_run_line report) report.runs =
    rw (c.as_slice-2.ensures.value, c.in_ok-runs.ensures, c.first_run_line.ensures, c.as_slice.ensures) refl in
    let left : unlined_runs c.as_slice-2.result.now ≡ runs_by c.args.number report.runs = ap unlined_runs runs_are ∙ lines-off c.args.number (first_run_line report) report.runs in
    rw (left, c.read_by.ensures) at c.recorded_runs.ensures
