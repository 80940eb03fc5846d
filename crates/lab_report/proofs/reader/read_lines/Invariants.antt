use Rattle.lab_report.specs.Prelude.{length, ◌≡◌, lines_after, nothing, view, lines_of}
use Rattle.lab_report.proofs.reader.read_lines.Given as goal

abbrev pub invariant-loop-line : goal.invariant-loop-line
invariant-loop-line l =
    lines_after l.script l.requests (view l.draft) l.number (lines_of l.rest) ≡ lines_after l.fn.script l.fn.requests nothing 0 (lines_of l.fn.text)

abbrev pub decreases-loop-line : goal.decreases-loop-line
decreases-loop-line l = length l.rest
