use Rattle.std.proofs.Common.{◌≡◌, ◌==◌, false, length, sym}
use Rattle.lab_report.proofs.Parts.{lines_of-at, lines_of-none, not_empty}
use Rattle.lab_report.proofs.lines.first_line.Goals as goal

pub returns-in-Some-clause-line : goal.returns-in-Some-clause-line
returns-in-Some-clause-line c = lines_of-at c.args.text.now c.in-Some.end (sym c.in-Some.ensures)

pub returns-in-None-clause-line : goal.returns-in-None-clause-line
returns-in-None-clause-line c =
    let some : (length c.args.text.now == 0) ≡ false = cc in
    lines_of-none c.args.text.now (sym c.in-None.ensures) (not_empty c.args.text.now some)
