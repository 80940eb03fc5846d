use Rattle.std.proofs.Common.{sym}
use Rattle.text_words.proofs.LineWords.{lines_from-at, lines_from-none}
use Rattle.text_words.proofs.lexing.first_line.Goals as goal

pub returns-in-Some-clause-line : goal.returns-in-Some-clause-line
returns-in-Some-clause-line c n = lines_from-at c.args.text.now c.in-Some.end n (sym c.in-Some.ensures)

pub returns-in-None-clause-line : goal.returns-in-None-clause-line
returns-in-None-clause-line c n = lines_from-none c.args.text.now n (sym c.in-None.ensures)
