use Rattle.std.proofs.Common.{sym}
use Rattle.text_words.proofs.LineWords.{words_between-none, words_between-from, from_word-begins}
use Rattle.text_words.proofs.lexing.from_word.Goals as goal

pub returns-in_err-start-clause-none : goal.returns-in_err-start-clause-none
returns-in_err-start-clause-none c = rw c.from_residual.ensures (words_between-none c.args.line.now (sym c.in_err-start.ensures))

pub returns-clause-some : goal.returns-clause-some
returns-clause-some c = words_between-from c.args.line.now c.in_ok-start.start (sym c.in_ok-start.ensures)

pub returns-clause-begins : goal.returns-clause-begins
returns-clause-begins c = from_word-begins c.args.line.now c.in_ok-start.start (sym c.in_ok-start.ensures)
