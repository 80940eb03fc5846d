use Rattle.lab_report.specs.Prelude.{sym, is_space, split_at, split_none}
use Rattle.lab_report.proofs.words.split_word.Goals as goal

pub returns-in_err-end-clause-none : goal.returns-in_err-end-clause-none
returns-in_err-end-clause-none c = rw c.from_residual.ensures (split_none is_space c.args.words.now (sym c.in_err-end.ensures))

pub returns-clause-some : goal.returns-clause-some
returns-clause-some c = split_at is_space c.args.words.now c.in_ok-end.end (sym c.in_ok-end.ensures)
