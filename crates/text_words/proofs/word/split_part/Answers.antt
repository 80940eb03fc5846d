use Rattle.text_words.specs.Prelude.{None, sym, ◌≡◌, position, is_comma}
use Rattle.text_words.proofs.Cuts.{split_at, split_none}
use Rattle.text_words.proofs.word.split_part.Goals as goal

pub returns-in_err-end-clause-none : goal.returns-in_err-end-clause-none
returns-in_err-end-clause-none c =
    let none : position is_comma c.args.list.now ≡ None = sym c.in_err-end.ensures in
    rw c.from_residual.ensures (split_none is_comma c.args.list.now none)

pub returns-clause-some : goal.returns-clause-some
returns-clause-some c = split_at is_comma c.args.list.now c.in_ok-end.end (sym c.in_ok-end.ensures)
