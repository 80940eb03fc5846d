use Rattle.text_words.specs.Prelude.{ap, sym, ◌∙◌, first_and_rest}
use Rattle.text_words.proofs.LineWords.{words_between-at, words_between-one}
use Rattle.text_words.proofs.lexing.next_word.Goals as goal

pub returns-in-Some-clause-words : goal.returns-in-Some-clause-words
returns-in-Some-clause-words c =
    sym (ap first_and_rest (sym c.in_ok-line.ensures.some)
    ∙ words_between-at c.in_ok-line.line.now c.in-Some.end (sym c.in-Some.ensures) c.in_ok-line.ensures.begins)

pub returns-in-None-clause-words : goal.returns-in-None-clause-words
returns-in-None-clause-words c =
    sym (ap first_and_rest (sym c.in_ok-line.ensures.some)
    ∙ words_between-one c.in_ok-line.line.now (sym c.in-None.ensures) c.in_ok-line.ensures.whole)
