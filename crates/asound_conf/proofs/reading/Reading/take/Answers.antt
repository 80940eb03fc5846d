-- What a token does, by its kind.
use Rattle.std.proofs.Common.{refl, sym, ◌∙◌}
use Rattle.asound_conf.proofs.Readers.{Refuses-Err}
use Rattle.asound_conf.proofs.reading.Reading.take.Goals as goal

pub returns-then-begins-clause-leads : goal.returns-then-begins-clause-leads
returns-then-begins-clause-leads c = rw (c.in-Word.is, sym c.begins.ensures ∙ c.if-begins.true) refl

pub take_word-requires-clause-at : goal.take_word-requires-clause-at
take_word-requires-clause-at c = rw c.in-Word.is at c.requires.given

pub returns-else-begins-clause-leads : goal.returns-else-begins-clause-leads
returns-else-begins-clause-leads c = rw (c.in-Word.is, sym c.begins.ensures ∙ c.if-begins.false) c.take_word.ensures.leads

pub take_quoted-requires-clause-at : goal.take_quoted-requires-clause-at
take_quoted-requires-clause-at c = rw c.in-Quoted.is at c.requires.given

pub returns-in-Quoted-clause-leads : goal.returns-in-Quoted-clause-leads
returns-in-Quoted-clause-leads c = rw c.in-Quoted.is c.take_quoted.ensures.leads

pub returns-in-Mark-clause-leads : goal.returns-in-Mark-clause-leads
returns-in-Mark-clause-leads c = rw c.in-Mark.is c.take_mark.ensures.leads

pub returns-in-Bad-clause-leads : goal.returns-in-Bad-clause-leads
returns-in-Bad-clause-leads c = rw c.in-Bad.is (Refuses-Err c.in-Bad.why _ refl)
