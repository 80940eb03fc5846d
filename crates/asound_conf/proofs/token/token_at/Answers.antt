-- Which token begins with the first byte, and where it ends.
use Rattle.asound_conf.specs.Prelude.{ap, false, sym, true, ◌∙◌, take_rest, slice_index, is_quote, quoted_size, quoted_token}
use Rattle.asound_conf.proofs.FirstBytes.{token_at-bad, token_at-mark, token_at-quote, token_at-word, token_end-one, token_end-quote, token_end-word}
use Rattle.asound_conf.proofs.token.token_at.Goals as goal

pub word_end-end-requires-clause-word : goal.word_end-end-requires-clause-word
word_end-end-requires-clause-word c = sym c.is_word.ensures ∙ c.if-is_word.true

pub returns-then-is_word-clause-token : goal.returns-then-is_word-clause-token
returns-then-is_word-clause-token c = rw c.word_end-end.ensures.value (sym (token_at-word c.args.text.now (sym c.is_word.ensures ∙ c.if-is_word.true)))

pub returns-then-is_word-clause-end : goal.returns-then-is_word-clause-end
returns-then-is_word-clause-end c = c.word_end-end.ensures.value ∙ sym (token_end-word c.args.text.now (sym c.is_word.ensures ∙ c.if-is_word.true))

pub returns-then-is_quote-clause-token : goal.returns-then-is_quote-clause-token
returns-then-is_quote-clause-token c =
    let text = c.args.text.now in
    c.quoted_token.ensures ∙ ap (quoted_token (slice_index text 0)) (take_rest text 1) ∙ sym (token_at-quote text (sym c.is_quote.ensures ∙ c.if-is_quote.true))

pub returns-then-is_quote-clause-end : goal.returns-then-is_quote-clause-end
returns-then-is_quote-clause-end c =
    let text = c.args.text.now in
    c.quoted_size.ensures.value ∙ ap (quoted_size (slice_index text 0)) (take_rest text 1) ∙ sym (token_end-quote text (sym c.is_quote.ensures ∙ c.if-is_quote.true))

pub returns-in-Some-clause-token : goal.returns-in-Some-clause-token
returns-in-Some-clause-token c = sym (token_at-mark c.args.text.now c.in-Some.mark (sym c.mark_of.ensures ∙ c.in-Some.is))

pub returns-in-Some-clause-end : goal.returns-in-Some-clause-end
returns-in-Some-clause-end c = sym (token_end-one c.args.text.now c.requires.kept (sym c.is_quote.ensures ∙ c.if-is_quote.false) (sym c.is_word.ensures ∙ c.if-is_word.false))

pub returns-in-None-clause-token : goal.returns-in-None-clause-token
returns-in-None-clause-token c =
    sym (token_at-bad c.args.text.now (sym c.mark_of.ensures ∙ c.in-None.is) (sym c.is_quote.ensures ∙ c.if-is_quote.false) (sym c.is_word.ensures ∙ c.if-is_word.false))

pub returns-in-None-clause-end : goal.returns-in-None-clause-end
returns-in-None-clause-end c = sym (token_end-one c.args.text.now c.requires.kept (sym c.is_quote.ensures ∙ c.if-is_quote.false) (sym c.is_word.ensures ∙ c.if-is_word.false))
