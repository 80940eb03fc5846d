use Rattle.text_words.specs.Prelude.{ap, arith, get_or, ◌*◌, ◌+◌, ◌-◌, ◌∙◌, ◌≡◌, ◌≤◌, take_all, digits_value}
use Rattle.text_words.proofs.Digits.{digit_more}
use Rattle.text_words.proofs.Within.{within-none, within-some, within-most, within-fits}
use Rattle.text_words.proofs.word.checked_value.Goals as goal

pub with_digit-requires-clause-low : goal.with_digit-requires-clause-low
with_digit-requires-clause-low c = (digit_more c.args.word.now c.loop-b.b-index c.requires c.loop-b-test.true).low

pub with_digit-requires-clause-high : goal.with_digit-requires-clause-high
with_digit-requires-clause-high c = (digit_more c.args.word.now c.loop-b.b-index c.requires c.loop-b-test.true).high

pub returns-in_err-value : goal.returns-in_err-value
returns-in_err-value c =
    let d = digit_more c.args.word.now c.loop-b.b-index c.requires c.loop-b-test.true in
    let most : c.loop-b.value * 10 + (get_or c.args.word.now c.loop-b.b-index 0 - 48) ≤ digits_value 10 c.args.word.now = omega arith in
    c.from_residual.ensures ∙ within-none 18446744073709551615 _ (digits_value 10 c.args.word.now) c.in_err-value.ensures most

pub loop-b-preserved : goal.loop-b-preserved
loop-b-preserved c =
    let d = digit_more c.args.word.now c.loop-b.b-index c.requires c.loop-b-test.true in
    let v = within-some 18446744073709551615 _ c.in_ok-value.value c.in_ok-value.ensures in
    record { is = omega arith; most = within-most 18446744073709551615 _ c.in_ok-value.value c.in_ok-value.ensures }

pub returns : goal.returns
returns c =
    let same : c.loop-b.value ≡ digits_value 10 c.args.word.now = c.loop-b.invariant.is ∙ ap (digits_value 10) (take_all c.loop-b.b-index c.args.word.now (omega arith)) in
    rw (← same) (within-fits 18446744073709551615 c.loop-b.value c.loop-b.invariant.most)
