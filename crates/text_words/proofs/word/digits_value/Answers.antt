use Rattle.std.proofs.Common.{arith}
use Rattle.text_words.proofs.Digits.{digit_more, digits_value-few}
use Rattle.text_words.proofs.word.digits_value.Goals as goal

pub overflow_mul-value : goal.overflow_mul-value
overflow_mul-value c =
    let d = digit_more c.args.word.now c.loop-b.b-index c.requires.digits c.loop-b-test.true in
    let few = digits_value-few c.args.word.now c.requires.digits c.requires.most in
    omega arith

pub overflow_sub-b : goal.overflow_sub-b
overflow_sub-b c =
    let d = digit_more c.args.word.now c.loop-b.b-index c.requires.digits c.loop-b-test.true in
    omega arith

pub overflow_add-value : goal.overflow_add-value
overflow_add-value c =
    let d = digit_more c.args.word.now c.loop-b.b-index c.requires.digits c.loop-b-test.true in
    let few = digits_value-few c.args.word.now c.requires.digits c.requires.most in
    omega arith

pub loop-b-preserved : goal.loop-b-preserved
loop-b-preserved c =
    let d = digit_more c.args.word.now c.loop-b.b-index c.requires.digits c.loop-b-test.true in
    omega arith
