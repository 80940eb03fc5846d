use Rattle.asound_conf.specs.Prelude.{ap₂, arith, false, length, refl, sym, true, ◌<◌, ◌∙◌, ◌≡◌, slice_index, is_skipped, tokens}
use Rattle.asound_conf.proofs.Starts.{IsBefore-suffix, IsSuffix-both, IsSuffix-self}
use Rattle.asound_conf.proofs.Tokens.{tokens-token, tokens-skipped, tokens-none}
use Rattle.asound_conf.proofs.token.next_token.Goals as goal

pub returns-then-not-is_skipped-clause-some : goal.returns-then-not-is_skipped-clause-some
returns-then-not-is_skipped-clause-some c =
    let text = c.loop-rest.rest.now in
    let some : 0 < length text = grind arith in
    let kept : is_skipped (slice_index text 0) ≡ false = sym c.is_skipped.ensures ∙ c.if-not-is_skipped.true in
    let first = c.first_lexeme.ensures in
    rw (first.token, first.rest, first.line) (c.loop-rest.invariant.0 ∙ tokens-token c.loop-rest.line text some first.moves kept)

pub loop-rest-preserved : goal.loop-rest-preserved
loop-rest-preserved c =
    let text = c.loop-rest.rest.now in
    let some : 0 < length text = grind arith in
    let skipped : is_skipped (slice_index text 0) ≡ true = sym c.is_skipped.ensures ∙ c.if-not-is_skipped.false in
    (c.loop-rest.invariant.0 ∙ tokens-skipped c.loop-rest.line text some c.after_skipped-rest.ensures.moves skipped ∙ ap₂ (tokens 0) (sym c.line_after-line.ensures.value) (sym c.after_skipped-rest.ensures.value), omega arith, IsSuffix-both c.args.text.now text c.after_skipped-rest.result.now c.loop-rest.invariant.2 c.after_skipped-rest.ensures.suffix)

pub returns-clause-none : goal.returns-clause-none
returns-clause-none c =
    let none : length c.loop-rest.rest.now ≡ 0 = grind arith in
    c.loop-rest.invariant.0 ∙ tokens-none 0 c.loop-rest.line c.loop-rest.rest.now none

pub returns-then-not-is_skipped-clause-suffix : goal.returns-then-not-is_skipped-clause-suffix
returns-then-not-is_skipped-clause-suffix c = IsSuffix-both c.args.text.now c.loop-rest.rest.now c.first_lexeme.result.rest.now c.loop-rest.invariant.2 c.first_lexeme.ensures.suffix

pub returns-then-not-is_skipped-clause-before : goal.returns-then-not-is_skipped-clause-before
returns-then-not-is_skipped-clause-before c =
    IsBefore-suffix c.args.text.now c.loop-rest.rest.now c.first_lexeme.result.rest.now c.first_lexeme.result.token c.loop-rest.invariant.2 c.first_lexeme.ensures.before

pub loop-rest-init : goal.loop-rest-init
loop-rest-init c = (refl, omega arith, IsSuffix-self c.args.text.now)
