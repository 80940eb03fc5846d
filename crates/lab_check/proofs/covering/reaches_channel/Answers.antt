use Rattle.lab_check.specs.Prelude.{arith, sym, ◌==◌, ◌∙◌, nat_tests, false, slice_index, true, rising, length-rising}
use Rattle.lab_check.proofs.Covers.{any-next}
use Rattle.lab_check.proofs.covering.reaches_channel.Goals as goal

pub returns-then-card_channel-channel : goal.returns-then-card_channel-channel
returns-then-card_channel-channel c =
    let b = c.args.bindings in
    sym (c.loop-place.invariant ∙ any-next (λ q. slice_index b q == c.args.channel) c.args.places c.loop-place.place c.rising.result (rising b) c.loop-place-test.true
    (omega (arith, c.requires, length-rising b c.rising.ensures.bound)) c.rising.ensures.value true (grind (arith, nat_tests, c.card_channel.ensures.value, c.if-card_channel-channel.true)))

pub loop-place-preserved : goal.loop-place-preserved
loop-place-preserved c =
    let b = c.args.bindings in
    c.loop-place.invariant ∙ any-next (λ q. slice_index b q == c.args.channel) c.args.places c.loop-place.place c.rising.result (rising b) c.loop-place-test.true
    (omega (arith, c.requires, length-rising b c.rising.ensures.bound)) c.rising.ensures.value false (grind (arith, nat_tests, c.card_channel.ensures.value, c.if-card_channel-channel.false))
