use Rattle.std.proofs.Common.{◌≡◌, ◌*◌, ◌∙◌, ap, arith, length}
use Rattle.lab_check.proofs.Indexes.{indexes-are}
use Rattle.lab_check.proofs.late.span_indexes.Goals as goal

pub returns : goal.returns
returns c = λ number channel frame inside low.
    let script = c.args.script.now in
    let all : c.loop-place.place ≡ length c.as_slice.result.now * c.from-channels.result = omega (arith, c.loop-place-test.false, c.loop-place.auto.place-end) in
    let count : c.loop-place.place ≡ length script.clients * script.card.channels =
    all ∙ ap (λ n. n * c.from-channels.result) (ap length c.as_slice.ensures) ∙ ap (λ n. length script.clients * n) c.from-channels.ensures in
    indexes-are script c.args.wavs.now c.args.segments.now c.loop-place.indexes.items c.loop-place.place count c.loop-place.invariant.size c.requires.right c.loop-place.invariant.each
    number channel frame inside low
