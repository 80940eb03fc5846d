use Rattle.std.proofs.Common.{◌≡◌, ◌∙◌, ap, arith, sym}
use Rattle.lab_check.specs.Covering as covering
use Rattle.lab_check.proofs.Covers.{covers-other, covers-source}
use Rattle.lab_check.proofs.Parts.{part-within}
use Rattle.lab_check.proofs.late.client_span.Goals as goal

pub returns-then-client-number : goal.returns-then-client-number
returns-then-client-number c = λ frame low.
    sym (covers-other c.args.script.now c.args.wavs.now c.args.number frame c.args.channel c.args.client c.args.segment.now c.if-client-number.true)

pub returns-in-Some : goal.returns-in-Some
returns-in-Some c = λ frame low.
    let s = c.args.segment.now in
    let line = c.in-Some.line.now in
    let wav = c.in-Some.wav.now in
    let same : c.args.client ≡ c.args.number = omega (arith, c.if-client-number.false) in
    c.span_of.ensures frame low
    ∙ ap (λ n. covering.reaches_frame s.card n frame) (c.last_on-last.ensures ∙ ap (λ b. covering.last_on b s c.args.channel) c.bound_by.ensures)
    ∙ sym (covers-source c.args.script.now c.args.wavs.now c.args.number frame c.args.channel c.args.client s line wav same
    c.in-Some.ensures.some.0 c.in-Some.ensures.some.1
    (part-within c.args.script.now c.args.wavs.now c.args.client s line wav c.in-Some.ensures.some.0 c.in-Some.ensures.some.1 c.requires))
