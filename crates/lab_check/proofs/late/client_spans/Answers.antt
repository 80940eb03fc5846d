use Rattle.lab_check.specs.Prelude.{ap, sym, ◌∙◌, list_any_more, list_any, ◌||◌, covers, is_in_some}
use Rattle.lab_check.proofs.late.client_spans.Goals as goal

pub loop-client-preserved : goal.loop-client-preserved
loop-client-preserved c = λ frame low.
    let test = covers c.args.script.now c.args.wavs.now c.args.number frame c.args.channel in
    c.in_ok-push_span.ensures frame
    ∙ ap (λ b. b || is_in_some frame c.client_span-span.result) (c.loop-client.invariant frame low)
    ∙ ap (λ b. list_any test (Rattle.std.specs.Prelude.take c.loop-client.client-index c.args.segments.now) || b) (c.client_span-span.ensures frame low)
    ∙ sym (list_any_more test c.args.segments.now c.loop-client.client-index (0, record { source = 0; card = 0; whole = 0; part = 0 }) c.loop-client-test.true)
