use Rattle.lab_check.proofs.Parts.{parts-more}
use Rattle.lab_check.proofs.sums.add_parts.Goals as goal

pub loop-client-preserved : goal.loop-client-preserved
loop-client-preserved c =
    parts-more c.args.script.now c.args.wavs.now c.args.from c.loop-client.client-index c.args.segments.now
    (0, record { source = 0; card = 0; whole = 0; part = 0 }) c.args.sums.now c.loop-client.sums c.add_part.new.sums c.loop-client-test.true c.loop-client.invariant c.add_part.ensures
