use Rattle.dmix_client.specs.Prelude.{sym, LaysAt, LoadsAt, NoGet, Takes-map, accepted_if, starts_taking}
use Rattle.dmix_client.proofs.CallLaws.{both}
use Rattle.dmix_client.proofs.write.start_write.Goals as goal

pub returns-clause-takes : goal.returns-clause-takes
unfolding starts_taking
returns-clause-takes g c =
    let s = both c.args.port.now c.args.gate.now in
    let t = both c.begin-begun.new.port c.begin-begun.new.gate in
    Takes-map (LoadsAt g.P.MixPort g.G.Gate) (LaysAt g.P.MixPort g.G.Gate) NoGet s t _ (accepted_if c.args.taken) c.begin-begun.result
    c.accepted_if-after.result c.begin-begun.ensures.takes (sym c.accepted_if-after.ensures)
