use Rattle.std.proofs.Common.{sym}
use Rattle.dmix_client.proofs.CallLaws.{both}
use Rattle.dmix_client.proofs.Rewinding.{checks-by}
use Rattle.dmix_client.proofs.rewind.check.Goals as goal

pub returns : goal.returns
returns g c =
    let s = both c.args.port.now c.args.gate.now in
    let t = both c.load-found.new.port c.load-found.new.gate in
    checks-by g.P.MixPort g.G.Gate g.met.P.MixPort.laid_composes g.met.P.MixPort.loaded_composes s t c.args.stream.now c.load-found.result
    (c.after_sync.new.stream, c.after_sync.result) c.load-found.ensures (sym c.after_sync.ensures)
