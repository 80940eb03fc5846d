use Rattle.dmix_client.proofs.CallLaws.{both}
use Rattle.dmix_client.proofs.Keeping.{start-kept, starts-explained}
use Rattle.dmix_client.proofs.Sound.{configured-prepared}
use Rattle.dmix_client.proofs.control.start_all.Goals as goal

pub returns : goal.returns
returns g c =
    let P = g.P.MixPort in
    let s = both c.args.port.now c.args.gate.now in
    let t = both c.begin-begun.new.port c.begin-begun.new.gate in
    let stream = c.args.stream.now in
    let kept = start-kept P g.G.Gate g.met.P.MixPort.laid_composes g.met.P.MixPort.loaded_composes s t
    stream c.args.ring.now c.args.state c.begin-begun.result c.requires.sound c.requires.prepared c.requires.leads c.begin-begun.ensures.near c.requires.port
    c.begin-begun.ensures.takes in
    record {
      takes = c.begin-begun.ensures.takes;
      keeps = kept.0;
      goes = kept.1;
      explains = starts-explained P g.G.Gate g.met.P.MixPort.laid_composes g.met.P.MixPort.loaded_composes s t stream c.args.ring.now c.args.state
          (P.view c.args.port.now).marks.cursor stream.stretch.written c.begin-begun.result
          (configured-prepared stream c.args.ring.now c.requires.sound c.requires.prepared).bound c.requires.prepared c.begin-begun.ensures.takes;
    }
