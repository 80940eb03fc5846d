use Rattle.dsnoop_client.proofs.CallLaws.{both}
use Rattle.dsnoop_client.proofs.Loading.{starts-by}
use Rattle.dsnoop_client.proofs.Stepping.{After-going, starts-after, starts-none}
use Rattle.dsnoop_client.proofs.positions.start_call.Goals as goal

pub returns : goal.returns
returns g c =
    let P = g.P.SnoopPort in
    let G = g.G.Gate in
    let stream = c.args.stream.now in
    let done = c.after_start-after.result in
    let s = both c.args.port.now c.args.gate.now in
    let t = both c.load-position.new.port c.load-position.new.gate in
    let takes = starts-by P G s t stream c.args.call c.load-position.result done c.load-position.ensures c.after_start-after.ensures in
    let after = starts-after P G s t stream c.args.call done c.requires.sound c.requires.prepared c.requires.unstopped c.requires.start c.requires.port takes in
    assumption (After-going P G s t stream done.0 done.1 after, starts-none P G s t stream c.args.call done takes)
