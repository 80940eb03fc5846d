use Rattle.std.proofs.Common.{rules}
use Rattle.dsnoop_client.proofs.CallLaws.{both}
use Rattle.dsnoop_client.proofs.Loading.{syncs-by}
use Rattle.dsnoop_client.proofs.Stepping.{After-going, syncs-after, syncs-none}
use Rattle.dsnoop_client.proofs.positions.sync_call.Goals as goal

pub returns : goal.returns
returns g c =
    let P = g.P.SnoopPort in
    let G = g.G.Gate in
    let stream = c.args.stream.now in
    let done = c.after_sync-after.result in
    let s = both c.args.port.now c.args.gate.now in
    let t = both c.load-position.new.port c.load-position.new.gate in
    let takes = syncs-by P G s t stream c.args.call c.load-position.result done c.load-position.ensures c.after_sync-after.ensures in
    let after = syncs-after P G s t stream c.args.call done c.requires.sound c.requires.running c.requires.unstopped c.requires.sync c.requires.port takes in
    record {
      takes = takes;
      keeps = after.told.keeps;
      causes = after.told.why;
      going = After-going P G s t stream done.0 done.1 after;
      got_nothing = syncs-none P G s t stream c.args.call done takes;
      stays = search rules;
      ready = search rules;
    }
