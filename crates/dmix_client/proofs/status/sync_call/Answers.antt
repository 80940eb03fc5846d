use Rattle.dmix_client.specs.Prelude.{sym, TakesAt, syncs}
use Rattle.dmix_client.proofs.CallLaws.{both}
use Rattle.dmix_client.proofs.Keeping.{syncs-explained, syncs-kept}
use Rattle.dmix_client.proofs.Looking.{syncs-by}
use Rattle.dmix_client.proofs.Sound.{configured-moving}
use Rattle.dmix_client.proofs.status.sync_call.Goals as goal

pub returns : goal.returns
returns g c =
    let P = g.P.MixPort in
    let G = g.G.Gate in
    let s = both c.args.port.now c.args.gate.now in
    let t = both c.look_and_commit-found.new.port c.look_and_commit-found.new.gate in
    let takes : TakesAt P G s (syncs c.args.stream.now c.args.call c.args.ring.now) t (c.after_sync.new.stream, c.after_sync.result) =
    syncs-by P G s t _ _ _ _ _ _ c.look_and_commit-found.ensures.takes (sym c.after_sync.ensures) in
    let kept = syncs-kept P G g.met.P.MixPort.laid_composes g.met.P.MixPort.loaded_composes s t
    c.args.stream.now c.args.ring.now c.args.call (c.after_sync.new.stream, c.after_sync.result) c.requires.sound c.requires.moving c.requires.unstopped
    c.requires.step c.requires.port takes in
    let explains = syncs-explained P G g.met.P.MixPort.laid_composes g.met.P.MixPort.loaded_composes s t
    c.args.stream.now c.args.ring.now c.args.call (c.after_sync.new.stream, c.after_sync.result)
    (configured-moving c.args.stream.now c.args.ring.now c.requires.sound c.requires.moving).bound c.requires.step takes in
    record { takes = takes; keeps = kept.keeps; sound = kept.keeps.sound; port = kept.keeps.port; goes = kept.goes; same = kept.same; explains = explains }
