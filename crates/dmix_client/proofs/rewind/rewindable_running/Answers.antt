use Rattle.dmix_client.specs.Prelude.{List, subst, ℤ, Cursor, TakesAt, course_with_number, checks, rewindable_of, IsSoundClient}
use Rattle.dmix_client.proofs.CallLaws.{both}
use Rattle.dmix_client.proofs.Rewinding.{numbered-by, numbered-kept}
use Rattle.dmix_client.proofs.Withdrawing.{HoldsBy}
use Rattle.dmix_client.proofs.rewind.rewindable_running.Goals as goal

pub returns : goal.returns
returns g c =
    let G = g.G.Gate in
    let s = both c.args.port.now c.args.gate.now in
    let t = both c.check-checked.new.port c.check-checked.new.gate in
    let port = g.P.MixPort in
    let holds : HoldsBy port = assumption g.met.P.MixPort in
    let takes = subst (λ (x : Cursor). TakesAt port G s (course_with_number (rewindable_of x) (checks c.args.stream.now)) t
    (c.check-checked.new.stream, c.with_rewindable.result)) c.floor-floor.ensures.value
    (numbered-by port G holds s t c.args.stream.now (rewindable_of c.floor-floor.result) (c.check-checked.new.stream, c.check-checked.result) _
    c.check-checked.ensures c.with_rewindable.ensures) in
    let kept = λ (ring : List ℤ) (sound : IsSoundClient c.args.stream.now ring). numbered-kept port G holds s t c.args.stream.now ring
    (rewindable_of (port.view c.args.port.now).marks.floor) (c.check-checked.new.stream, c.with_rewindable.result) sound c.requires.running c.requires.unstopped
    c.requires.port takes in
    record { takes = takes; keeps = λ ring sound. (kept ring sound).keeps; explains = (kept c.requires.sound.0 c.requires.sound.1).explains }
