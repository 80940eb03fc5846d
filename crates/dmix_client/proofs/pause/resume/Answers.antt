use Rattle.dmix_client.specs.Prelude.{rules, sym, TakesAt, Answered, resumes}
use Rattle.dmix_client.proofs.CallLaws.{both}
use Rattle.dmix_client.proofs.Keeping.{resumes-explained, resumes-kept}
use Rattle.dmix_client.proofs.Looking.{resumes-by}
use Rattle.dmix_client.proofs.pause.resume.Goals as goal

pub returns : goal.returns
returns g c =
    let P = g.P.MixPort in
    let G = g.G.Gate in
    let s = both c.args.port.now c.args.gate.now in
    let t = both c.look_and_start-found.new.port c.look_and_start-found.new.gate in
    let stream = c.args.stream.now in
    let ring = c.args.ring.now in
    let done : Answered (Unit {0}) = (c.resumed.new.stream, c.resumed.result) in
    let cursor = (P.view c.args.port.now).marks.cursor in
    let looked = rw (c.rebased-from.ensures, c.cursor-cursor.ensures.value) at c.look_and_start-found.ensures.takes in
    let takes : TakesAt P G s (resumes stream cursor ring) t done =
    resumes-by P G s t stream cursor ring c.look_and_start-found.result.load c.look_and_start-found.result.commit done looked (sym (rw c.cursor-cursor.ensures.value at c.resumed.ensures)) in
    record {
      takes = takes;
      keeps = resumes-kept P G g.met.P.MixPort.laid_composes g.met.P.MixPort.loaded_composes s t stream ring done c.requires.sound c.requires.paused
          (search rules) c.requires.port takes;
      explains = resumes-explained P G g.met.P.MixPort.laid_composes g.met.P.MixPort.loaded_composes s t stream ring cursor done c.requires.sound
          c.requires.paused takes;
    }
