use Rattle.dmix_client.specs.Prelude.{refl, subst, sym, ◌∙◌, ◌≡◌, false, Result, true, PcmError, State, is_moving, AnySamples, Keeps, IsFrameStep}
use Rattle.dmix_client.proofs.CallLaws.{both}
use Rattle.dmix_client.proofs.Going.{OnOk-of, IsStill, ok-of}
use Rattle.dmix_client.proofs.Keeping.{Keeps-then, client, drains-ill, syncs-still}
use Rattle.dmix_client.proofs.Looking.{drains-by}
use Rattle.dmix_client.proofs.Sound.{configured-moving, configured-prepared}
use Rattle.pcm_states.specs.declared.calls.Call.TheVariants as call
use Rattle.dmix_client.proofs.control.start_and_drain.Goals as goal

pub returns-in-Err : goal.returns-in-Err
returns-in-Err g c =
    let G = g.G.Gate in
    let s = both c.args.port.now c.args.gate.now in
    let t = both c.start_all-begun.new.port c.start_all-begun.new.gate in
    let port = g.P.MixPort in
    let stream = c.args.stream.now in
    let keeps = subst (λ (r : Result (Unit {0}) PcmError). Keeps port G s t (client stream c.args.ring.now)
    (client c.start_all-begun.new.stream c.args.ring.now) r AnySamples) c.in-Err.is c.start_all-begun.ensures.keeps in
    record {
      takes = drains-by port G s t t stream _ _ (c.start_all-begun.new.stream, c.start_all-begun.result) _ c.start_all-begun.ensures.takes (rw c.in-Err.is (record { there = refl; result = refl }));
      sound = keeps.sound;
      keeps = keeps;
      again = subst (λ (r : Result (Unit {0}) PcmError). IsStill (c.start_all-begun.new.stream, r)) c.in-Err.is
          (drains-ill port G g.met.P.MixPort.laid_composes g.met.P.MixPort.loaded_composes s t stream c.args.ring.now (port.view c.args.port.now).marks.cursor
          (c.start_all-begun.new.stream, c.start_all-begun.result) _ (configured-prepared stream c.args.ring.now c.requires.sound c.requires.prepared).bound
          c.in-Err.is c.start_all-begun.ensures.takes);
      explains = record {
        between = t;
        begun = (c.start_all-begun.new.stream, c.start_all-begun.result);
        start = c.start_all-begun.ensures.explains;
        failed = rw c.in-Err.is (refl, refl);
        sync = rw c.in-Err.is tt;
      };
    }

pub sync_call-requires : goal.sync_call-requires
sync_call-requires g c =
    let well = OnOk-of c.start_all-begun.result _ (ok-of c.start_all-begun.result c.in_default.not-Err) c.start_all-begun.ensures.goes in
    record {
      sound = c.start_all-begun.ensures.keeps.sound;
      moving = subst (λ (state : State). is_moving state ≡ true) (sym well.0) refl;
      unstopped = well.1 ∙ c.requires.unstopped;
      step = subst (λ (state : State). IsFrameStep state call.Drain) (sym well.0) tt;
      port = c.start_all-begun.ensures.keeps.port;
    }

pub returns : goal.returns
returns g c =
    let G = g.G.Gate in
    let s = both c.args.port.now c.args.gate.now in
    let t = both c.start_all-begun.new.port c.start_all-begun.new.gate in
    let u = both c.sync_call.new.port c.sync_call.new.gate in
    let port = g.P.MixPort in
    let d = c.start_all-begun.new.stream in
    let ok = ok-of c.start_all-begun.result c.in_default.not-Err in
    let well = OnOk-of c.start_all-begun.result _ ok c.start_all-begun.ensures.goes in
    let going : d.status.stopped ≡ false = well.1 ∙ c.requires.unstopped in
    record {
      takes = drains-by port G s t u c.args.stream.now _ _ (d, c.start_all-begun.result) (c.sync_call.new.stream, c.sync_call.result) c.start_all-begun.ensures.takes (rw ok c.sync_call.ensures.takes);
      sound = c.sync_call.ensures.sound;
      keeps = Keeps-then port G g.met.P.MixPort.laid_composes g.met.P.MixPort.loaded_composes s t u
          (client c.args.stream.now c.args.ring.now) (client d c.args.ring.now) (client c.sync_call.new.stream c.args.ring.now) c.start_all-begun.result
          c.sync_call.result AnySamples AnySamples (rw ok refl) going (λ samples any. tt) c.start_all-begun.ensures.keeps c.sync_call.ensures.keeps;
      again = syncs-still port G g.met.P.MixPort.laid_composes g.met.P.MixPort.loaded_composes t u d c.args.ring.now
          (c.sync_call.new.stream, c.sync_call.result)
          (configured-moving d c.args.ring.now c.start_all-begun.ensures.keeps.sound (subst (λ (state : State). is_moving state ≡ true) (sym well.0)
          refl)).bound well.0 going c.sync_call.ensures.takes;
      explains = record {
        between = t;
        begun = (d, c.start_all-begun.result);
        start = c.start_all-begun.ensures.explains;
        failed = rw ok tt;
        sync = rw ok c.sync_call.ensures.explains;
      };
    }
