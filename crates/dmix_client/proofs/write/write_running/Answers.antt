use Rattle.dmix_client.specs.Prelude.{length, List, refl, subst, sym, ℕ, ◌*◌, ◌<◌, ◌^◌, ◌≡◌, ◌≤◌, Err, Result, true, PcmError, State, is_moving, Whole, TakesAt}
use Rattle.dmix_client.specs.Prelude.{syncs, AnySamples, Keeps}
use Rattle.dmix_client.proofs.CallLaws.{both}
use Rattle.dmix_client.proofs.Going.{ok-of}
use Rattle.dmix_client.proofs.Keeping.{client, syncs-runs, writes-explained, writes-kept}
use Rattle.dmix_client.proofs.Looking.{writes_on-by}
use Rattle.dmix_client.proofs.Sound.{configured-moving}
use Rattle.pcm_states.specs.declared.calls.Call.TheVariants as call
use Rattle.dmix_client.proofs.write.write_running.Goals as goal

pub returns-in-Err-clause-takes : goal.returns-in-Err-clause-takes
returns-in-Err-clause-takes g c =
    let s = both c.args.port.now c.args.gate.now in
    let t = both c.sync_call-synced.new.port c.sync_call-synced.new.gate in
    writes_on-by g.P.MixPort g.G.Gate s t t
    c.args.stream.now c.args.ring.now c.args.samples.now c.args.frames (c.sync_call-synced.new.stream, c.sync_call-synced.result) _
    c.sync_call-synced.ensures.takes (rw c.in-Err.is (record { there = refl; result = refl }))

pub returns-in-Err-clause-keeps : goal.returns-in-Err-clause-keeps
returns-in-Err-clause-keeps g c =
    let s = both c.args.port.now c.args.gate.now in
    let t = both c.sync_call-synced.new.port c.sync_call-synced.new.gate in
    let k = subst (λ (r : Result (Unit {0}) PcmError). Keeps g.P.MixPort g.G.Gate s t (client c.args.stream.now c.args.ring.now)
    (client c.sync_call-synced.new.stream c.args.ring.now) r AnySamples) c.in-Err.is c.sync_call-synced.ensures.keeps in
    record {
      sound = k.sound;
      port = k.port;
      told = k.told;
      grows = λ samples stands for. k.grows samples stands tt;
      stands = λ samples stands for.
          k.stands samples stands tt;
    }

pub returns-in-Err-clause-explains : goal.returns-in-Err-clause-explains
returns-in-Err-clause-explains g c =
    let s = both c.args.port.now c.args.gate.now in
    let t = both c.sync_call-synced.new.port c.sync_call-synced.new.gate in
    let stream = c.args.stream.now in
    writes-explained g.P.MixPort g.G.Gate g.met.P.MixPort.laid_composes g.met.P.MixPort.loaded_composes s t t
    stream c.args.ring.now c.args.ring.now c.args.samples.now c.args.frames (c.sync_call-synced.new.stream, Err c.in-Err.error)
    (c.sync_call-synced.new.stream, Err c.in-Err.error)
    (configured-moving stream c.args.ring.now c.requires.sound (subst (λ (state : State). is_moving state ≡ true) (sym c.requires.running)
    refl)).bound c.requires.running
    (subst (λ (r : Result (Unit {0}) PcmError). TakesAt g.P.MixPort g.G.Gate s (syncs stream call.Transfer c.args.ring.now) t
    (c.sync_call-synced.new.stream, r)) c.in-Err.is c.sync_call-synced.ensures.takes)
    (record { there = refl; result = refl }) refl (record { frames = 0; part = 0; ended = Whole }) refl tt (λ e is. refl)

pub write_taken-requires-clause-moving : goal.write_taken-requires-clause-moving
write_taken-requires-clause-moving g c =
    let s = both c.args.port.now c.args.gate.now in
    let t = both c.sync_call-synced.new.port c.sync_call-synced.new.gate in
    let stream = c.args.stream.now in
    subst (λ (state : State). is_moving state ≡ true) (sym (syncs-runs g.P.MixPort g.G.Gate g.met.P.MixPort.laid_composes g.met.P.MixPort.loaded_composes s t
    stream c.args.ring.now (c.sync_call-synced.new.stream, c.sync_call-synced.result)
    (configured-moving stream c.args.ring.now c.requires.sound (subst (λ (state : State). is_moving state ≡ true) (sym c.requires.running) refl)).bound
    c.requires.running (ok-of c.sync_call-synced.result c.in_default.not-Err) c.sync_call-synced.ensures.takes)) refl

pub write_taken-requires-clause-held : goal.write_taken-requires-clause-held
write_taken-requires-clause-held g c =
    subst (λ (bs : List ℕ). c.args.frames * length bs ≤ length c.args.samples.now) (sym c.sync_call-synced.ensures.same.bindings) c.requires.held

pub write_taken-requires-clause-fed : goal.write_taken-requires-clause-fed
write_taken-requires-clause-fed g c = subst (λ (n : ℕ). n < 2 ^ 63) (sym c.sync_call-synced.ensures.same.fed) c.requires.fed

pub returns : goal.returns
returns g c =
    let P = g.P.MixPort in
    let G = g.G.Gate in
    let s = both c.args.port.now c.args.gate.now in
    let t = both c.sync_call-synced.new.port c.sync_call-synced.new.gate in
    let u = both c.write_taken.new.port c.write_taken.new.gate in
    let ok = ok-of c.sync_call-synced.result c.in_default.not-Err in
    let wrote = writes-kept P G g.met.P.MixPort.laid_composes g.met.P.MixPort.loaded_composes s t u
    c.args.stream.now c.sync_call-synced.new.stream c.args.ring.now c.write_taken.new.ring c.args.samples.now c.args.frames
    (c.write_taken.new.stream, c.write_taken.result) c.write_taken.ensures.ring c.requires.sound c.requires.running c.requires.unstopped
    c.requires.held c.requires.port
    (subst (λ (r : Result (Unit {0}) PcmError). TakesAt P G s (syncs c.args.stream.now call.Transfer c.args.ring.now) t (c.sync_call-synced.new.stream, r)) ok
    c.sync_call-synced.ensures.takes)
    c.write_taken.ensures.takes in
    record {
      takes = writes_on-by P G s t u
          c.args.stream.now c.args.ring.now c.args.samples.now c.args.frames (c.sync_call-synced.new.stream, c.sync_call-synced.result)
          (c.write_taken.new.stream, c.write_taken.result) c.sync_call-synced.ensures.takes (rw ok c.write_taken.ensures.takes);
      keeps = wrote.keeps;
      sound = wrote.keeps.sound;
      count = wrote.count;
      explains = wrote.explains;
    }
