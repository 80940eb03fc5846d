use Rattle.dmix_client.specs.Prelude.{arith, List, refl, rules, subst, sym, ◌∙◌, ◌≡◌, nat_tests, Bool, false, Result, true, ℤ, ◌&&◌, PcmError, State, Prepared}
use Rattle.dmix_client.specs.Prelude.{is_moving, PlaybackStream, has_frames, in_draining, is_prepared, syncs, AnySamples, Keeps, IsSoundClient}
use Rattle.dmix_client.proofs.CallLaws.{admitted-by, admitted-call, both, refused-by, refused-keeping, usable-inside}
use Rattle.dmix_client.proofs.Going.{OnOk-of, refusal_of-unstopped}
use Rattle.dmix_client.proofs.Keeping.{IsSoundClient-dropped, client, dropped-kept, syncs-still}
use Rattle.dmix_client.proofs.Sound.{configured-moving}
use Rattle.mix_core.specs.declared.gate.Gate as gates
use Rattle.mix_core.specs.declared.port.MixPort as mixport
use Rattle.pcm_states.specs.declared.calls.Call.TheVariants as call
use Rattle.dmix_client.proofs.client.Client.drain.Goals as goal

draining-sound : (c : PlaybackStream) (ring : List ℤ) → IsSoundClient c ring → is_moving c.status.state ≡ true → IsSoundClient (in_draining c) ring
draining-sound c ring sound moves = grind (arith, nat_tests)

unlike : (b : Bool) → b ≡ true → b ≡ false → ⊥
unlike b is_true is_false = cc

not-prepared : (s : State) (b : Bool) → is_moving s ≡ true → (is_prepared s && b) ≡ true → ⊥
not-prepared Prepared b moves has = cc
not-prepared s b moves has = cc

module _ {S T : Type 0} {P : mixport.Ghosts S} {G : gates.Ghosts T} where
  -- what a sync keeps of a client that was set to drain, it keeps of the client before
  keeps-draining : {X : Type 0} {s t : S × T} {c b d : PlaybackStream} {ring : List ℤ} {answer : Result X PcmError} → b ≡ in_draining c
      → Keeps P G s t (client b ring) (client d ring) answer AnySamples → Keeps P G s t (client c ring) (client d ring) answer AnySamples
  keeps-draining {s = s} {t = t} {c = c} {d = d} {ring = ring} {answer = answer} is keeps =
      let k = subst (λ (e : PlaybackStream). Keeps P G s t (client e ring) (client d ring) answer AnySamples) is keeps in
      record {
        sound = k.sound;
        port = k.port;
        told = k.told;
        grows = λ samples stands any. let w = k.grows samples stands any in record {
          entries = w.entries;
          laid_them = w.laid_them;
          grown = w.grown;
          same_member = w.same_member;
          same_bindings = w.same_bindings;
        };
        stands = k.stands;
      }

pub returns-in_err-admit : goal.returns-in_err-admit
returns-in_err-admit g c =
    refused-keeping g.met.P.MixPort.laid_composes g.met.P.MixPort.loaded_composes c.self.view_is c.self.invariant c.requires
    (refused-by c.self.view_is c.admit.ensures.answer c.in_err-admit.was c.from_residual.ensures.1)

pub returns-then-is_moving : goal.returns-then-is_moving
returns-then-is_moving g c =
    let P = g.P.MixPort in
    let G = g.G.Gate in
    let stream = c.self.inside.stream in
    let ring = c.as_slice-ring.result.now in
    let s = both c.args.port.now c.args.gate.now in
    let t = both c.sync_call.new.port c.sync_call.new.gate in
    let moves : is_moving stream.status.state ≡ true = sym c.is_moving.ensures ∙ c.if-is_moving.true in
    let admitted = admitted-by stream call.Drain c.admit.ensures.answer c.in_ok-admit.was in
    let bound = (configured-moving stream c.self.inside.ring.items c.self.invariant moves).bound in
    let synced = rw c.in_state-self-inside.ensures at c.sync_call.ensures in
    rw (← c.self.view_is, ← c.as_slice-ring.ensures.value) (admitted-call admitted (rw moves synced.takes) refl
    (keeps-draining refl synced.keeps)
    (record {
      again = syncs-still P G g.met.P.MixPort.laid_composes g.met.P.MixPort.loaded_composes s t (in_draining stream) ring
          (c.sync_call.new.stream, c.sync_call.result) bound refl (refusal_of-unstopped stream admitted) synced.takes;
      syncs = λ moving. synced.explains;
      starts = λ has. absurd (not-prepared stream.status.state _ moves has);
    }))

pub returns-then-not-has_frames : goal.returns-then-not-has_frames
returns-then-not-has_frames g c =
    let stream = c.self.inside.stream in
    let s = both c.args.port.now c.args.gate.now in
    let rests : is_moving stream.status.state ≡ false = sym c.is_moving.ensures ∙ c.if-is_moving.false in
    let has_none : has_frames stream ≡ false = sym c.has_frames.ensures ∙ c.if-not-has_frames.true in
    let admitted = admitted-by stream call.Drain c.admit.ensures.answer c.in_ok-admit.was in
    rw (← c.self.view_is, c.dropped-self-inside.ensures) (admitted-call admitted
    (rw (rests, has_none) (record { there = refl; result = refl })) refl
    (dropped-kept g.P.MixPort g.G.Gate g.met.P.MixPort.laid_composes g.met.P.MixPort.loaded_composes s stream c.self.inside.ring.items c.self.invariant admitted
    (usable-inside c.self.view_is c.requires))
    (record {
      again = (λ h. cc, λ h. let y = h.0 in cc);
      syncs = λ moves. absurd (unlike (is_moving stream.status.state) moves rests);
      starts = λ has. absurd (unlike (has_frames stream) has has_none);
    }))

pub returns : goal.returns
returns g c =
    let stream = c.self.inside.stream in
    let rests : is_moving stream.status.state ≡ false = sym c.is_moving.ensures ∙ c.if-is_moving.false in
    let has_some : has_frames stream ≡ true = sym c.has_frames.ensures ∙ c.if-not-has_frames.false in
    let admitted = admitted-by stream call.Drain c.admit.ensures.answer c.in_ok-admit.was in
    rw (← c.self.view_is, ← c.as_slice-ring.ensures.value) (admitted-call admitted (rw (rests, has_some) c.start_and_drain.ensures.takes) refl
    c.start_and_drain.ensures.keeps
    (record {
      again = c.start_and_drain.ensures.again;
      syncs = λ moves. absurd (unlike (is_moving stream.status.state) moves rests);
      starts = λ has. c.start_and_drain.ensures.explains;
    }))

pub start_and_drain-requires : goal.start_and_drain-requires
start_and_drain-requires g c = record {
  sound = rw c.as_slice-ring.ensures.value c.self.invariant;
  prepared = search rules;
  unstopped = OnOk-of c.admit.result _ c.in_ok-admit.was c.admit.ensures.unstopped;
  port = usable-inside c.self.view_is c.requires;
}

pub sync_call-requires : goal.sync_call-requires
sync_call-requires g c =
    let moves : is_moving c.self.inside.stream.status.state ≡ true = sym c.is_moving.ensures ∙ c.if-is_moving.true in
    rw c.in_state-self-inside.ensures (record {
      sound = rw c.as_slice-ring.ensures.value (draining-sound c.self.inside.stream c.self.inside.ring.items c.self.invariant moves);
      moving = refl;
      unstopped = OnOk-of c.admit.result _ c.in_ok-admit.was c.admit.ensures.unstopped;
      step = tt;
      port = let usable = usable-inside c.self.view_is c.requires in record {
        same_geometry = usable.same_geometry;
        same_member = usable.same_member;
        can = usable.can;
        behind = λ m still. usable.behind moves still;
        newer = λ m still. usable.newer moves still;
      };
    })

pub invariant_of-self : goal.invariant_of-self
invariant_of-self g c = rw (← c.as_slice-ring.ensures.value) c.sync_call.ensures.sound

pub invariant_of-self-2 : goal.invariant_of-self-2
invariant_of-self-2 g c = rw (← c.as_slice-ring.ensures.value) c.start_and_drain.ensures.sound

pub invariant_of-self-then-not-has_frames : goal.invariant_of-self-then-not-has_frames
invariant_of-self-then-not-has_frames g c =
    let admitted = admitted-by c.self.inside.stream call.Drain c.admit.ensures.answer c.in_ok-admit.was in
    rw c.dropped-self-inside.ensures (IsSoundClient-dropped c.self.inside.stream c.self.inside.ring.items c.self.invariant admitted)
