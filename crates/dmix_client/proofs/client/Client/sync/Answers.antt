use Rattle.dmix_client.specs.Prelude.{refl, sym, ◌∙◌, ◌≡◌, false, true, is_moving}
use Rattle.dmix_client.proofs.CallLaws.{admitted-by, admitted-call, refused-by, refused-keeping, resting-call, usable-inside}
use Rattle.dmix_client.proofs.Going.{IsFrameStep-moving, OnOk-of, not-resting}
use Rattle.pcm_states.specs.declared.calls.Call.TheVariants as call
use Rattle.dmix_client.proofs.client.Client.sync.Goals as goal

pub returns-in_err-admit : goal.returns-in_err-admit
returns-in_err-admit g c =
    refused-keeping g.met.P.MixPort.laid_composes g.met.P.MixPort.loaded_composes c.self.view_is c.self.invariant c.requires
    (refused-by c.self.view_is c.admit.ensures.answer c.in_err-admit.was c.from_residual.ensures.1)

pub returns-then-not-is_moving : goal.returns-then-not-is_moving
returns-then-not-is_moving g c =
    let stream = c.self.inside.stream in
    let rests : is_moving stream.status.state ≡ false = sym c.is_moving.ensures ∙ c.if-not-is_moving.true in
    let admitted = admitted-by stream call.Sync c.admit.ensures.answer c.in_ok-admit.was in
    rw (← c.self.view_is) (resting-call g.met.P.MixPort.laid_composes g.met.P.MixPort.loaded_composes admitted
    (rw rests (record { there = refl; result = refl })) c.self.invariant (usable-inside c.self.view_is c.requires) refl
    (λ moves. absurd (not-resting stream.status.state moves rests)))

pub returns : goal.returns
returns g c =
    let stream = c.self.inside.stream in
    let moves : is_moving stream.status.state ≡ true = sym c.is_moving.ensures ∙ c.if-not-is_moving.false in
    let admitted = admitted-by stream call.Sync c.admit.ensures.answer c.in_ok-admit.was in
    rw (← c.self.view_is, ← c.as_slice-ring.ensures.value) (admitted-call admitted (rw moves c.sync_call.ensures.takes) refl
    c.sync_call.ensures.keeps (λ moving. c.sync_call.ensures.explains))

pub sync_call-requires : goal.sync_call-requires
sync_call-requires g c =
    let stream = c.self.inside.stream in
    let moves : is_moving stream.status.state ≡ true = sym c.is_moving.ensures ∙ c.if-not-is_moving.false in
    record {
      sound = rw c.as_slice-ring.ensures.value c.self.invariant;
      moving = moves;
      unstopped = OnOk-of c.admit.result _ c.in_ok-admit.was c.admit.ensures.unstopped;
      step = IsFrameStep-moving stream.status.state moves;
      port = usable-inside c.self.view_is c.requires;
    }

pub invariant_of-self : goal.invariant_of-self
invariant_of-self g c = rw (← c.as_slice-ring.ensures.value) c.sync_call.ensures.sound
