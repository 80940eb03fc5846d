use Rattle.dmix_client.specs.Prelude.{refl, subst, sym, ℕ, ◌∙◌, ◌≡◌, false, true, is_moving, Answered, with_number, AnySamples, Keeps}
use Rattle.dmix_client.specs.Asked.{asked_number}
use Rattle.dmix_client.proofs.CallLaws.{admitted-by, admitted-call, both, refused-by, refused-keeping, resting-call, usable-inside}
use Rattle.dmix_client.proofs.Caused.{caused-number}
use Rattle.dmix_client.proofs.Going.{IsFrameStep-moving, OnOk-of, not-resting}
use Rattle.dmix_client.proofs.Keeping.{Explains-by, Keeps-numbered, client}
use Rattle.dmix_client.proofs.Looking.{number-moving, number-resting}
use Rattle.dmix_client.proofs.Readiness.{IsReady-going, written-fits-going}
use Rattle.pcm_states.specs.declared.calls.Call.TheVariants as call
use Rattle.dmix_client.proofs.client.Client.ask.Goals as goal

pub returns-in_err-admit : goal.returns-in_err-admit
returns-in_err-admit g c =
    refused-keeping g.met.P.MixPort.laid_composes g.met.P.MixPort.loaded_composes c.self.view_is c.self.invariant c.requires
    (refused-by c.self.view_is c.admit.ensures.answer c.in_err-admit.was c.from_residual.ensures.1)

pub returns-then-not-is_moving : goal.returns-then-not-is_moving
returns-then-not-is_moving g c =
    let stream = c.self.inside.stream in
    let rests : is_moving stream.status.state ≡ false = sym c.is_moving.ensures ∙ c.if-not-is_moving.true in
    let admitted = admitted-by stream call.Sync c.admit.ensures.answer c.in_ok-admit.was in
    rw (← c.self.view_is) (resting-call g.met.P.MixPort.laid_composes g.met.P.MixPort.loaded_composes admitted
    (number-resting g.P.MixPort g.G.Gate _ (asked_number c.args.asked) stream _ c.number.result rests c.number.ensures) c.self.invariant
    (usable-inside c.self.view_is c.requires) refl
    (λ moves. absurd (not-resting stream.status.state moves rests)))

pub returns : goal.returns
returns g c =
    let P = g.P.MixPort in
    let G = g.G.Gate in
    let stream = c.self.inside.stream in
    let ring = c.as_slice-ring.result.now in
    let after = c.sync_call-answer.new.stream in
    let s = both c.args.port.now c.args.gate.now in
    let t = both c.sync_call-answer.new.port c.sync_call-answer.new.gate in
    let number = asked_number c.args.asked in
    let moves : is_moving stream.status.state ≡ true = sym c.is_moving.ensures ∙ c.if-not-is_moving.false in
    let admitted = admitted-by stream call.Sync c.admit.ensures.answer c.in_ok-admit.was in
    rw (← c.self.view_is, ← c.as_slice-ring.ensures.value) (admitted-call admitted
    (number-moving P G s t number stream ring (after, c.sync_call-answer.result) (after, c.with_number.result) moves c.sync_call-answer.ensures.takes
    c.with_number.ensures) refl
    (subst (λ (b : Answered ℕ). Keeps P G s t (client stream ring) (client b.0 ring) b.1 AnySamples) c.with_number.ensures
    (Keeps-numbered P G g.met.P.MixPort.laid_composes g.met.P.MixPort.loaded_composes s t (client stream ring) number (after, c.sync_call-answer.result) ring c.sync_call-answer.ensures.keeps))
    (λ moving. Explains-by P G g.met.P.MixPort.laid_composes g.met.P.MixPort.loaded_composes (with_number number)
    (λ load why. caused-number number (after, c.sync_call-answer.result) why) c.with_number.ensures c.sync_call-answer.ensures.explains))

pub sync_call-answer-requires : goal.sync_call-answer-requires
sync_call-answer-requires g c =
    let stream = c.self.inside.stream in
    let moves : is_moving stream.status.state ≡ true = sym c.is_moving.ensures ∙ c.if-not-is_moving.false in
    record {
      sound = rw c.as_slice-ring.ensures.value c.self.invariant;
      moving = moves;
      unstopped = OnOk-of c.admit.result _ c.in_ok-admit.was c.admit.ensures.unstopped;
      step = IsFrameStep-moving stream.status.state moves;
      port = usable-inside c.self.view_is c.requires;
    }

pub with_number-requires : goal.with_number-requires
with_number-requires g c = record {
  ready = IsReady-going c.sync_call-answer.result c.sync_call-answer.new.stream c.as_slice-ring.result.now c.sync_call-answer.ensures.sound
      c.sync_call-answer.ensures.goes;
  fits = written-fits-going c.sync_call-answer.result c.sync_call-answer.new.stream c.as_slice-ring.result.now c.sync_call-answer.ensures.sound
      c.sync_call-answer.ensures.goes;
}

pub invariant_of-self : goal.invariant_of-self
invariant_of-self g c = rw (← c.as_slice-ring.ensures.value) c.sync_call-answer.ensures.sound
