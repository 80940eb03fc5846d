use Rattle.dmix_client.specs.Prelude.{ap, refl, rules, sym, ◌≡◌, false, true, same_true, Prepared, Running, is_running}
use Rattle.pcm_states.specs.contracts.states.State.{the_type}
use Rattle.dmix_client.proofs.CallLaws.{admitted-by, admitted-call, refused-by, refused-keeping, resting-call, usable-inside}
use Rattle.dmix_client.proofs.Going.{OnOk-of, not-both}
use Rattle.pcm_states.specs.declared.calls.Call.TheVariants as call
use Rattle.dmix_client.proofs.client.Client.rewindable.Goals as goal

pub returns-in_err-admit : goal.returns-in_err-admit
returns-in_err-admit g c =
    refused-keeping g.met.P.MixPort.laid_composes g.met.P.MixPort.loaded_composes c.self.view_is c.self.invariant c.requires
    (refused-by c.self.view_is c.admit.ensures.answer c.in_err-admit.was c.from_residual.ensures.1)

pub returns-then-eq : goal.returns-then-eq
returns-then-eq g c =
    let stream = c.self.inside.stream in
    let runs : is_running stream.status.state ≡ true = ap is_running (same_true the_type (search rules) _ Running (sym c.if-eq.ensures)) in
    let admitted = admitted-by stream call.Transfer c.admit.ensures.answer c.in_ok-admit.was in
    rw (← c.self.view_is) (admitted-call admitted (rw runs c.rewindable_running.ensures.takes) refl
    (c.rewindable_running.ensures.keeps c.self.inside.ring.items c.self.invariant) (λ running. c.rewindable_running.ensures.explains))

pub returns : goal.returns
returns g c =
    let stream = c.self.inside.stream in
    let waits : stream.status.state ≡ Prepared = search rules in
    let rests : is_running stream.status.state ≡ false = ap is_running waits in
    let admitted = admitted-by stream call.Transfer c.admit.ensures.answer c.in_ok-admit.was in
    rw (← c.self.view_is) (resting-call g.met.P.MixPort.laid_composes g.met.P.MixPort.loaded_composes admitted
    (rw rests (record { there = refl; result = refl })) c.self.invariant (usable-inside c.self.view_is c.requires) refl
    (λ running. absurd (not-both stream.status.state running waits)))

pub rewindable_running-requires : goal.rewindable_running-requires
rewindable_running-requires g c = record {
  sound = (c.self.inside.ring.items, c.self.invariant);
  running = search rules;
  unstopped = OnOk-of c.admit.result _ c.in_ok-admit.was c.admit.ensures.unstopped;
  port = usable-inside c.self.view_is c.requires;
}

pub invariant_of-self : goal.invariant_of-self
invariant_of-self g c = (c.rewindable_running.ensures.keeps c.self.inside.ring.items c.self.invariant).sound
