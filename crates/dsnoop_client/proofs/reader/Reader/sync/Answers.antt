use Rattle.dsnoop_client.specs.Prelude.{refl, rules, sym, ◌∙◌, ◌≡◌, false, true, is_running}
use Rattle.dsnoop_client.proofs.CallLaws.{admitted-by, admitted-call, refused-by, refused-call, resting-call, usable-inside}
use Rattle.dsnoop_client.proofs.Refusing.{OnOk-of, not-both, running-by}
use Rattle.pcm_states.specs.declared.calls.Call.TheVariants as call
use Rattle.dsnoop_client.proofs.reader.Reader.sync.Goals as goal

pub returns-in_err-admit : goal.returns-in_err-admit
returns-in_err-admit g c =
    refused-call c.self.view_is c.self.invariant.0 c.requires
    (refused-by c.self.view_is c.admit.ensures.answer c.in_err-admit.was c.from_residual.ensures.1)

pub returns-then-not-is_running : goal.returns-then-not-is_running
returns-then-not-is_running g c =
    let stream = c.self.inside.stream in
    let rests : is_running stream.status.state ≡ false = sym c.is_running.ensures ∙ c.if-not-is_running.true in
    let admitted = admitted-by stream call.Sync c.admit.ensures.answer c.in_ok-admit.was in
    rw (← c.self.view_is) (resting-call tt admitted
    (rw rests (record { there = refl; result = refl })) c.self.invariant.0 (usable-inside c.self.view_is c.requires)
    (OnOk-of c.admit.result _ c.in_ok-admit.was c.admit.ensures.unstopped)
    (λ runs. absurd (not-both stream.status.state rests runs)))

pub returns : goal.returns
returns g c =
    let stream = c.self.inside.stream in
    let runs : is_running stream.status.state ≡ true = sym c.is_running.ensures ∙ c.if-not-is_running.false in
    let admitted = admitted-by stream call.Sync c.admit.ensures.answer c.in_ok-admit.was in
    rw (← c.self.view_is) (admitted-call admitted (rw runs c.sync_call.ensures.takes) c.sync_call.ensures.keeps
    (λ running. c.sync_call.ensures.causes))

pub sync_call-requires : goal.sync_call-requires
sync_call-requires g c = record {
  sound = c.self.invariant.0;
  running = running-by c.self.inside.stream.status.state (sym c.is_running.ensures ∙ c.if-not-is_running.false);
  unstopped = OnOk-of c.admit.result _ c.in_ok-admit.was c.admit.ensures.unstopped;
  sync = search rules;
  port = usable-inside c.self.view_is c.requires;
}
