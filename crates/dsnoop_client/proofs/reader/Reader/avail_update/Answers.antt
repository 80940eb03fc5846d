use Rattle.dsnoop_client.specs.Prelude.{arith, refl, rules, subst, sym, ℕ, ◌∙◌, ◌≡◌, nat_tests, false, true, CaptureStream, Answered, with_avail, syncs, Keeps}
use Rattle.dsnoop_client.specs.Prelude.{is_running}
use Rattle.dsnoop_client.proofs.CallLaws.{admitted-by, admitted-call, both, refused-by, refused-call, resting-call, usable-inside}
use Rattle.dsnoop_client.proofs.Explaining.{why-avail}
use Rattle.dsnoop_client.proofs.Loading.{counts-by}
use Rattle.dsnoop_client.proofs.Refusing.{OnOk-of, not-both, running-by}
use Rattle.mix_core.specs.declared.gate.Gate as gates
use Rattle.pcm_states.specs.declared.calls.Call.TheVariants as call
use Rattle.snoop_core.specs.declared.port.SnoopPort as snoopport
use Rattle.dsnoop_client.proofs.reader.Reader.avail_update.Goals as goal

module _ {S T : Type 0} (P : snoopport.Ghosts S) (G : gates.Ghosts T) where
  -- what a sync keeps, it keeps with a number in its answer
  Keeps-avail : (s t : S × T) (c : CaptureStream) (a : Answered (Unit {0})) → Keeps P G s t c a.0 a.1 → Keeps P G s t c (with_avail a).0 (with_avail a).1
  Keeps-avail s t c a k = grind (arith, nat_tests)

pub returns-in_err-admit : goal.returns-in_err-admit
returns-in_err-admit g c =
    refused-call c.self.view_is c.self.invariant.0 c.requires
    (refused-by c.self.view_is c.admit.ensures.answer c.in_err-admit.was c.from_residual.ensures.1)

pub returns-then-not-is_running : goal.returns-then-not-is_running
returns-then-not-is_running g c =
    let stream = c.self.inside.stream in
    let rests : is_running stream.status.state ≡ false = sym c.is_running.ensures ∙ c.if-not-is_running.true in
    let admitted = admitted-by stream call.Sync c.admit.ensures.answer c.in_ok-admit.was in
    rw (← c.self.view_is) (resting-call 0 admitted
    (rw rests (record { there = refl; result = refl })) c.self.invariant.0 (usable-inside c.self.view_is c.requires)
    (OnOk-of c.admit.result _ c.in_ok-admit.was c.admit.ensures.unstopped)
    (λ runs. absurd (not-both stream.status.state rests runs)))

pub returns : goal.returns
returns g c =
    let P = g.P.SnoopPort in
    let G = g.G.Gate in
    let stream = c.self.inside.stream in
    let after = c.sync_call-answer.new.stream in
    let s = both c.args.port.now c.args.gate.now in
    let t = both c.sync_call-answer.new.port c.sync_call-answer.new.gate in
    let runs : is_running stream.status.state ≡ true = sym c.is_running.ensures ∙ c.if-not-is_running.false in
    let admitted = admitted-by stream call.Sync c.admit.ensures.answer c.in_ok-admit.was in
    rw (← c.self.view_is) (admitted-call admitted
    (rw runs (counts-by P G s t (syncs stream call.Sync) (after, c.sync_call-answer.result) (after, c.with_avail.result) c.sync_call-answer.ensures.takes
    c.with_avail.ensures))
    (subst (λ (b : Answered ℕ). Keeps P G s t stream b.0 b.1) c.with_avail.ensures (Keeps-avail P G s t stream (after, c.sync_call-answer.result)
    c.sync_call-answer.ensures.keeps))
    (λ running. why-avail P c.args.port.now c.sync_call-answer.new.port stream after c.sync_call-answer.result c.with_avail.result c.with_avail.ensures
    c.sync_call-answer.ensures.causes))

pub sync_call-answer-requires : goal.sync_call-answer-requires
sync_call-answer-requires g c = record {
  sound = c.self.invariant.0;
  running = running-by c.self.inside.stream.status.state (sym c.is_running.ensures ∙ c.if-not-is_running.false);
  unstopped = OnOk-of c.admit.result _ c.in_ok-admit.was c.admit.ensures.unstopped;
  sync = search rules;
  port = usable-inside c.self.view_is c.requires;
}
