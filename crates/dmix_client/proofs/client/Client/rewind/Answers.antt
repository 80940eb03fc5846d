use Rattle.dmix_client.specs.Prelude.{ap, refl, rules, subst, sym, ℕ, ◌≡◌, ◌≤◌, false, Ok, true, same_true, Prepared, Running, Answered, is_running}
use Rattle.dmix_client.specs.Prelude.{held_entries, without_frames, ClientView}
use Rattle.pcm_states.specs.contracts.states.State.{the_type}
use Rattle.dmix_client.proofs.CallLaws.{Refusal, admitted-by, admitted-call, both, refused-by, refused-call, refused-keeps, sound-seen, usable-inside}
use Rattle.dmix_client.proofs.Going.{OnOk-of, not-both}
use Rattle.dmix_client.proofs.Rewinding.{KeepsBack-none, few-of, without-kept}
use Rattle.dmix_client.proofs.Withdrawing.{HoldsBy}
use Rattle.pcm_states.specs.declared.calls.Call.TheVariants as call
use Rattle.dmix_client.proofs.client.Client.rewind.Goals as goal

pub returns-in_err-admit : goal.returns-in_err-admit
returns-in_err-admit g c =
    let P = g.P.MixPort in
    let met = g.met.P.MixPort in
    let refusal : Refusal c.args.self.now call.Transfer c.from_residual.result =
    refused-by c.self.view_is c.admit.ensures.answer c.in_err-admit.was c.from_residual.ensures.1 in
    let holds : HoldsBy P = assumption g.met.P.MixPort in
    refused-call refusal (KeepsBack-none P g.G.Gate holds (both c.args.port.now c.args.gate.now) c.args.self.now c.from_residual.result
    (refused-keeps met.laid_composes met.loaded_composes refusal (sound-seen c.self.view_is c.self.invariant) c.requires.port))

pub returns-then-eq : goal.returns-then-eq
returns-then-eq g c =
    let stream = c.self.inside.stream in
    let runs : is_running stream.status.state ≡ true = ap is_running (same_true the_type (search rules) _ Running (sym c.if-eq.ensures)) in
    let admitted = admitted-by stream call.Transfer c.admit.ensures.answer c.in_ok-admit.was in
    rw (← c.self.view_is, ← c.as_slice-ring.ensures.value) (admitted-call admitted (rw runs c.rewind_running.ensures.takes) refl
    c.rewind_running.ensures.keeps (λ running. c.rewind_running.ensures.explains))

pub returns : goal.returns
returns g c =
    let P = g.P.MixPort in
    let holds : HoldsBy P = assumption g.met.P.MixPort in
    let stream = c.self.inside.stream in
    let taken = c.min-taken.result in
    let waits : stream.status.state ≡ Prepared = search rules in
    let rests : is_running stream.status.state ≡ false = ap is_running waits in
    let few : taken ≤ stream.stretch.written = subst (λ (k : ℕ). k ≤ stream.stretch.written) (sym c.min-taken.ensures)
    (few-of c.args.frames stream.stretch.written) in
    let admitted = admitted-by stream call.Transfer c.admit.ensures.answer c.in_ok-admit.was in
    rw (← c.self.view_is, c.without-self-inside.ensures) (admitted-call admitted
    (rw rests (record { there = refl; result = ap (λ (k : ℕ). let x : Answered ℕ = (without_frames stream k, Ok k) in x) c.min-taken.ensures })) refl
    (without-kept P g.G.Gate holds (both c.args.port.now c.args.gate.now) stream c.self.inside.ring.items taken c.self.invariant waits few
    (usable-inside c.self.view_is c.requires.port))
    (λ running. absurd (not-both stream.status.state running waits)))

pub rewind_running-requires : goal.rewind_running-requires
rewind_running-requires g c =
    let runs : c.self.inside.stream.status.state ≡ Running = same_true the_type (search rules) _ _ (sym c.if-eq.ensures) in
    let unstopped : c.self.inside.stream.status.stopped ≡ false = OnOk-of c.admit.result _ c.in_ok-admit.was c.admit.ensures.unstopped in
    record {
      sound = rw c.as_slice-ring.ensures.value c.self.invariant;
      running = search rules;
      unstopped = OnOk-of c.admit.result _ c.in_ok-admit.was c.admit.ensures.unstopped;
      port = usable-inside c.self.view_is c.requires.port;
      standing = rw c.as_slice-ring.ensures.value (subst (λ (v : ClientView). g.P.MixPort.ends_in c.args.port.now (held_entries v.stream v.ring)) (sym c.self.view_is)
          (c.requires.standing (subst (λ (v : ClientView). v.stream.status.state ≡ Running) c.self.view_is runs)
          (subst (λ (v : ClientView). v.stream.status.stopped ≡ false) c.self.view_is unstopped)));
    }

pub invariant_of-self : goal.invariant_of-self
invariant_of-self g c = rw (← c.as_slice-ring.ensures.value) c.rewind_running.ensures.keeps.sound
