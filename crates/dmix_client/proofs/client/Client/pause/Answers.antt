use Rattle.dmix_client.specs.Prelude.{arith, refl, ℕ, ◌<◌, ◌≡◌, Bool, false, Result, true, PcmError, Composes, Call, base_of, pending_of, AnySamples, Keeps}
use Rattle.dmix_client.specs.Prelude.{CanUse, ClientView, IsSoundClient}
use Rattle.dmix_client.proofs.CallLaws.{Refusal, admitted-by, admitted-call, both, refused-by, refused-call, refused-keeps, sound-seen, usable-inside}
use Rattle.dmix_client.proofs.Keeping.{IsSoundClient-paused, IsSoundClient-rebased, base-kept, client, paused-kept, rebased-kept, resume-paused}
use Rattle.dmix_client.proofs.Looking.{rebases-takes, resumes-takes}
use Rattle.mix_core.specs.declared.gate.Gate as gates
use Rattle.mix_core.specs.declared.port.MixPort as mixport
use Rattle.pcm_states.specs.declared.calls.Call.TheVariants as call
use Rattle.dmix_client.proofs.client.Client.pause.Goals as goal

unlike : (b : Bool) → b ≡ true → b ≡ false → ⊥
unlike b is_true is_false = cc

none-pending : (n : ℕ) → n ≡ 0 → 0 < n → ⊥
none-pending n none some = omega (arith, none, some)

-- a call that is refused keeps the counts with which it began
refused-based : {S T X : Type 0} {P : mixport.Ghosts S} {G : gates.Ghosts T} {s : S × T} {v c : ClientView} {call : Call} {answer : Result X PcmError}
    → Composes P.laid → Composes P.loaded → v ≡ c → IsSoundClient v.stream v.ring → Refusal c call answer → CanUse c.stream (P.view s.0)
    → Keeps P G s s (client (base_of c.stream c.stream) c.ring) c answer AnySamples
refused-based {c = c} laid loaded is sound refusal usable = rw (base-kept c.stream c.stream (λ paused. paused)) (refused-keeps laid loaded refusal (sound-seen is sound) usable)

pub returns-in_err-admit : goal.returns-in_err-admit
returns-in_err-admit g c =
    let refusal : Refusal c.args.self.now call.Pause c.from_residual.result =
    refused-by c.self.view_is c.admit.ensures.answer c.in_err-admit.was c.from_residual.ensures.1 in
    rw c.if-on.true (refused-call refusal (refused-based g.met.P.MixPort.laid_composes g.met.P.MixPort.loaded_composes c.self.view_is c.self.invariant refusal))

pub returns-in_err-admit-2 : goal.returns-in_err-admit-2
returns-in_err-admit-2 g c =
    let refusal : Refusal c.args.self.now call.Resume c.from_residual-in_err-admit-2.result =
    refused-by c.self.view_is c.admit-2.ensures.answer c.in_err-admit-2.was c.from_residual-in_err-admit-2.ensures.1 in
    rw c.if-on.false (refused-call refusal (refused-based g.met.P.MixPort.laid_composes g.met.P.MixPort.loaded_composes c.self.view_is c.self.invariant refusal))

pub returns-then-on : goal.returns-then-on
returns-then-on g c =
    let stream = c.self.inside.stream in
    let s = both c.args.port.now c.args.gate.now in
    let admitted = admitted-by stream call.Pause c.admit.ensures.answer c.in_ok-admit.was in
    rw (c.if-on.true, ← c.self.view_is, c.in_state-self-inside.ensures) (admitted-call admitted (record { there = refl; result = refl }) refl
    (paused-kept g.P.MixPort g.G.Gate g.met.P.MixPort.laid_composes g.met.P.MixPort.loaded_composes s stream c.self.inside.ring.items c.self.invariant admitted)
    (record { pauses = λ on. (refl, refl, refl, refl); resumes = λ off some. absurd (unlike true refl off) }))

pub returns-then-pending-eq0 : goal.returns-then-pending-eq0
returns-then-pending-eq0 g c =
    let stream = c.self.inside.stream in
    let s = both c.args.port.now c.args.gate.now in
    let admitted = admitted-by stream call.Resume c.admit-2.ensures.answer c.in_ok-admit-2.was in
    let none : pending_of stream ≡ 0 = omega (arith, c.if-pending-eq0.true, c.pending.ensures) in
    rw (c.if-on.false, ← c.self.view_is, c.rebased-self-inside.ensures) (admitted-call admitted (rebases-takes g.P.MixPort g.G.Gate s stream _ _ _ none refl) refl
    (rebased-kept g.P.MixPort g.G.Gate g.met.P.MixPort.laid_composes g.met.P.MixPort.loaded_composes s stream c.self.inside.ring.items c.self.invariant admitted)
    (record { pauses = λ on. absurd (unlike false on refl); resumes = λ off some. absurd (none-pending (pending_of stream) none some) }))

pub returns : goal.returns
returns g c =
    let stream = c.self.inside.stream in
    let some : 0 < pending_of stream = omega (arith, c.if-pending-eq0.false, c.pending.ensures) in
    let admitted = admitted-by stream call.Resume c.admit-2.ensures.answer c.in_ok-admit-2.was in
    rw (c.if-on.false, ← c.self.view_is, ← c.as_slice-ring.ensures.value) (admitted-call admitted (resumes-takes g.P.MixPort g.G.Gate _ _ stream _ _ _ some c.resume.ensures.takes) refl
    (λ usable. c.resume.ensures.keeps)
    (record { pauses = λ on. absurd (unlike false on refl); resumes = λ off some. c.resume.ensures.explains }))

pub resume-requires-clause-sound : goal.resume-requires-clause-sound
resume-requires-clause-sound g c = rw c.as_slice-ring.ensures.value c.self.invariant

pub resume-requires-clause-port : goal.resume-requires-clause-port
resume-requires-clause-port g c =
    usable-inside c.self.view_is (c.requires c.if-on.false)

pub invariant_of-self : goal.invariant_of-self
invariant_of-self g c =
    let admitted = admitted-by c.self.inside.stream call.Pause c.admit.ensures.answer c.in_ok-admit.was in
    rw c.in_state-self-inside.ensures (IsSoundClient-paused c.self.inside.stream c.self.inside.ring.items c.self.invariant admitted)

pub invariant_of-self-2 : goal.invariant_of-self-2
invariant_of-self-2 g c = rw (← c.as_slice-ring.ensures.value) c.resume.ensures.keeps.sound

pub invariant_of-self-then-pending-eq0 : goal.invariant_of-self-then-pending-eq0
invariant_of-self-then-pending-eq0 g c =
    let stream = c.self.inside.stream in
    let admitted = admitted-by stream call.Resume c.admit-2.ensures.answer c.in_ok-admit-2.was in
    let is = resume-paused stream.status.stopped stream.status.state admitted in
    rw c.rebased-self-inside.ensures (IsSoundClient-rebased stream c.self.inside.ring.items c.self.invariant is)
