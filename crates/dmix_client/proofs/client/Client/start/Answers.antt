use Rattle.dmix_client.specs.Prelude.{arith, List, refl, rules, ℕ, ◌<◌, ◌≡◌, nat_tests, Bool, Err, false, if◌then◌else◌, nat_eq, None, Option, Some, ℤ}
use Rattle.dmix_client.specs.Prelude.{PcmError, Empty, Cursor, State, Prepared, next_of, Playback, nothing_found, refusal_in, TakesAt, PlaybackStream, Answered}
use Rattle.dmix_client.specs.Prelude.{start_course}
use Rattle.snd_base.specs.declared.errors.PcmError.TheVariants.{Xrun}
use Rattle.dmix_client.proofs.CallLaws.{admitted-by, admitted-call, both, refused-by, refused-keeping, resting-call, usable-inside}
use Rattle.snd_base.specs.declared.errors.PcmError.TheVariants as error
use Rattle.mix_core.specs.declared.gate.Gate as gates
use Rattle.mix_core.specs.declared.port.MixPort as mixport
use Rattle.pcm_states.specs.declared.calls.Call.TheVariants as call
use Rattle.dmix_client.proofs.client.Client.start.Goals as goal

written-none : (n : ℕ) → n ≡ 0 → 0 < n → ⊥
written-none n none some = omega (arith, none, some)

written-some : (n : ℕ) → (n ≡ 0 → ⊥) → nat_eq n 0 ≡ false
written-some n some = grind (arith, nat_tests, some)

-- a start is admitted of a client that is prepared
start-prepared : (stopped : Bool) (s : State)
    → (let o : Option PcmError = (if stopped then Some error.Stopped else refusal_in (next_of s call.Start (nothing_found Playback)).answer) in
    o) ≡ None → s ≡ Prepared
start-prepared false Prepared is = refl
start-prepared stopped s is = absurd (cc)

module _ {S T : Type 0} (P : mixport.Ghosts S) (G : gates.Ghosts T) where
  -- the start of a client that has no frames
  start-none : (s : S × T) (c : PlaybackStream) (ring : List ℤ) (cursor : Cursor) → c.stretch.written ≡ 0 → c.status.state ≡ Prepared
      → TakesAt P G s (start_course c ring cursor) s (let x : Answered (Unit {0}) = (c, Err (Xrun Empty)) in x)
  start-none s c ring cursor none waits = grind (arith, nat_tests)

pub returns-in_err-admit : goal.returns-in_err-admit
returns-in_err-admit g c =
    refused-keeping g.met.P.MixPort.laid_composes g.met.P.MixPort.loaded_composes c.self.view_is c.self.invariant c.requires
    (refused-by c.self.view_is c.admit.ensures.answer c.in_err-admit.was c.from_residual.ensures.1)

pub returns-then-self-eq0 : goal.returns-then-self-eq0
returns-then-self-eq0 g c =
    let stream = c.self.inside.stream in
    let none : stream.stretch.written ≡ 0 = search rules in
    let admitted = admitted-by stream call.Start c.admit.ensures.answer c.in_ok-admit.was in
    rw (← c.self.view_is) (resting-call g.met.P.MixPort.laid_composes g.met.P.MixPort.loaded_composes admitted
    (start-none g.P.MixPort g.G.Gate (both c.args.port.now c.args.gate.now) stream _ _ none (start-prepared stream.status.stopped stream.status.state admitted)) c.self.invariant
    (usable-inside c.self.view_is c.requires) refl (λ some. absurd (written-none stream.stretch.written none some)))

pub returns : goal.returns
returns g c =
    let stream = c.self.inside.stream in
    let some : nat_eq stream.stretch.written 0 ≡ false = written-some stream.stretch.written c.if-self-eq0.false in
    let admitted = admitted-by stream call.Start c.admit.ensures.answer c.in_ok-admit.was in
    rw (← c.self.view_is, ← c.as_slice-ring.ensures.value) (admitted-call admitted (rw some c.start_all.ensures.takes) refl
    c.start_all.ensures.keeps (λ frames. c.start_all.ensures.explains))

pub start_all-requires-clause-sound : goal.start_all-requires-clause-sound
start_all-requires-clause-sound g c = rw c.as_slice-ring.ensures.value c.self.invariant

pub start_all-requires-clause-port : goal.start_all-requires-clause-port
start_all-requires-clause-port g c = usable-inside c.self.view_is c.requires

pub invariant_of-self : goal.invariant_of-self
invariant_of-self g c = rw (← c.as_slice-ring.ensures.value) c.start_all.ensures.keeps.sound
