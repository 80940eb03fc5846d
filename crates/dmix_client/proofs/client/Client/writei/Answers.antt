use Rattle.dmix_client.specs.Prelude.{ap, arith, refl, rules, subst, sym, ℕ, ◌≡◌, true, same_true, Prepared, Running, Answered, is_running, starts_with}
use Rattle.pcm_states.specs.contracts.states.State.{the_type}
use Rattle.dmix_client.proofs.CallLaws.{Refusal, admitted-by, admitted-takes, both, never-admitted, never-refused, refused-answer, refused-by, refused-keeps, refused-takes, sound-seen, usable-inside}
use Rattle.dmix_client.proofs.Going.{OnOk-of, not-both}
use Rattle.dmix_client.proofs.Looking.{write-prepared, write-running}
use Rattle.dmix_client.proofs.Storing.{take-written}
use Rattle.pcm_states.specs.declared.calls.Call.TheVariants as call
use Rattle.dmix_client.proofs.client.Client.writei.Goals as goal

pub returns-in_err-admit : goal.returns-in_err-admit
returns-in_err-admit g c =
    let r : Refusal c.args.self.now call.Transfer c.from_residual.result = refused-by c.self.view_is c.admit.ensures.answer c.in_err-admit.was c.from_residual.ensures.1 in
    record {
      takes = refused-takes g.P.MixPort g.G.Gate (both c.args.port.now c.args.gate.now) _ r;
      refused = λ e found. (refused-answer r e found, refl, refl, refl);
      keeps = refused-keeps g.met.P.MixPort.laid_composes g.met.P.MixPort.loaded_composes r (sound-seen c.self.view_is c.self.invariant) c.requires.port;
      stores = λ admitted waits. absurd (never-admitted r admitted);
      starts = λ admitted waits begins. absurd (never-admitted r admitted);
      again = λ admitted running. absurd (never-admitted r admitted);
    }

pub returns-then-eq : goal.returns-then-eq
returns-then-eq g c =
    let stream = c.self.inside.stream in
    let s = both c.args.port.now c.args.gate.now in
    let t = both c.write_running-answer.new.port c.write_running-answer.new.gate in
    let after : Answered ℕ = (c.write_running-answer.new.stream, c.write_running-answer.result) in
    let runs : stream.status.state ≡ Running = same_true the_type (search rules) _ _ (sym c.if-eq.ensures) in
    let admitted = admitted-by stream call.Transfer c.admit.ensures.answer c.in_ok-admit.was in
    let back = take-written c.self.inside.ring.len c.write_running-answer.new.ring c.self.inside.ring.items (omega (arith, c.as_mut_slice-ring.ensures.len)) in
    rw (← c.self.view_is, back, c.frames_answer.ensures) (record {
      takes = rw (← c.as_mut_slice-ring.ensures.value) (admitted-takes g.P.MixPort g.G.Gate s _ t stream call.Transfer after admitted
          (write-running g.P.MixPort g.G.Gate s t stream _ c.args.samples.now _ c.whole_frames-frames.result after (ap is_running runs)
          c.whole_frames-frames.ensures.value c.write_running-answer.ensures.takes));
      refused = λ e found. absurd (never-refused stream call.Transfer e admitted found);
      keeps = rw (← c.whole_frames-frames.ensures.value, ← c.as_mut_slice-ring.ensures.value) c.write_running-answer.ensures.keeps;
      stores = λ found waits. absurd (not-both stream.status.state runs waits);
      starts = λ found waits begins. absurd (not-both stream.status.state runs waits);
      again = λ found running. rw (← c.whole_frames-frames.ensures.value, ← c.as_mut_slice-ring.ensures.value) c.write_running-answer.ensures.explains;
    })

pub returns : goal.returns
returns g c =
    let stream = c.self.inside.stream in
    let s = both c.args.port.now c.args.gate.now in
    let t = both c.write_prepared-answer.new.port c.write_prepared-answer.new.gate in
    let after : Answered ℕ = (c.write_prepared-answer.new.stream, c.write_prepared-answer.result) in
    let waits : stream.status.state ≡ Prepared = search rules in
    let admitted = admitted-by stream call.Transfer c.admit.ensures.answer c.in_ok-admit.was in
    let back = take-written c.self.inside.ring.len c.write_prepared-answer.new.ring c.self.inside.ring.items (omega (arith, c.as_mut_slice-ring.ensures.len)) in
    rw (← c.self.view_is, back, c.frames_answer-2.ensures) (record {
      takes = rw (← c.as_mut_slice-ring.ensures.value) (admitted-takes g.P.MixPort g.G.Gate s _ t stream call.Transfer after admitted
          (write-prepared g.P.MixPort g.G.Gate s t stream _ c.args.samples.now _ c.whole_frames-frames.result after (ap is_running waits)
          c.whole_frames-frames.ensures.value c.write_prepared-answer.ensures.takes));
      refused = λ e found. absurd (never-refused stream call.Transfer e admitted found);
      keeps = rw (← c.whole_frames-frames.ensures.value, ← c.as_mut_slice-ring.ensures.value) c.write_prepared-answer.ensures.keeps;
      stores = λ found prepared. rw (← c.whole_frames-frames.ensures.value, ← c.as_mut_slice-ring.ensures.value) c.write_prepared-answer.ensures.ring;
      starts = λ found prepared begins.
          rw (← c.whole_frames-frames.ensures.value) (c.write_prepared-answer.ensures.explains
          (subst (λ (k : ℕ). starts_with stream k ≡ true) (sym c.whole_frames-frames.ensures.value) begins));
      again = λ found running. absurd (not-both stream.status.state running waits);
    })

pub write_running-answer-requires : goal.write_running-answer-requires
write_running-answer-requires g c = record {
  sound = rw c.as_mut_slice-ring.ensures.value c.self.invariant;
  running = search rules;
  unstopped = OnOk-of c.admit.result _ c.in_ok-admit.was c.admit.ensures.unstopped;
  held = c.whole_frames-frames.ensures.held;
  few = search rules;
  fed = search rules;
  port = usable-inside c.self.view_is c.requires.port;
}

pub write_prepared-answer-requires-clause-sound : goal.write_prepared-answer-requires-clause-sound
write_prepared-answer-requires-clause-sound g c = rw c.as_mut_slice-ring.ensures.value c.self.invariant

pub write_prepared-answer-requires-clause-held : goal.write_prepared-answer-requires-clause-held
write_prepared-answer-requires-clause-held g c = c.whole_frames-frames.ensures.held

pub write_prepared-answer-requires-clause-port : goal.write_prepared-answer-requires-clause-port
write_prepared-answer-requires-clause-port g c =
    usable-inside c.self.view_is c.requires.port

pub frames_answer-requires : goal.frames_answer-requires
frames_answer-requires g c = c.write_running-answer.ensures.count

pub frames_answer-requires-2 : goal.frames_answer-requires-2
frames_answer-requires-2 g c = c.write_prepared-answer.ensures.count

pub invariant_of-self : goal.invariant_of-self
invariant_of-self g c =
    rw (take-written c.self.inside.ring.len c.write_running-answer.new.ring c.self.inside.ring.items (omega (arith, c.as_mut_slice-ring.ensures.len)))
    c.write_running-answer.ensures.sound

pub invariant_of-self-2 : goal.invariant_of-self-2
invariant_of-self-2 g c =
    rw (take-written c.self.inside.ring.len c.write_prepared-answer.new.ring c.self.inside.ring.items (omega (arith, c.as_mut_slice-ring.ensures.len)))
    c.write_prepared-answer.ensures.sound
