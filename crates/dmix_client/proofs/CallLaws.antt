-- What a call does by its test: one that is refused changes nothing, and one that is admitted takes its course.
use Rattle.dmix_client.specs.Prelude.{arith, List, refl, subst, sym, ◌≡◌, nat_tests, Err, IsErrAnd, None, Ok, Option, Result, Some, ℤ, PcmError, Composes, Call}
use Rattle.dmix_client.specs.Prelude.{Playback, refusal_of, refused_by, Go, PortView, TakesAt, Course, pass_by, PlaybackStream, Answered, admitted_by}
use Rattle.dmix_client.specs.Prelude.{if_admitted, AnySamples, Keeps, CanUse, ClientView, IsSoundClient}
use Rattle.pcm_stream.specs.RefusalLaws.{not-both, passed-on, refusal-of_err, refusal-of_ok, same-refusal}
use Rattle.dmix_client.specs.CallRelations.{Calls}
use Rattle.dmix_client.proofs.Going.{refused-go}
use Rattle.dmix_client.proofs.Keeping.{Keeps-none}
use Rattle.mix_core.specs.declared.gate.Gate as gates
use Rattle.mix_core.specs.declared.port.MixPort as mixport

-- a port and its gate
abbrev pub both : {S T : Type 0} → S → T → S × T
both port gate = (port, gate)

-- what holds of a client inside its type holds of what contracts see of it, and the other way round
pub sound-seen : {v c : ClientView} → v ≡ c → IsSoundClient v.stream v.ring → IsSoundClient c.stream c.ring
sound-seen is sound = subst (λ (u : ClientView). IsSoundClient u.stream u.ring) is sound

pub usable-inside : {v c : ClientView} {port : PortView} → v ≡ c → CanUse c.stream port → CanUse v.stream port
usable-inside {port = port} is usable = subst (λ (u : ClientView). CanUse u.stream port) (sym is) usable

-- the state table refuses a call, which answers the table's error
pub record Refusal {X : Type 0} (c : ClientView) (call : Call) (answer : Result X PcmError) : Type 0 where
  pub error : PcmError
  pub found : refusal_of Playback c.stream.status call ≡ Some error
  pub answered : answer ≡ Err error

-- its test says so, of the client inside its type
pub refused-by : {X : Type 0} {v c : ClientView} {call : Call} {test : Result (Unit {0}) PcmError} {error : PcmError} {answer : Result X PcmError}
    → v ≡ c → test ≡ refused_by (refusal_of Playback v.stream.status call) → test ≡ Err error → IsErrAnd answer (λ e. e ≡ error) → Refusal c call answer
refused-by {v = v} {call = call} {test = test} {error = error} {answer = answer} is tested failed answered = record {
  error = error;
  found = subst (λ (u : ClientView). refusal_of Playback u.stream.status call ≡ Some error) is
      (refusal-of_err (refusal_of Playback v.stream.status call) test error tested failed);
  answered = passed-on answer error answered;
}

-- or that it admits the call
pub admitted-by : (c : PlaybackStream) (call : Call) {test : Result (Unit {0}) PcmError} → test ≡ refused_by (refusal_of Playback c.status call) → test ≡ Ok tt
    → refusal_of Playback c.status call ≡ None
admitted-by c call {test = test} tested passed = refusal-of_ok (refusal_of Playback c.status call) test tested passed

module _ {X : Type 0} {c : ClientView} {call : Call} {answer : Result X PcmError} (r : Refusal c call answer) where
  -- a refused call is refused by this error alone, and not admitted
  pub refused-answer : (e : PcmError) → refusal_of Playback c.stream.status call ≡ Some e → answer ≡ Err e
  refused-answer e found =
      subst (λ (f : PcmError). answer ≡ Err f) (same-refusal (refusal_of Playback c.stream.status call) r.error e r.found found) r.answered

  pub never-admitted : refusal_of Playback c.stream.status call ≡ None → ⊥
  never-admitted admitted = not-both (refusal_of Playback c.stream.status call) r.error r.found admitted

-- an admitted call is refused by none
pub never-refused : (c : PlaybackStream) (call : Call) (e : PcmError) → refusal_of Playback c.status call ≡ None
    → refusal_of Playback c.status call ≡ Some e → ⊥
never-refused c call e admitted found = not-both (refusal_of Playback c.status call) e found admitted

module _ {S T X : Type 0} (P : mixport.Ghosts S) (G : gates.Ghosts T) (s : S × T) (course : Course (Answered X)) where
  takes-none : (o : Option PcmError) (c : PlaybackStream) (e : PcmError) (answer : Result X PcmError) → o ≡ Some e → answer ≡ Err e
      → TakesAt P G s (admitted_by o c course) s (c, answer)
  takes-none None c e answer found answered = absurd (cc)
  takes-none (Some f) c e answer found answered = record { there = refl; result = cc }

  -- a refused call takes no step, and an admitted one its course
  pub refused-takes : {c : ClientView} {call : Call} {answer : Result X PcmError} → Refusal c call answer
      → TakesAt P G s (if_admitted c.stream call course) s (c.stream, answer)
  refused-takes {c = c} {call = call} {answer = answer} r =
      takes-none (refusal_of Playback c.stream.status call) c.stream r.error answer r.found r.answered

  pub admitted-takes : (t : S × T) (c : PlaybackStream) (call : Call) (done : Answered X)
      → refusal_of Playback c.status call ≡ None → TakesAt P G s course t done → TakesAt P G s (if_admitted c call course) t done
  admitted-takes t c call done admitted takes = subst (λ (o : Option PcmError). TakesAt P G s (admitted_by o c course) t done) (sym admitted) takes

module _ {S T X : Type 0} {P : mixport.Ghosts S} {G : gates.Ghosts T} {s : S × T} {course : Course (Answered X)} {answer : Result X PcmError} where
  -- a call that is refused, whatever it keeps of a client that stays
  pub refused-call : {c : ClientView} {call : Call} {Frame Cause : Type 0} → Refusal c call answer → Frame → Calls P G s s c c answer call course Frame Cause
  refused-call r frame = grind (arith, nat_tests)

  -- a call that is admitted
  pub admitted-call : {t : S × T} {c d : ClientView} {call : Call} {Frame Cause : Type 0}
      → refusal_of Playback c.stream.status call ≡ None → TakesAt P G s course t (d.stream, answer) → d.ring ≡ c.ring → Frame → Cause
      → Calls P G s t c d answer call course Frame Cause
  admitted-call {t = t} {c = c} {d = d} {call = call} admitted takes ring frame cause = record {
    takes = admitted-takes P G s course t c.stream call (d.stream, answer) admitted takes;
    refused = λ e found. absurd (never-refused c.stream call e admitted found);
    ring = ring;
    keeps = frame;
    causes = λ still. cause;
  }

module _ {S T X : Type 0} {P : mixport.Ghosts S} {G : gates.Ghosts T} {s : S × T} {answer : Result X PcmError} (laid_composes : Composes P.laid)
    (loaded_composes : Composes P.loaded) where
  -- what a refused call keeps: its refusal is no stop of the gate
  pub refused-keeps : {c : ClientView} {call : Call} {For : List ℤ → Type 0} → Refusal c call answer → IsSoundClient c.stream c.ring → CanUse c.stream (P.view s.0)
      → Keeps P G s s c c answer For
  refused-keeps {c = c} {call = call} {For = For} r sound port =
      Keeps-none P G laid_composes loaded_composes s c answer For sound port
      (λ unstopped. rw r.answered (subst (λ (o : Option PcmError). pass_by (refused_by o) ≡ Go) r.found (refused-go c.stream call unstopped)))

  pub refused-keeping : {course : Course (Answered X)} {v c : ClientView} {call : Call} {Cause : Type 0} → v ≡ c → IsSoundClient v.stream v.ring
      → CanUse c.stream (P.view s.0) → Refusal c call answer → Calls P G s s c c answer call course (Keeps P G s s c c answer AnySamples) Cause
  refused-keeping is sound port r = refused-call r (refused-keeps r (sound-seen is sound) port)

  -- a call that is admitted and does nothing
  pub resting-call : {course : Course (Answered X)} {c : ClientView} {call : Call} {Cause : Type 0}
      → refusal_of Playback c.stream.status call ≡ None → TakesAt P G s course s (c.stream, answer) → IsSoundClient c.stream c.ring
      → CanUse c.stream (P.view s.0)
      → pass_by answer ≡ Go → Cause → Calls P G s s c c answer call course (Keeps P G s s c c answer AnySamples) Cause
  resting-call {c = c} admitted takes sound port went cause =
      admitted-call admitted takes refl (Keeps-none P G laid_composes loaded_composes s c answer AnySamples sound port (λ unstopped. went)) cause
