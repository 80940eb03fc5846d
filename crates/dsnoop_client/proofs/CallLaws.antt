-- What a call does by its test: one that is refused changes nothing, and one that is admitted takes its course.
use Rattle.dsnoop_client.specs.Prelude.{refl, subst, sym, ◌≡◌, Err, false, IsErrAnd, None, Ok, Option, Result, Some, PcmError, Call, Capture, refusal_of}
use Rattle.dsnoop_client.specs.Prelude.{refused_by, SnoopView, TakesAtSnoop, Course, CaptureStream, Answered, admitted_by, if_admitted, Keeps, CanUse}
use Rattle.dsnoop_client.specs.Prelude.{IsSoundReader}
use Rattle.pcm_stream.specs.RefusalLaws.{not-both, passed-on, refusal-of_err, refusal-of_ok, same-refusal}
use Rattle.dsnoop_client.specs.CallRelations.{Calls}
use Rattle.dsnoop_client.proofs.Refusing.{Keeps-refused, Keeps-still}
use Rattle.mix_core.specs.declared.gate.Gate as gates
use Rattle.snoop_core.specs.declared.port.SnoopPort as snoopport

-- a port and its gate
abbrev pub both : {S T : Type 0} → S → T → S × T
both port gate = (port, gate)

-- what holds of a reader inside its type holds of what contracts see of it, and the other way round
pub sound-seen : {v c : CaptureStream} → v ≡ c → IsSoundReader v → IsSoundReader c
sound-seen is sound = subst (λ (u : CaptureStream). IsSoundReader u) is sound

pub usable-inside : {v c : CaptureStream} {port : SnoopView} → v ≡ c → CanUse c port → CanUse v port
usable-inside {port = port} is usable = subst (λ (u : CaptureStream). CanUse u port) (sym is) usable

-- the state table refuses a call, which answers the table's error
pub record Refusal {X : Type 0} (c : CaptureStream) (call : Call) (answer : Result X PcmError) : Type 0 where
  pub error : PcmError
  pub found : refusal_of Capture c.status call ≡ Some error
  pub answered : answer ≡ Err error

-- its test says so, of the reader inside its type
pub refused-by : {X : Type 0} {v c : CaptureStream} {call : Call} {test : Result (Unit {0}) PcmError} {error : PcmError} {answer : Result X PcmError}
    → v ≡ c → test ≡ refused_by (refusal_of Capture v.status call) → test ≡ Err error → IsErrAnd answer (λ e. e ≡ error) → Refusal c call answer
refused-by {v = v} {call = call} {test = test} {error = error} {answer = answer} is tested failed answered = record {
  error = error;
  found = subst (λ (u : CaptureStream). refusal_of Capture u.status call ≡ Some error) is (refusal-of_err (refusal_of Capture v.status call)
      test error tested failed);
  answered = passed-on answer error answered;
}

-- or that it admits the call
pub admitted-by : (c : CaptureStream) (call : Call) {test : Result (Unit {0}) PcmError} → test ≡ refused_by (refusal_of Capture c.status call) → test ≡ Ok tt
    → refusal_of Capture c.status call ≡ None
admitted-by c call {test = test} tested passed = refusal-of_ok (refusal_of Capture c.status call) test tested passed

module _ {X : Type 0} {c : CaptureStream} {call : Call} {answer : Result X PcmError} (r : Refusal c call answer) where
  -- a refused call is refused by this error alone, and not admitted
  pub refused-answer : (e : PcmError) → refusal_of Capture c.status call ≡ Some e → answer ≡ Err e
  refused-answer e found =
      subst (λ (f : PcmError). answer ≡ Err f) (same-refusal (refusal_of Capture c.status call) r.error e r.found found) r.answered

  pub never-admitted : refusal_of Capture c.status call ≡ None → ⊥
  never-admitted admitted = not-both (refusal_of Capture c.status call) r.error r.found admitted

-- an admitted call is refused by none
pub never-refused : (c : CaptureStream) (call : Call) (e : PcmError) → refusal_of Capture c.status call ≡ None → refusal_of Capture c.status call ≡ Some e → ⊥
never-refused c call e admitted found = not-both (refusal_of Capture c.status call) e found admitted

module _ {S T X : Type 0} (P : snoopport.Ghosts S) (G : gates.Ghosts T) (s : S × T) (course : Course (Answered X)) where
  takes-none : (o : Option PcmError) (c : CaptureStream) (e : PcmError) (answer : Result X PcmError) → o ≡ Some e → answer ≡ Err e
      → TakesAtSnoop P G s (admitted_by o c course) s (c, answer)
  takes-none None c e answer found answered = absurd (cc)
  takes-none (Some f) c e answer found answered = record { there = refl; result = cc }

  -- a refused call takes no step, and an admitted one its course
  pub refused-takes : {c : CaptureStream} {call : Call} {answer : Result X PcmError} → Refusal c call answer
      → TakesAtSnoop P G s (if_admitted c call course) s (c, answer)
  refused-takes {c = c} {call = call} {answer = answer} r = takes-none (refusal_of Capture c.status call) c r.error answer r.found r.answered

  pub admitted-takes : (t : S × T) (c : CaptureStream) (call : Call) (done : Answered X)
      → refusal_of Capture c.status call ≡ None → TakesAtSnoop P G s course t done → TakesAtSnoop P G s (if_admitted c call course) t done
  admitted-takes t c call done admitted takes =
      subst (λ (o : Option PcmError). TakesAtSnoop P G s (admitted_by o c course) t done) (sym admitted) takes

module _ {S T X : Type 0} {P : snoopport.Ghosts S} {G : gates.Ghosts T} {s : S × T} {course : Course (Answered X)} {answer : Result X PcmError} where
  -- a call that is refused
  pub refused-call : {v c : CaptureStream} {call : Call} {Cause : Type 0} → v ≡ c → IsSoundReader v → CanUse c (P.view s.0)
      → Refusal c call answer → Calls P G s s c c answer call course Cause
  refused-call {c = c} {call = call} is sound port r = record {
    takes = refused-takes P G s course r;
    refused = λ e found. (refused-answer r e found, refl, refl, refl);
    keeps = Keeps-refused P G s c call r.error answer (sound-seen is sound) port r.found r.answered;
    causes = λ admitted. absurd (never-admitted r admitted);
  }

  -- a call that is admitted
  pub admitted-call : {t : S × T} {c d : CaptureStream} {call : Call} {Cause : Type 0}
      → refusal_of Capture c.status call ≡ None → TakesAtSnoop P G s course t (d, answer) → Keeps P G s t c d answer → Cause
      → Calls P G s t c d answer call course Cause
  admitted-call {t = t} {c = c} {d = d} {call = call} admitted takes keeps cause = record {
    takes = admitted-takes P G s course t c call (d, answer) admitted takes;
    refused = λ e found. absurd (never-refused c call e admitted found);
    keeps = keeps;
    causes = λ still. cause;
  }

-- a call that is admitted and does nothing
pub resting-call : {S T X : Type 0} {P : snoopport.Ghosts S} {G : gates.Ghosts T} {s : S × T} {course : Course (Answered X)} {c : CaptureStream} {call : Call}
    {Cause : Type 0} (x : X) → refusal_of Capture c.status call ≡ None → TakesAtSnoop P G s course s (let y : Answered X = (c, Ok x) in y)
    → IsSoundReader c → CanUse c (P.view s.0)
    → c.status.stopped ≡ false → Cause → Calls P G s s c c (let r : Result X PcmError = Ok x in r) call course Cause
resting-call {P = P} {G = G} {s = s} {c = c} x admitted takes sound port unstopped cause =
    admitted-call admitted takes (Keeps-still P G s c x sound port unstopped) cause
