-- A call that the test of a reader's state refuses, and one that it lets pass.
use Rattle.dsnoop_client.specs.Prelude.{ap, arith, refl, ◌≡◌, nat_tests, Bool, Err, false, if◌then◌else◌, None, Ok, OnOk, Option, Result, Some, true, PcmError}
use Rattle.dsnoop_client.specs.Prelude.{Call, State, next_of, Capture, is_refusal, nothing_found, refusal_in, refusal_of, refused_by, Go, pass_by}
use Rattle.dsnoop_client.specs.Prelude.{CaptureStream, Keeps, CanUse, is_running, IsSoundReader}
use Rattle.snd_base.specs.declared.errors.PcmError.TheVariants as error
use Rattle.snd_base.specs.declared.errors.XrunWhy.TheVariants as why
use Rattle.mix_core.specs.declared.gate.Gate as gates
use Rattle.pcm_states.specs.declared.calls.Call.TheVariants as call
use Rattle.pcm_states.specs.declared.states.State.TheVariants as state
use Rattle.snoop_core.specs.declared.port.SnoopPort as snoopport

pub OnOk-of : (r : Result (Unit {0}) PcmError) (Y : Type 0) → r ≡ Ok tt → OnOk r Y → Y
OnOk-of (Ok done) Y is y = y
OnOk-of (Err e) Y is y = absurd (cc)

-- a reader doesn't run and wait
pub not-both : (s : State) → is_running s ≡ false → is_running s ≡ true → ⊥
not-both s waits runs = cc

-- an admitted call finds a reader that isn't stopped, and a read one that is prepared or runs
unstopped-by : (stopped : Bool) (o : Option PcmError) → (if stopped then Some error.Stopped else o) ≡ None → stopped ≡ false
unstopped-by true o is = absurd (cc)
unstopped-by false o is = refl

pub admitted-unstopped : (c : CaptureStream) (k : Call) → refusal_of Capture c.status k ≡ None → c.status.stopped ≡ false
admitted-unstopped c k admitted = unstopped-by c.status.stopped (refusal_in (next_of c.status.state k (nothing_found Capture)).answer) admitted

pub running-by : (s : State) → is_running s ≡ true → s ≡ state.Running
running-by state.Running is = refl
running-by other is = absurd (cc)

prepared-by : (stopped : Bool) (s : State)
    → (if stopped then Some error.Stopped else refusal_in (next_of s call.Transfer (nothing_found Capture)).answer) ≡ None
    → is_running s ≡ false → s ≡ state.Prepared
prepared-by false state.Prepared admitted waits = refl
prepared-by stopped other admitted waits = absurd (cc)

pub admitted-prepared : (c : CaptureStream) → refusal_of Capture c.status call.Transfer ≡ None → is_running c.status.state ≡ false
    → c.status.state ≡ state.Prepared
admitted-prepared c admitted waits = prepared-by c.status.stopped c.status.state admitted waits

-- a refusal of the state table is no stop of the gate
go-in : (e : PcmError) → pass_by (refused_by (if is_refusal e then Some e else None)) ≡ Go
go-in (error.Xrun why.Already) = refl
go-in e = refl

go-by : (stopped : Bool) (r : Result (Unit {0}) PcmError) → stopped ≡ false
    → pass_by (refused_by (let o : Option PcmError = (if stopped then Some error.Stopped else refusal_in r) in o)) ≡ Go
go-by stopped r is = grind (arith, nat_tests)

refused-go : (c : CaptureStream) (k : Call) → c.status.stopped ≡ false → pass_by (refused_by (refusal_of Capture c.status k)) ≡ Go
refused-go c k unstopped = go-by c.status.stopped (next_of c.status.state k (nothing_found Capture)).answer unstopped

same_error : {X : Type 0} (e f : PcmError) → (let r : Result X PcmError = Err e in r) ≡ Err f → e ≡ f
same_error e f is = cc

module _ {S T : Type 0} (P : snoopport.Ghosts S) (G : gates.Ghosts T) where
  refused-keeps : {X : Type 0} (s : S × T) (c : CaptureStream) (k : Call) (e : PcmError) → IsSoundReader c → CanUse c (P.view s.0)
      → refused_by (refusal_of Capture c.status k) ≡ Err e → Keeps {X = X} P G s s c c (Err e)
  refused-keeps s c k e sound can is = grind (arith, nat_tests)

  -- a call that is refused keeps what every call keeps
  pub Keeps-refused : {X : Type 0} (s : S × T) (c : CaptureStream) (k : Call) (e : PcmError) (answer : Result X PcmError)
      → IsSoundReader c → CanUse c (P.view s.0)
      → refusal_of Capture c.status k ≡ Some e → answer ≡ Err e → Keeps P G s s c c answer
  Keeps-refused s c k e answer sound can found answered = rw answered (refused-keeps s c k e sound can (ap (λ (o : Option PcmError). refused_by o) found))

  -- a call that finds nothing to do keeps it too
  pub Keeps-still : {X : Type 0} (s : S × T) (c : CaptureStream) (x : X) → IsSoundReader c → CanUse c (P.view s.0) → c.status.stopped ≡ false
      → Keeps P G s s c c (let r : Result X PcmError = Ok x in r)
  Keeps-still s c x sound can unstopped = grind (arith, nat_tests)
