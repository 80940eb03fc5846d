-- A reader that runs is ready to read, and a read that doesn't start a prepared one waits.
use Rattle.dsnoop_client.specs.Prelude.{arith, inl, inr, refl, subst, sym, ℕ, ◌-◌, ◌<◌, ◌≡◌, ◌≤◌, nat_tests, Bool, Err, false, IfOk, if◌then◌else◌, nat_eq}
use Rattle.dsnoop_client.specs.Prelude.{nat_le, Ok, Result, true, PcmError, Again, TakesAtSnoop, CaptureStream, Answered, waits, read_course, reads_first}
use Rattle.dsnoop_client.specs.Prelude.{Keeps, CanUse, is_running, IsReady, IsSoundReader, LoadsFor}
use Rattle.dsnoop_client.proofs.Refusing.{not-both}
use Rattle.mix_core.specs.declared.gate.Gate as gates
use Rattle.pcm_states.specs.declared.states.State.TheVariants as state
use Rattle.snoop_core.specs.declared.port.SnoopPort as snoopport

-- the counts of a reader that runs are near each other
pub IsReady-running : (c : CaptureStream) → IsSoundReader c → c.status.state ≡ state.Running → IsReady c
IsReady-running c sound runs = grind (arith, nat_tests)

reached : (threshold n : ℕ) → threshold ≤ n → nat_le threshold n ≡ true
reached threshold n high = grind (arith, nat_tests)

missed : (threshold n : ℕ) → n < threshold → nat_le threshold n ≡ false
missed threshold n low = grind (arith, nat_tests)

-- a read of fewer frames than the start threshold loads none, of a reader that doesn't run
pub never-loads : (c : CaptureStream) (n : ℕ) → is_running c.status.state ≡ false → n < c.setup.params.start_threshold → LoadsFor c n → ⊥
never-loads c n still low (inl runs) = not-both c.status.state still runs
never-loads c n still low (inr high) = omega (arith, low, high)

few-waits : (n : ℕ) (none : Bool) → nat_eq n 0 ≡ none → IfOk (let r : Result ℕ PcmError = (if none then Ok 0 else Err Again) in r) (λ k. k ≤ n)
few-waits n true is = omega arith
few-waits n false is = tt

pub waits-few : (n : ℕ) (answer : Result ℕ PcmError) → answer ≡ waits n → IfOk answer (λ k. k ≤ n)
waits-few n answer is = subst (λ (r : Result ℕ PcmError). IfOk r (λ k. k ≤ n)) (sym is) (few-waits n (nat_eq n 0) refl)

module _ {S T : Type 0} (P : snoopport.Ghosts S) (G : gates.Ghosts T) where
  -- the read that starts a reader, and one that waits
  pub read-first : (s t : S × T) (c : CaptureStream) (n : ℕ) (done : Answered ℕ) → is_running c.status.state ≡ false → c.setup.params.start_threshold ≤ n
      → TakesAtSnoop P G s (reads_first c n) t done → TakesAtSnoop P G s (read_course c n) t done
  read-first s t c n done still high takes = rw (still, reached c.setup.params.start_threshold n high) takes

  pub read-waits : (s : S × T) (c : CaptureStream) (n : ℕ) (answer : Result ℕ PcmError) → is_running c.status.state ≡ false → n < c.setup.params.start_threshold
      → answer ≡ waits n → TakesAtSnoop P G s (read_course c n) s (c, answer)
  read-waits s c n answer still low is = grind (arith, nat_tests)

  keeps-waits : (s : S × T) (c : CaptureStream) (none : Bool) → IsSoundReader c → CanUse c (P.view s.0) → c.status.stopped ≡ false
      → Keeps P G s s c c (let r : Result ℕ PcmError = (if none then Ok 0 else Err Again) in r)
  keeps-waits s c none sound can unstopped = grind (arith, nat_tests)

  pub Keeps-waits : (s : S × T) (c : CaptureStream) (n : ℕ) (answer : Result ℕ PcmError) → IsSoundReader c → CanUse c (P.view s.0) → c.status.stopped ≡ false
      → answer ≡ waits n → Keeps P G s s c c answer
  Keeps-waits s c n answer sound can unstopped is =
      subst (λ (r : Result ℕ PcmError). Keeps P G s s c c r) (sym is) (keeps-waits s c (nat_eq n 0) sound can unstopped)
