-- A client, and a reader, at the gate that never stops isn't stopped by any call.
use Rattle.dmix_c.specs.Prelude.{arith, refl, subst, ℕ, ◌+◌, ◌≡◌, Bool, Err, false, IfErr, if◌then◌else◌, not, Ok, Result, true, ⊤, ◌&&◌, PcmError, Stopped}
use Rattle.dmix_c.specs.Prelude.{State, Prepared, Running, NeverStops, MixSeat, ReaderSeat, LaysAt, LoadsAt, NoGet, TakesAt, Course, Gives, Gives-any}
use Rattle.dmix_c.specs.Prelude.{Gives-taken, CountsStop, pass_in, PlaybackStream, Answered, base_of, committed_by, going_on, going_on_by, is_paused}
use Rattle.dmix_c.specs.Prelude.{with_new_base, with_number, with_outcome, CallLeaves, checks-done, CountLeaves, RewindLeaves, WriteLeaves, taken_back}
use Rattle.dmix_c.specs.Prelude.{CaptureStream, reader_port, no_gate, seat_port}
use Rattle.pcm_states.specs.declared.calls.Outcome.{Outcome}
use Rattle.pcm_states.specs.Table.{next_of}
use Rattle.mix_core.specs.Gate.{stops_after}
use Rattle.dmix_client.specs.declared.commit.Commit.{Commit}
use Rattle.dsnoop_client.specs.Port.{Keeps}
use Rattle.pcm_states.specs.declared.calls.Call.TheVariants as call

-- an answer of a call that the gate didn't stop
abbrev pub IsGoing : {X : Type 0} → Result X PcmError → Type 0
IsGoing answer = IfErr answer (λ e. e ≡ Stopped → ⊥)

-- it is one where the gate counted no stop
going-told : {X : Type 0} (answer : Result X PcmError) → CountsStop answer 0 0 → IsGoing answer
going-told (Ok x) told = tt
going-told (Err e) told = λ is. let more : 0 ≡ 0 + 1 = subst (λ (x : PcmError). 0 ≡ stops_after (pass_in x) 0) is told in omega arith

-- ---- a client

abbrev pub Unstopped : PlaybackStream → Type 0
Unstopped c = c.status.stopped ≡ false

abbrev pub AnyCommit : Commit → Type 0
AnyCommit x = ⊤

-- a call leaves a client unstopped where it answers so
pub record IsLeft {X : Type 0} (a : Answered X) : Type 0 where
  pub still : IsGoing a.1 → Unstopped a.0

is-left : {X : Type 0} (c : PlaybackStream) (answer : Result X PcmError) → Unstopped c → IsLeft (c, answer)
is-left c answer still = record { still = λ going. still }

left-stopped : {X : Type 0} (c : PlaybackStream) → IsLeft (let a : Answered X = (c, Err Stopped) in a)
left-stopped c = record { still = λ going. absurd (going refl) }

left-going_on : (c : PlaybackStream) (state : State) (o : Outcome) → Unstopped c → IsLeft (going_on c state o)
left-going_on c state o still = by_answer o.answer
  where
    by_answer : (answer : Result (Unit {0}) PcmError) → IsLeft (going_on_by answer c state o.state)
    by_answer (Ok done) = record { still = λ going. still }
    by_answer (Err e) = record { still = λ going. still }

left-number : (number : PlaybackStream → ℕ) (a : Answered (Unit {0})) → IsLeft a → IsLeft (with_number number a)
left-number number (c, Ok done) is = record { still = is.still }
left-number number (c, Err e) is = record { still = is.still }

-- so do its parts, and so the calls
pub unstopped : CallLeaves Unstopped AnyCommit IsLeft
unstopped = record {
  goes = λ c done is. is.still tt;
  same = λ c still. is-left c _ still;
  seen = λ c p still. still;
  started = λ c state p cursor start still. still;
  based = λ c still. still;
  committed = λ c x still placed. still;
  drains = λ c still. still;
  paused = λ c still. still;
  dropped = λ c still. still;
  prepared = λ c still. still;
  placed = λ c ring count still. Gives-any AnyCommit _ (λ x. tt);
  placed_none = tt;
  stopped = λ c still. left-stopped _;
  refused = λ c asked e still is. is-left c _ still;
  outcome = λ c x asked f still placed late. is-left _ _ still;
  begun = λ c x state f start still placed late. left-going_on (committed_by c x) state (next_of Prepared call.Start f) still;
  gone = λ c state f start still late. left-going_on c state (next_of Prepared call.Start f) still;
  empty = λ c f still late. is-left _ _ still;
}

pub unstopped-number : CountLeaves Unstopped IsLeft IsLeft
unstopped-number = record { fails = λ c e is. record { still = is.still }; numbered = λ c n still. is-left c _ still }

pub unstopped-write : (n : ℕ) → WriteLeaves Unstopped AnyCommit IsLeft IsLeft n
unstopped-write n = record {
  fails = λ c e is. record { still = is.still };
  stopped = λ c still. left-stopped _;
  full = λ c still. is-left c _ still;
  outcome = λ c x f still placed late. is-left _ _ still;
  accepts = λ c d done still is. record { still = is.still };
}

pub unstopped-rewind : RewindLeaves Unstopped AnyCommit IsLeft IsLeft
unstopped-rewind = record {
  checked = λ c still. checks-done unstopped c still;
  goes = unstopped.goes;
  fails = λ c e is. record { still = is.still };
  refused = λ c e still is. is-left c _ still;
  left = λ c ring first n. Gives-any AnyCommit _ (λ x. tt);
  stopped = λ c n back still. left-stopped _;
  outcome = λ c n back f still any late.
      left-number (λ d. n) (with_outcome (taken_back c n back) (next_of Running call.Transfer f)) (is-left _ _ still);
  fewer = λ c n still. is-left _ _ still;
}

-- at this gate the answer of a call that keeps the gate's count isn't a stop
pub unstopped-by : {X : Type 0} (s t : MixSeat × NeverStops) (m : Course (Answered X)) (d : PlaybackStream) (answer : Result X PcmError)
    → Gives IsLeft m → TakesAt seat_port no_gate s m t (d, answer) → CountsStop answer 0 0 → Unstopped d
unstopped-by s t m d answer gives takes told =
    (Gives-taken (LoadsAt seat_port no_gate) (LaysAt seat_port no_gate) NoGet IsLeft s t m (d, answer) gives takes).still (going-told answer told)

-- a client whose counts a call bases anew
pub unstopped-base : (c d : PlaybackStream) → Unstopped c → Unstopped (base_of c d)
unstopped-base c d still = by_test (is_paused c.status.state && not (is_paused d.status.state))
  where
    by_test : (anew : Bool) → Unstopped (if anew then with_new_base c else c)
    by_test true = still
    by_test false = still

-- ---- a reader, by what each call that takes steps keeps

pub reader-unstopped : {X : Type 0} (s t : ReaderSeat × NeverStops) (c d : CaptureStream) (answer : Result X PcmError) → Keeps reader_port no_gate s t c d answer
    → c.status.stopped ≡ false → d.status.stopped ≡ false
reader-unstopped s t c d answer keeps still = by_test d.status.stopped refl
  where
    by_test : (test : Bool) → d.status.stopped ≡ test → d.status.stopped ≡ false
    by_test false is = is
    by_test true is = absurd (subst IsGoing (keeps.stopped.1 is) (going-told answer (keeps.told still)) refl)
