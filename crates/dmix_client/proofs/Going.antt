-- What an answer says: that the client goes on, that the gate stopped it, or that a drain is to be made again.
use Rattle.dmix_client.specs.Prelude.{arith, refl, ℕ, ◌+◌, ◌≡◌, nat_tests, Bool, Err, false, if◌then◌else◌, None, Ok, OnOk, Option, Result, Some, true, ◌↔◌}
use Rattle.dmix_client.specs.Prelude.{PcmError, Again, Cursor, Call, State, Draining, Prepared, Running, next_of, Playback, is_moving, is_refusal}
use Rattle.dmix_client.specs.Prelude.{nothing_found, refusal_in, refusal_of, refused_by, Go, Ended, Position, CountsStop, pass_by, Commit, PlaybackStream}
use Rattle.dmix_client.specs.Prelude.{accepted_if, after_start, after_sync, Answered, is_stop, CountsEnd, IsFrameStep}
use Rattle.snd_base.specs.declared.errors.PcmError.TheVariants.{Stopped}
use Rattle.mix_core.specs.declared.port.Ended.TheVariants as ended
use Rattle.pcm_states.specs.declared.calls.Call.TheVariants as call
use Rattle.snd_base.specs.declared.errors.PcmError.TheVariants as error
use Rattle.snd_base.specs.declared.errors.XrunWhy.TheVariants as why

-- the gate stopped exactly where the commit ended so
pub told-stop : (e : Ended) (before after : ℕ) → is_stop e ≡ true → CountsEnd e before after → after ≡ before + 1
told-stop ended.Stopped before after is told = told
told-stop other before after is told = absurd (cc)

pub told-going : (e : Ended) (before after : ℕ) → is_stop e ≡ false → CountsEnd e before after → after ≡ before
told-going ended.Stopped before after is told = absurd (cc)
told-going other before after is told = told

pub ok-of : (r : Result (Unit {0}) PcmError) → ((e : PcmError) → r ≡ Err e → ⊥) → r ≡ Ok tt
ok-of (Ok done) never = refl
ok-of (Err e) never = absurd (never e refl)

-- frames that are taken besides, or a number, say the same
pub accepted_if-told : (n : ℕ) (a : Answered (Unit {0})) (before after : ℕ) → CountsStop (accepted_if n a).1 before after → CountsStop a.1 before after
accepted_if-told n (c, Ok done) before after told = told
accepted_if-told n (c, Err e) before after told = told

-- a refusal of the state table is no stop of the gate
go-in : (e : PcmError) → pass_by (refused_by (if is_refusal e then Some e else None)) ≡ Go
go-in (error.Xrun why.Already) = refl
go-in e = refl

go-by : (stopped : Bool) (r : Result (Unit {0}) PcmError) → stopped ≡ false
    → pass_by (refused_by (let o : Option PcmError = (if stopped then Some error.Stopped else refusal_in r) in o)) ≡ Go
go-by stopped r is = grind (arith, nat_tests)

pub refused-go : (c : PlaybackStream) (call : Call) → c.status.stopped ≡ false → pass_by (refused_by (refusal_of Playback c.status call)) ≡ Go
refused-go c call unstopped = go-by c.status.stopped (next_of c.status.state call (nothing_found Playback)).answer unstopped

-- a stream that runs still runs after a sync for a write that went well
pub after_sync-runs : (c : PlaybackStream) (load : Option Position) (x : Commit) → c.status.state ≡ Running
    → OnOk (after_sync c call.Transfer load x).1 ((after_sync c call.Transfer load x).0.status.state ≡ Running)
after_sync-runs c load x runs = grind (arith, nat_tests)

pub OnOk-of : (r : Result (Unit {0}) PcmError) (Y : Type 0) → r ≡ Ok tt → OnOk r Y → Y
OnOk-of (Ok done) Y is y = y
OnOk-of (Err e) Y is y = absurd (cc)

-- ---- when a drain is to be made again

-- an answer is to be made again exactly where the stream still drains
abbrev pub IsStill : Answered (Unit {0}) → Type 0
IsStill a = (a.1 ≡ Err Again) ↔ ((a.0.status.state ≡ Draining) × (a.0.status.stopped ≡ false))

-- the sync of a stream that drains
pub after_sync-still : (c : PlaybackStream) (load : Option Position) (x : Commit) → c.status.state ≡ Draining → c.status.stopped ≡ false
    → IsStill (after_sync c call.Drain load x)
after_sync-still c load x drains going = grind (arith, nat_tests)

-- a start that leads to draining, and is refused
pub after_start-still : (c : PlaybackStream) (cursor : Cursor) (load : Option Position) (x : Commit) (e : PcmError)
    → (after_start c Draining cursor load x).1 ≡ Err e → IsStill (after_start c Draining cursor load x)
after_start-still c cursor load x e = grind (arith, nat_tests)

-- a client whose call is admitted isn't stopped
unstopped-by : (stopped : Bool) (o : Option PcmError) → (if stopped then Some Stopped else o) ≡ None → stopped ≡ false
unstopped-by true o is = absurd (cc)
unstopped-by false o is = refl

pub refusal_of-unstopped : (c : PlaybackStream) → refusal_of Playback c.status call.Drain ≡ None → c.status.stopped ≡ false
refusal_of-unstopped c admitted = unstopped-by c.status.stopped (refusal_in (next_of c.status.state call.Drain (nothing_found Playback)).answer) admitted

-- a stream that moves frames takes a step of them at a sync
pub IsFrameStep-moving : (s : State) → is_moving s ≡ true → IsFrameStep s call.Sync
IsFrameStep-moving other moves = grind (arith, nat_tests)

-- it doesn't move frames and rest
pub not-resting : (s : State) → is_moving s ≡ true → is_moving s ≡ false → ⊥
not-resting s moves rests = cc

-- a stream isn't in two states
pub not-both : (s : State) → s ≡ Running → s ≡ Prepared → ⊥
not-both s runs waits = cc
