-- The ways in which a sync, a start and a write can end, each with what is known there.
use Rattle.dmix_client.specs.Prelude.{arith, refl, ℕ, [], ◌<◌, ◌≡◌, nat_tests, Bool, Err, false, if◌then◌else◌, None, Ok, Option, Some, true, XrunWhy, Cursor}
use Rattle.dmix_client.specs.Prelude.{Call, Outcome, State, Disconnected, Draining, Running, Setup, Xrun, done_in, next_of, refused_in, stopped_by, Status}
use Rattle.dmix_client.specs.Prelude.{Position, Commit, PlaybackStream, after_start, after_sync, Answered, committed_by, in_state, is_stop, late_of, seen_at}
use Rattle.dmix_client.specs.Prelude.{started_in, stopped_in, taken_of, with_accepted, written_after, KeepsAccepted, IsFrameStep, avail_of}
use Rattle.pcm_states.specs.declared.calls.Call.TheVariants as call
use Rattle.snd_base.specs.declared.errors.PcmError.TheVariants as error
use Rattle.snd_base.specs.declared.errors.XrunWhy.TheVariants as why

-- whatever holds of a choice's two ways holds of the choice
pub by-test : {A : Type 0} (X : A → Type 0) (b : Bool) (x y : A) → (b ≡ true → X x) → (b ≡ false → X y) → X (if b then x else y)
by-test X true x y first second = first refl
by-test X false x y first second = second refl

-- ---- by the state table

-- a step of a stream that moves frames: the card is gone, the stop threshold is reached, the commit was late, or it goes on
pub next-ends : (X : Outcome → Type 0) (state : State) (asked : Call) (queued : ℕ) (gone : Bool) (over : Option (ℕ × ℕ)) (late : Option XrunWhy)
    → IsFrameStep state asked
    → (gone ≡ true → X (refused_in Disconnected error.NoDevice))
    → ((a f : ℕ) → gone ≡ false → state ≡ Running → over ≡ Some (a, f) → X (stopped_by (why.Avail a f)))
    → ((w : XrunWhy) → gone ≡ false → (state ≡ Running → over ≡ None) → late ≡ Some w → X (stopped_by w))
    → (gone ≡ false → state ≡ Running → over ≡ None → late ≡ None → X (done_in Running))
    → (gone ≡ false → state ≡ Draining → late ≡ None → X (done_in Setup))
    → (gone ≡ false → state ≡ Draining → late ≡ None → asked ≡ call.Sync → X (done_in Draining))
    → (gone ≡ false → state ≡ Draining → late ≡ None → asked ≡ call.Drain → X (refused_in Draining error.Again))
    → X (next_of state asked (record { capture = false; queued = queued; starts = true; gone = gone; over = over; late = late }))
next-ends X state call queued gone over late step at_gone at_over at_late runs at_end syncs drains = grind (arith, nat_tests)

-- ---- by the call

-- a start that loaded a position
pub after_start-ends : (X : Answered (Unit {0}) → Type 0) (c : PlaybackStream) (state : State) (cursor : Cursor) (position : Position) (x : Commit)
    → (position.gone ≡ true → X (in_state (seen_at c position) Disconnected, Err error.NoDevice))
    → (position.gone ≡ false → is_stop x.ended ≡ true → X (stopped_in (committed_by (started_in c state position cursor) x)))
    → ((w : XrunWhy) → position.gone ≡ false → is_stop x.ended ≡ false → late_of (started_in c state position cursor) x ≡ Some w → X
    (in_state (committed_by (started_in c state position cursor) x) Xrun, Err (error.Xrun w)))
    → (position.gone ≡ false → is_stop x.ended ≡ false → late_of (started_in c state position cursor) x ≡ None → X
    (in_state (committed_by (started_in c state position cursor) x) state, Ok tt))
    → X (after_start c state cursor (Some position) x)
after_start-ends X c state cursor position x at_gone at_stop at_late begins = grind (arith, nat_tests)

-- a write after its sync: nothing can be taken, the gate stopped the commit, it was late, or frames are taken
pub written-ends : (X : Answered ℕ → Type 0) (c : PlaybackStream) (n : ℕ) (x : Commit)
    → (0 < n → avail_of c ≡ 0 → X (c, Err error.Again))
    → ((0 < n → avail_of c ≡ 0 → ⊥) → is_stop x.ended ≡ true → X (stopped_in (committed_by c x)))
    → ((w : XrunWhy) → (0 < n → avail_of c ≡ 0 → ⊥) → is_stop x.ended ≡ false → late_of c x ≡ Some w → X (in_state (committed_by c x) Xrun, Err (error.Xrun w)))
    → ((0 < n → avail_of c ≡ 0 → ⊥) → is_stop x.ended ≡ false → late_of c x ≡ None → X (
      with_accepted (in_state (committed_by c x) Running)
          (taken_of c n),
      Ok (taken_of c n),
    ))
    → X (written_after c n x)
written-ends X c n x again at_stop at_late goes = grind (arith, nat_tests)

-- ---- what is left of a client, in some status

-- a sync that loaded a position leaves the client after its commit
pub after_sync-leaves : (X : PlaybackStream → Type 0) (c : PlaybackStream) (call : Call) (position : Position) (x : Commit)
    → ((s : Status) → X (record (committed_by (seen_at c position) x) { status = s }))
    → X (after_sync c call (Some position) x).0
after_sync-leaves X c call position x all = by-test (λ (a : Answered (Unit {0})). X a.0) (is_stop x.ended) _ _ (λ stop. all _) (λ going. all _)

-- what was accepted stays so over a start
pub KeepsAccepted-after_start : (c : PlaybackStream) (state : State) (cursor : Cursor) (load : Option Position) (x : Commit)
    → KeepsAccepted c (after_start c state cursor load x).0
KeepsAccepted-after_start c state cursor load x = grind (arith, nat_tests)
