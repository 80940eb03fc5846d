-- Why a sync, a start and a write answered an error: by the position that they loaded, and by where their commits ended.
use Rattle.dmix_client.specs.Prelude.{ap, arith, length, refl, subst, sym, ℕ, ◌+◌, ◌<◌, ◌≡◌, ◌≤◌, nat_tests, Bool, Err, false, IfErr, IfNone, IfSome, None, Ok}
use Rattle.dmix_client.specs.Prelude.{Option, Result, slice_index, Some, true, ◌↔◌, PcmError, Again, LapEnd, NoDevice, XrunWhy, Avail, Cursor, rising, Call}
use Rattle.dmix_client.specs.Prelude.{Outcome, State, Prepared, Running, Ended, Position, IsPast, OnLate, PortView, Commit, PlaybackStream, accepted_if}
use Rattle.dmix_client.specs.Prelude.{after_start, after_sync, Answered, committed_by, end_channel, end_of_commit, is_stop, late_at, late_of, over_of, seen_at}
use Rattle.dmix_client.specs.Prelude.{started_in, sync_count, taken_of, with_number, with_outcome, written_on, IsCaused, IsCausedBy, IsGone, IsOfSteps, Reaches}
use Rattle.dmix_client.specs.Prelude.{IsCommit, IsFound, IsFrameStep, avail_of, queued_of}
use Rattle.snd_base.specs.declared.errors.PcmError.TheVariants.{Stopped, Xrun}
use Rattle.snd_base.specs.declared.errors.XrunWhy.TheVariants.{Late}
use Rattle.dmix_client.proofs.Ends.{by-test, next-ends, written-ends}
use Rattle.pcm_states.specs.declared.calls.Call.TheVariants as call
use Rattle.mix_core.specs.declared.port.Ended.TheVariants as ended

-- two errors are the same whatever else their calls would answer
pub same-error : {X : Type 0} {Y : Type 0} (e f : PcmError) → (let r : Result X PcmError = Err e in r) ≡ Err f
    → (let r : Result Y PcmError = Err e in r) ≡ Err f
same-error {X = X} {Y = Y} e f h = let is : e ≡ f = error-of X e f h in ap (λ (x : PcmError). let r : Result Y PcmError = Err x in r) is
  where
    error-of : (T : Type 0) (e f : PcmError) → (let r : Result T PcmError = Err e in r) ≡ Err f → e ≡ f
    error-of T e f h = cc

-- what is said where nothing was loaded
pub if-none : {X : Type 0} (o : Option X) {P Q : Type 0} → (P → Q) → IfNone o P → IfNone o Q
if-none None follows told = follows told
if-none (Some x) follows told = tt

-- an answer that isn't one of a position's, nor a late one
pub record IsOther {X : Type 0} (answer : Result X PcmError) : Type 0 where
  pub here : answer ≡ Err NoDevice → ⊥
  pub below : (a f : ℕ) → answer ≡ Err (Xrun (Avail a f)) → ⊥
  pub in_time : (f c word : ℕ) → answer ≡ Err (Xrun (Late f c word)) → ⊥
  pub never : answer ≡ Err LapEnd → ⊥
  pub of_steps : IfErr answer IsOfSteps

pub other-ok : {X : Type 0} (x : X) → IsOther {X = X} (Ok x)
other-ok x = record { here = λ h. cc; below = λ a f h. cc; in_time = λ f c word h. cc; never = λ h. cc; of_steps = tt }

pub other-stopped : {X : Type 0} → IsOther {X = X} (Err Stopped)
other-stopped = record { here = λ h. cc; below = λ a f h. cc; in_time = λ f c word h. cc; never = λ h. cc; of_steps = tt }

pub other-again : {X : Type 0} → IsOther {X = X} (Err Again)
other-again = record { here = λ h. cc; below = λ a f h. cc; in_time = λ f c word h. cc; never = λ h. cc; of_steps = tt }

-- a position was loaded, and nothing about it is against the call
pub record IsFree (c : PlaybackStream) (load : Option Position) : Type 0 where
  pub loaded : IfNone load ⊥
  pub here : IsGone load → ⊥
  pub below : (a f : ℕ) → Reaches c load a f → ⊥

-- how a late commit ended
late-found : (e : Ended) (frame channel : ℕ) (w : XrunWhy) (P : ℕ → Type 0) → late_at e frame channel ≡ Some w → OnLate e P
    → (word : ℕ) × (w ≡ Late frame channel word) × P word
late-found (ended.Late word) frame channel w P is late = (word, cc, late)
late-found other frame channel w P is late = absurd (cc)

module _ {Missed : ℕ → ℕ → ℕ → Type 0} {c : PlaybackStream} where
  -- the gate stopped the load
  pub caused-none : {X : Type 0} → IsCausedBy {X = X} Missed c None (Err Stopped)
  caused-none = grind (arith, nat_tests)

  -- the card is gone
  caused-gone : (position : Position) → position.gone ≡ true → IsCausedBy {X = Unit {0}} Missed c (Some position) (Err NoDevice)
  caused-gone position gone = grind (arith, nat_tests)

  -- the stop threshold is reached
  caused-over : (position : Position) (x y : ℕ) → Reaches c (Some position) x y
      → IsCausedBy {X = Unit {0}} Missed c (Some position) (Err (Xrun (Avail x y)))
  caused-over position x y reaches = grind (arith, nat_tests)

  -- any other answer
  pub caused-other : {X : Type 0} {load : Option Position} {answer : Result X PcmError} → IsFree c load → IsOther answer → IsCausedBy Missed c load answer
  caused-other {load = load} free other = record {
    unless_stopped = if-none load (λ h. absurd h) free.loaded;
    of_steps = other.of_steps;
    no_device = (λ h. absurd (other.here h), λ h. absurd (free.here h));
    reached = λ a f. (λ h. absurd (other.below a f h), λ h. absurd (free.below a f h));
    late = λ frame channel word h. absurd (other.in_time frame channel word h);
    never_lap_end = other.never;
  }

  -- a late one
  pub caused-late : {X : Type 0} {load : Option Position} (frame channel word : ℕ) → IsFree c load → Missed frame channel word
      → IsCausedBy {X = X} Missed c load (Err (Xrun (Late frame channel word)))
  caused-late {load = load} frame channel word free missed = record {
    unless_stopped = if-none load (λ h. absurd h) free.loaded;
    of_steps = tt;
    no_device = (λ h. cc, λ h. absurd (free.here h));
    reached = λ a f. (λ h. cc, λ h. absurd (free.below a f h));
    late = λ f k w h.
        let is_frame : frame ≡ f = cc in
        let is_channel : channel ≡ k = cc in
        let is_word : word ≡ w = cc in
        subst (λ (x : ℕ). Missed x k w) is_frame (subst (λ (x : ℕ). Missed frame x w) is_channel (subst (λ (x : ℕ). Missed frame channel x) is_word missed));
    never_lap_end = λ h. cc;
  }

  -- after a load that went well
  pub free-by : {load : Option Position} → IsCausedBy {X = Unit {0}} Missed c load (Ok tt) → IsFree c load
  free-by {load = load} why = record {
    loaded = if-none load (λ h. cc) why.unless_stopped;
    here = λ h. let x = why.no_device.1 h in cc;
    below = λ a f h. let x = (why.reached a f).1 h in cc;
  }

-- an error has the same causes whatever the call would answer, but for what is late
pub caused-error : {X Y : Type 0} {Missed Other : ℕ → ℕ → ℕ → Type 0} {c : PlaybackStream} {load : Option Position} (e : PcmError)
    → ((frame channel word : ℕ) → e ≡ Xrun (Late frame channel word) → Missed frame channel word → Other frame channel word)
    → IsCausedBy {X = X} Missed c load (Err e) → IsCausedBy {X = Y} Other c load (Err e)
caused-error {X = X} {Y = Y} {load = load} e goes why = record {
  unless_stopped = if-none load (same-error {X = X} {Y = Y} e Stopped) why.unless_stopped;
  of_steps = why.of_steps;
  no_device = (λ h. why.no_device.0 (same-error {X = Y} e NoDevice h), λ h. same-error {X = X} {Y = Y} e NoDevice (why.no_device.1 h));
  reached = λ a f. (
    λ h. (why.reached a f).0 (same-error {X = Y} e (Xrun (Avail a f)) h),
    λ h. same-error {X = X} {Y = Y} e (Xrun (Avail a f)) ((why.reached a f).1 h),
  );
  late = λ frame channel word h.
      let is : e ≡ Xrun (Late frame channel word) = cc in
      goes frame channel word is (why.late frame channel word (same-error {X = Y} e (Xrun (Late frame channel word)) h));
  never_lap_end = λ h. why.never_lap_end (same-error {X = Y} e LapEnd h);
}

module _ {S : Type 0} {view : S → PortView} {shows : S → ℕ → ℕ → Option ℕ} {q : S} {load : Option Position} {c : PlaybackStream} where
  -- a commit was late, and ended in the client that it left
  caused-commit : {X : Type 0} (at d : PlaybackStream) (x : Commit) (w : XrunWhy) → IsFree c load
      → end_of_commit at x ≡ d.stretch.card + d.stretch.committed
      → end_channel at x ≡ slice_index d.setup.bindings (slice_index (rising d.setup.bindings) d.stretch.part) → late_of at x ≡ Some w
      → OnLate x.ended (λ word. IsPast view shows q (end_of_commit at x) (end_channel at x) word) → IsCaused {X = X} view shows q c d load (Err (Xrun w))
  caused-commit {X = X} at d x w free is_frame is_channel is shown =
      let found = late-found x.ended (end_of_commit at x) (end_channel at x) w (λ word. IsPast view shows q (end_of_commit at x)
      (end_channel at x) word) is shown in
      subst (λ (v : XrunWhy). IsCaused {X = X} view shows q c d load (Err (Xrun v))) (sym found.1)
      (caused-late (end_of_commit at x) (end_channel at x) found.0 free (record { frame_is = is_frame; channel_is = is_channel; past = found.2 }))

  -- an answer with a number has the same causes, and so has that of a write that starts a stream
  pub caused-number : (number : PlaybackStream → ℕ) (a : Answered (Unit {0})) → IsCaused {X = Unit {0}} view shows q c a.0 load a.1
      → IsCaused {X = ℕ} view shows q c (with_number number a).0 load (with_number number a).1
  caused-number number (d, Ok done) why = caused-other (free-by why) (other-ok (number d))
  caused-number number (d, Err e) why = caused-error e (λ frame channel word is missed. missed) why

  pub caused-accepted : (m : ℕ) (a : Answered (Unit {0})) → IsCaused {X = Unit {0}} view shows q c a.0 load a.1
      → IsCaused {X = ℕ} view shows q c (accepted_if m a).0 load (accepted_if m a).1
  caused-accepted m (d, Ok done) why = caused-other (free-by why) (other-ok m)
  caused-accepted m (d, Err e) why = caused-error e (λ frame channel word is missed. missed) why

-- ---- a sync

-- nothing was to be placed where the card is gone or the threshold reached
pub record IsPlain (gone : Bool) (over : Option (ℕ × ℕ)) (e : Ended) : Type 0 where
  pub here : gone ≡ true → e ≡ ended.Whole
  pub below : (a f : ℕ) → over ≡ Some (a, f) → e ≡ ended.Whole

IsPlain-after_sync : (c : PlaybackStream) (position : Position) (x : Commit)
    → IsCommit x.ended x.frames x.part (sync_count c position) (length c.setup.bindings)
    → IsPlain position.gone (over_of (seen_at c position) position) x.ended
IsPlain-after_sync c position x is = grind (arith, nat_tests)

some-of : (c : PlaybackStream) (position : Position) (a f : ℕ) → c.status.state ≡ Running → c.setup.params.stop_threshold ≤ a
    → a ≡ avail_of (seen_at c position) → f ≡ position.frame
    → over_of (seen_at c position) position ≡ Some (a, f)
some-of c position a f running low is_avail is_frame = grind (arith, nat_tests)

-- what the threshold reached says
reaches-of : (c : PlaybackStream) (position : Position) (a f : ℕ) → position.gone ≡ false → over_of (seen_at c position) position ≡ Some (a, f)
    → Reaches c (Some position) a f
reaches-of c position a f here is = grind (arith, nat_tests)

free-at : (c : PlaybackStream) (position : Position) → position.gone ≡ false → (c.status.state ≡ Running → over_of (seen_at c position) position ≡ None)
    → IsFree c (Some position)
free-at c position here none = grind (arith, nat_tests)

module _ {S : Type 0} {view : S → PortView} {shows : S → ℕ → ℕ → Option ℕ} {q : S} where
  pub IsCaused-plain : (c : PlaybackStream) (call : Call) (load : Option Position) (x : Commit) → IsFrameStep c.status.state call
      → IfSome load (λ position. IsPlain position.gone (over_of (seen_at c position) position) x.ended)
      → IfSome load (λ position. OnLate x.ended (λ word. IsPast view shows q (end_of_commit c x) (end_channel c x) word))
      → IsCaused {X = Unit {0}} view shows q c (after_sync c call load x).0 load (after_sync c call load x).1
  IsCaused-plain c call None x step plain shown = caused-none
  IsCaused-plain c call (Some position) x step plain shown =
      let done : PlaybackStream = committed_by (seen_at c position) x in
      by-test (λ (a : Answered (Unit {0})). IsCaused {X = Unit {0}} view shows q c a.0 (Some position) a.1) (is_stop x.ended) _ _
      (λ stop. caused-other (record {
        loaded = tt;
        here = λ gone. let no : is_stop ended.Whole ≡ true = subst (λ (e : Ended). is_stop e ≡ true) (plain.here gone) stop in cc;
        below = λ a f h. let no : is_stop ended.Whole ≡ true = subst (λ (e : Ended). is_stop e ≡ true)
            (plain.below a f (some-of c position a f h.1 h.2 h.3 h.4)) stop in cc;
      }) other-stopped)
      (λ going. next-ends (λ (o : Outcome). IsCaused {X = Unit {0}} view shows q c (with_outcome done o).0 (Some position) o.answer) c.status.state call
      (queued_of done) position.gone (over_of (seen_at c position) position) (late_of (seen_at c position) x) step
      (λ gone. caused-gone position gone)
      (λ a f here runs is. caused-over position a f (reaches-of c position a f here is))
      (λ w here none is. caused-commit c _ x w (free-at c position here none) refl refl is shown)
      (λ here runs none in_time. caused-other (free-at c position here (λ same. none)) (other-ok tt))
      (λ here drains in_time. caused-other (free-at c position here (λ runs. absurd (cc))) (other-ok tt))
      (λ here drains in_time same. caused-other (free-at c position here (λ runs. absurd (cc))) (other-ok tt))
      (λ here drains in_time same. caused-other (free-at c position here (λ runs. absurd (cc))) other-again))

  pub IsCaused-after_sync : (c : PlaybackStream) (call : Call) (load : Option Position) (x : Commit) → IsFrameStep c.status.state call
      → IsFound load x (λ position. c) (sync_count c) (length c.setup.bindings)
      → IfSome load (λ position. OnLate x.ended (λ word. IsPast view shows q (end_of_commit c x) (end_channel c x) word))
      → IsCaused {X = Unit {0}} view shows q c (after_sync c call load x).0 load (after_sync c call load x).1
  IsCaused-after_sync c call load x step found shown = IsCaused-plain c call load x step (plain-found load found.commit_is) shown
    where
      plain-found : (at : Option Position)
          → IfSome at (λ (position : Position). IsCommit x.ended x.frames x.part (sync_count c position) (length c.setup.bindings))
          → IfSome at (λ position. IsPlain position.gone (over_of (seen_at c position) position) x.ended)
      plain-found None commit_is = tt
      plain-found (Some position) commit_is = IsPlain-after_sync c position x commit_is

  -- ---- a start

  pub IsCaused-after_start : (c : PlaybackStream) (state : State) (cursor : Cursor) (load : Option Position) (x : Commit) → c.status.state ≡ Prepared
      → IfSome load (λ (position : Position). OnLate x.ended (λ word. IsPast view shows q (end_of_commit (started_in c Running position cursor) x)
      (end_channel (started_in c Running position cursor) x) word))
      → IsCaused {X = Unit {0}} view shows q c (after_start c state cursor load x).0 load (after_start c state cursor load x).1
  IsCaused-after_start c state cursor load x waits shown = grind (arith, nat_tests)

  -- ---- a write after its sync

  pub caused-on : {load : Option Position} {c : PlaybackStream} (a : Answered (Unit {0})) (n : ℕ) (last : Commit)
      → IsCaused {X = Unit {0}} view shows q c a.0 load a.1
      → OnLate last.ended (λ word. IsPast view shows q (end_of_commit a.0 last) (end_channel a.0 last) word)
      → IsCaused {X = ℕ} view shows q c (written_on a n last).0 load (written_on a n last).1
  caused-on {load = load} {c = c} (u, Ok done) n last first shown =
      let free = free-by first in
      written-ends (λ (a : Answered ℕ). IsCaused {X = ℕ} view shows q c a.0 load a.1) u n last
      (λ some none. caused-other free other-again)
      (λ full stop. caused-other free other-stopped)
      (λ w full going is. caused-commit u _ last w free refl refl is shown)
      (λ full going in_time. caused-other free (other-ok (taken_of u n)))
  caused-on (u, Err e) n last first shown = caused-error e (λ frame channel word is missed. missed) first

  -- what was found of a sync that went well holds at later states of the port too
  pub caused-moved : {load : Option Position} {c : PlaybackStream} (r : S) (a : Answered (Unit {0}))
      → IsCaused {X = Unit {0}} view shows q c a.0 load a.1 → ((e : PcmError) → a.1 ≡ Err e → r ≡ q) → IsCaused {X = Unit {0}} view shows r c a.0 load a.1
  caused-moved {load = load} {c = c} r (d, Err e) first same = subst (λ s. IsCaused {X = Unit {0}} view shows s c d load (Err e)) (sym (same e refl)) first
  caused-moved r (d, Ok done) first same = caused-other (free-by first) (other-ok tt)

-- ---- when a write is to be made again

pub after_sync-not_again : (c : PlaybackStream) (load : Option Position) (x : Commit) → c.status.state ≡ Running
    → (after_sync c call.Transfer load x).1 ≡ Err Again → ⊥
after_sync-not_again c load x running = grind (arith, nat_tests)

-- a write says so exactly where its sync went well, frames were offered and none can be taken
pub written_on-again : (a : Answered (Unit {0})) (n : ℕ) (last : Commit) → (a.1 ≡ Err Again → ⊥)
    → ((written_on a n last).1 ≡ Err Again) ↔ ((a.1 ≡ Ok tt) × (0 < n) × (avail_of a.0 ≡ 0))
written_on-again a n last other = grind (arith, nat_tests)
