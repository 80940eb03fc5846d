-- What each call of a client leaves, by what its parts leave.
--     Leaves      what holds after each part of a call, and lets the call go on
--     Counts, Writes, Rewinds      the same of a number that a call answers, of a write's frames, and of those that a rewind takes back
use Rattle.std.specs.Prelude.{◌≡◌, ℕ, ◌+◌, ◌-◌, Bool, true, false, ◌&&◌, nat_eq, nat_lt, if◌then◌else◌, min, ℤ, List, Option, Some, None, IfSome, Ok, Err, ⊤}
use Rattle.std.proofs.Common.{refl}
use Rattle.snd_base.specs.declared.errors.PcmError.{PcmError}
use Rattle.snd_base.specs.declared.errors.PcmError.TheVariants.{Again}
use Rattle.snd_base.specs.declared.places.Cursor.{Cursor}
use Rattle.mix_core.specs.declared.port.Position.{Position}
use Rattle.course.specs.Course.{◌>>=◌, Course, ends}
use Rattle.course.specs.Gives.{Gives, Gives-if, Gives-then}
use Rattle.pcm_states.specs.declared.calls.Call.{Call}
use Rattle.pcm_states.specs.declared.calls.Call.TheVariants as call
use Rattle.pcm_states.specs.declared.calls.Facts.{Facts}
use Rattle.pcm_states.specs.declared.states.State.{State}
use Rattle.pcm_states.specs.declared.states.State.TheVariants.{Draining, Prepared, Running}
use Rattle.pcm_states.specs.Table.{next_of}
use Rattle.pcm_stream.specs.declared.direction.Direction.TheVariants.{Playback}
use Rattle.pcm_stream.specs.Status.{is_moving, nothing_found, refusal_of}
use Rattle.dmix_client.specs.declared.commit.Commit.{Commit}
use Rattle.dmix_client.specs.declared.stream.PlaybackStream.{PlaybackStream}
use Rattle.dmix_client.specs.Calls.{Answered, accepted_if, after_drop, after_pause, after_prepare, after_resume, after_start, after_sync, committed_by, facts_of, found_at, going_on, has_frames, in_draining, is_running, is_stop, late_at, late_of, over_of, pending_of, seen_at, start_count, started_in, stopped_in, sync_count, taken_of, with_accepted, with_new_base, with_number, with_outcome, written_after}
use Rattle.dmix_client.specs.Course.{admitted_by, commit_at, commits, course_with_number, drain_course, drain_on, drains, fills, if_admitted, looks, nothing, number_course, pause_course, resumes, start_course, starts, starts_taking, sync_course, syncs, takes_more, write_on, writes_on}
use Rattle.dmix_client.specs.Rewind.{after_rewind, back_of, checks, last_channel, last_laid, rewind_course, rewind_on, rewindable_course, rewindable_of, rewinds, take_frames, taken_back, takes_back, without_frames}
use Rattle.dmix_client.specs.View.{avail_of, ring_sample}
use Rattle.dmix_client.specs.Writes.{count_with, ring_with, starts_with}

-- the states that a start leads to
abbrev pub IsStart : State → Type 0
IsStart Running = ⊤
IsStart Draining = ⊤
IsStart other = ⊥

-- `Fits` holds of a client as long as a call goes on, `Placed` of a commit, and `Done` of what a part of the call ends with
pub record CallLeaves (Fits : PlaybackStream → Type 0) (Placed : Commit → Type 0)
    (Done : Answered (Unit {0}) → Type 0) : Type 0 where
  -- the call goes on with a client that fits, and ends with one
  pub goes : (c : PlaybackStream) (done : Unit {0}) → Done (c, Ok done) → Fits c
  pub same : (c : PlaybackStream) → Fits c → Done (c, Ok tt)
  -- what the calls make of a client
  pub seen : (c : PlaybackStream) (p : Position) → Fits c → Fits (seen_at c p)
  pub started : (c : PlaybackStream) (state : State) (p : Position) (cursor : Cursor)
      → IsStart state → Fits c → Fits (started_in c state p cursor)
  pub based : (c : PlaybackStream) → Fits c → Fits (with_new_base c)
  pub committed : (c : PlaybackStream) (x : Commit) → Fits c → Placed x → Fits (committed_by c x)
  pub drains : (c : PlaybackStream) → Fits c → Fits (in_draining c)
  pub paused : (c : PlaybackStream) → Fits c → Fits (after_pause c)
  pub dropped : (c : PlaybackStream) → Fits c → Fits (after_drop c)
  pub prepared : (c : PlaybackStream) → Fits c → Fits (after_prepare c)
  -- what a commit places, and one of nothing
  pub placed : (c : PlaybackStream) (ring : List ℤ) (count : ℕ) → Fits c
      → Gives Placed (commits c ring count)
  pub placed_none : Placed nothing
  -- the gate stopped it, or it is refused
  pub stopped : (c : PlaybackStream) → Fits c → Done (stopped_in c)
  pub refused : (c : PlaybackStream) (asked : Call) (e : PcmError) → Fits c
      → refusal_of Playback c.status asked ≡ Some e → Done (c, Err e)
  -- an outcome of the table: of a stream that moves frames, by a commit; of a start, by a commit and of a card that is gone; of
  -- the start of an empty stream
  pub outcome : (c : PlaybackStream) (x : Commit) (asked : Call) (f : Facts) → Fits c → Placed x
      → f.late ≡ late_of c x
      → Done (with_outcome (committed_by c x) (next_of c.status.state asked f))
  pub begun : (c : PlaybackStream) (x : Commit) (state : State) (f : Facts) → IsStart state
      → Fits c → Placed x → f.late ≡ late_of c x
      → Done (going_on (committed_by c x) state (next_of Prepared call.Start f))
  pub gone : (c : PlaybackStream) (state : State) (f : Facts) → IsStart state → Fits c
      → f.late ≡ None → Done (going_on c state (next_of Prepared call.Start f))
  pub empty : (c : PlaybackStream) (f : Facts) → Fits c → f.late ≡ None
      → Done (with_outcome c (next_of c.status.state call.Start f))

-- `Counted` holds of what a call ends with that answers a number
pub record CountLeaves (Fits : PlaybackStream → Type 0) (Done : Answered (Unit {0}) → Type 0)
    (Counted : Answered ℕ → Type 0) : Type 0 where
  pub fails : (c : PlaybackStream) (e : PcmError) → Done (c, Err e) → Counted (c, Err e)
  pub numbered : (c : PlaybackStream) (n : ℕ) → Fits c → Counted (c, Ok n)

-- of a write of n frames: it fails, is stopped, finds no room, has the outcome of its commit, or accepts frames
pub record WriteLeaves (Fits : PlaybackStream → Type 0) (Placed : Commit → Type 0)
    (Done : Answered (Unit {0}) → Type 0) (Counted : Answered ℕ → Type 0) (n : ℕ) : Type 0 where
  pub fails : (c : PlaybackStream) (e : PcmError) → Done (c, Err e) → Counted (c, Err e)
  pub stopped : (c : PlaybackStream) → Fits c → Counted (stopped_in c)
  pub full : (c : PlaybackStream) → Fits c → Counted (c, Err Again)
  pub outcome : (c : PlaybackStream) (x : Commit) (f : Facts) → Fits c → Placed x
      → f.late ≡ late_of c x
      → Done (with_outcome (committed_by c x) (next_of Running call.Transfer f))
  pub accepts : (c d : PlaybackStream) (done : Unit {0}) → Fits c → Done (d, Ok done)
      → Counted (with_accepted d (taken_of c n), Ok (taken_of c n))

-- of a rewind: its load is checked, it fails, is refused, is stopped, has the outcome of its withdrawals, of which `Left` holds, or
-- takes back pending frames alone
pub record RewindLeaves (Fits : PlaybackStream → Type 0) (Left : Commit → Type 0)
    (Done : Answered (Unit {0}) → Type 0) (Counted : Answered ℕ → Type 0) : Type 0 where
  pub checked : (c : PlaybackStream) → Fits c → Gives Done (checks c)
  pub goes : (c : PlaybackStream) (done : Unit {0}) → Done (c, Ok done) → Fits c
  pub fails : (c : PlaybackStream) (e : PcmError) → Done (c, Err e) → Counted (c, Err e)
  pub refused : (c : PlaybackStream) (e : PcmError) → Fits c
      → refusal_of Playback c.status call.Transfer ≡ Some e → Counted (c, Err e)
  pub left : (c : PlaybackStream) (ring : List ℤ) (first n : ℕ)
      → Gives Left (take_frames c.identity.member c.stretch.card c.setup.bindings
      (ring_sample c ring) first n)
  pub stopped : (c : PlaybackStream) (n : ℕ) (left : Commit) → Fits c
      → Counted (stopped_in (taken_back c n left))
  pub outcome : (c : PlaybackStream) (n : ℕ) (left : Commit) (f : Facts) → Fits c → Left left
      → f.late ≡ late_at left.ended (last_laid (taken_back c n left)) (last_channel (taken_back c n left))
      → Counted (with_number (λ d. n) (with_outcome (taken_back c n left)
      (next_of Running call.Transfer f)))
  pub fewer : (c : PlaybackStream) (n : ℕ) → Fits c → Counted (without_frames c n, Ok n)

-- a call that is refused, or does what it does
pub if_admitted-gives : {X : Type 0} (Q : Answered X → Type 0) (c : PlaybackStream) (asked : Call) (m : Course (Answered X))
    → ((e : PcmError) → refusal_of Playback c.status asked ≡ Some e → Q (c, Err e)) → Gives Q m → Gives Q (if_admitted c asked m)
if_admitted-gives {X = X} Q c asked m refused gives = by_refusal (refusal_of Playback c.status asked) refl
  where
    by_refusal : (refusal : Option PcmError) → refusal_of Playback c.status asked ≡ refusal → Gives Q (admitted_by {X = X} refusal c m)
    by_refusal None is = gives
    by_refusal (Some e) is = refused e is

-- what was found: where a position was loaded, what the commit after it placed
abbrev IsPlaced : (Commit → Type 0) → Option Position × Commit → Type 0
IsPlaced Placed found = IfSome found.0 (λ (p : Position). Placed found.1)

module _ {Fits : PlaybackStream → Type 0} {Placed : Commit → Type 0} {Done : Answered (Unit {0}) → Type 0} (leaves : CallLeaves Fits Placed Done) where
  -- ---- the parts of a call

  after_sync-done : (c : PlaybackStream) (asked : Call) (load : Option Position) (x : Commit) → Fits c → IfSome load (λ (p : Position). Placed x)
      → Done (after_sync c asked load x)
  after_sync-done c asked None x fits placed = leaves.stopped c fits
  after_sync-done c asked (Some p) x fits placed = by_stop (is_stop x.ended)
    where
      at : PlaybackStream
      at = seen_at c p

      f : Facts
      f = facts_of (committed_by at x) p (over_of at p) (late_of at x)

      by_stop : (b : Bool) → Done (if b then stopped_in (committed_by at x) else with_outcome (committed_by at x) (next_of c.status.state asked f))
      by_stop true = leaves.stopped (committed_by at x) (leaves.committed at x (leaves.seen c p fits) placed)
      by_stop false = leaves.outcome at x asked f (leaves.seen c p fits) placed refl

  after_start-done : (c : PlaybackStream) (state : State) (cursor : Cursor) (load : Option Position) (x : Commit) → IsStart state → Fits c
      → IfSome load (λ (p : Position). Placed x) → Done (after_start c state cursor load x)
  after_start-done c state cursor None x start fits placed = leaves.stopped c fits
  after_start-done c state cursor (Some p) x start fits placed = by_gone p.gone
    where
      from : PlaybackStream
      from = started_in c state p cursor

      begins : Fits from
      begins = leaves.started c state p cursor start fits

      by_stop : (b : Bool) → Done (if b then stopped_in (committed_by from x) else going_on (committed_by from x) state (next_of Prepared call.Start (found_at p (late_of from x))))
      by_stop true = leaves.stopped (committed_by from x) (leaves.committed from x begins placed)
      by_stop false = leaves.begun from x state (found_at p (late_of from x)) start begins placed refl

      by_gone : (b : Bool) → Done (if b then going_on (seen_at c p) state (next_of Prepared call.Start (found_at p None))
          else (if is_stop x.ended then stopped_in (committed_by from x) else going_on (committed_by from x) state (next_of Prepared call.Start (found_at p (late_of from x)))))
      by_gone true = leaves.gone (seen_at c p) state (found_at p None) start (leaves.seen c p fits) refl
      by_gone false = by_stop (is_stop x.ended)

  after_resume-done : (c : PlaybackStream) (cursor : Cursor) (load : Option Position) (x : Commit) → Fits c → IfSome load (λ (p : Position). Placed x)
      → Done (after_resume c cursor load x)
  after_resume-done c cursor None x fits placed = leaves.stopped c fits
  after_resume-done c cursor (Some p) x fits placed = after_start-done (with_new_base c) Running cursor (Some p) x tt (leaves.based c fits) placed

  looks-placed : (at : Position → PlaybackStream) (count : Position → ℕ) (ring : List ℤ) → ((p : Position) → Fits (at p)) → Gives (IsPlaced Placed) (looks at count ring)
  unfolding looks ◌>>=◌
  looks-placed at count ring fits = by_load
    where
      by_load : (load : Option Position) → Gives (IsPlaced Placed) (commit_at at count ring load >>= λ commit. ends (load, commit))
      by_load None = tt
      by_load (Some p) = Gives-then Placed (IsPlaced Placed) (commits (at p) ring (count p)) (λ commit. ends (Some p, commit))
          (leaves.placed (at p) ring (count p) (fits p)) (λ x placed. placed)

  pub syncs-done : (c : PlaybackStream) (asked : Call) (ring : List ℤ) → Fits c → Gives Done (syncs c asked ring)
  unfolding syncs
  syncs-done c asked ring fits = Gives-then (IsPlaced Placed) Done (looks (λ position. c) (sync_count c) ring) (λ found. ends (after_sync c asked found.0 found.1))
      (looks-placed (λ position. c) (sync_count c) ring (λ p. fits)) (λ found placed. after_sync-done c asked found.0 found.1 fits placed)

  pub starts-done : (c : PlaybackStream) (state : State) (cursor : Cursor) (upto : ℕ) (ring : List ℤ) → IsStart state → Fits c → Gives Done (starts c state cursor upto ring)
  unfolding starts
  starts-done c state cursor upto ring start fits = Gives-then (IsPlaced Placed) Done
      (looks (λ position. started_in c Running position cursor) (λ position. start_count c cursor position upto) ring)
      (λ found. ends (after_start c state cursor found.0 found.1))
      (looks-placed (λ position. started_in c Running position cursor) (λ position. start_count c cursor position upto) ring (λ p. leaves.started c Running p cursor tt fits))
      (λ found placed. after_start-done c state cursor found.0 found.1 start fits placed)

  pub resumes-done : (c : PlaybackStream) (cursor : Cursor) (ring : List ℤ) → Fits c → Gives Done (resumes c cursor ring)
  unfolding resumes
  resumes-done c cursor ring fits = Gives-then (IsPlaced Placed) Done
      (looks (λ position. started_in (with_new_base c) Running position cursor) (λ position. start_count (with_new_base c) cursor position (pending_of c)) ring)
      (λ found. ends (after_resume c cursor found.0 found.1))
      (looks-placed (λ position. started_in (with_new_base c) Running position cursor) (λ position. start_count (with_new_base c) cursor position (pending_of c)) ring
      (λ p. leaves.started (with_new_base c) Running p cursor tt (leaves.based c fits)))
      (λ found placed. after_resume-done c cursor found.0 found.1 fits placed)

  pub checks-done : (c : PlaybackStream) → Fits c → Gives Done (checks c)
  unfolding checks
  checks-done c fits = by_load
    where
      by_load : (load : Option Position) → Done (after_sync c call.Transfer load nothing)
      by_load None = leaves.stopped c fits
      by_load (Some p) = after_sync-done c call.Transfer (Some p) nothing fits leaves.placed_none

  -- ---- the calls

  pub sync-done : (c : PlaybackStream) (ring : List ℤ) → Fits c → Gives Done (if_admitted c call.Sync (sync_course c ring))
  sync-done c ring fits = if_admitted-gives Done c call.Sync (sync_course c ring) (λ e is. leaves.refused c call.Sync e fits is)
      (Gives-if Done (is_moving c.status.state) (syncs c call.Sync ring) (ends (c, Ok tt)) (syncs-done c call.Sync ring fits) (leaves.same c fits))

  pub start-done : (c : PlaybackStream) (ring : List ℤ) (cursor : Cursor) → Fits c → Gives Done (if_admitted c call.Start (start_course c ring cursor))
  start-done c ring cursor fits = if_admitted-gives Done c call.Start (start_course c ring cursor) (λ e is. leaves.refused c call.Start e fits is)
      (Gives-if Done (nat_eq c.stretch.written 0) (ends (with_outcome c (next_of c.status.state call.Start f))) (starts c Running cursor c.stretch.written ring)
      (leaves.empty c f fits refl) (starts-done c Running cursor c.stretch.written ring tt fits))
    where
      f : Facts
      f = record (nothing_found Playback) { queued = 0 }

  drain_on-done : (ring : List ℤ) (done : Answered (Unit {0})) → Done done → Gives Done (drain_on ring done)
  drain_on-done ring (c, Ok done) is = syncs-done c call.Drain ring (leaves.goes c done is)
  drain_on-done ring (c, Err e) is = is

  drains-done : (c : PlaybackStream) (ring : List ℤ) (cursor : Cursor) → Fits c → Gives Done (drains c ring cursor)
  unfolding drains
  drains-done c ring cursor fits = Gives-then Done Done (starts c Draining cursor c.stretch.written ring) (drain_on ring)
      (starts-done c Draining cursor c.stretch.written ring tt fits) (drain_on-done ring)

  pub drain-done : (c : PlaybackStream) (ring : List ℤ) (cursor : Cursor) → Fits c → Gives Done (if_admitted c call.Drain (drain_course c ring cursor))
  drain-done c ring cursor fits = if_admitted-gives Done c call.Drain (drain_course c ring cursor) (λ e is. leaves.refused c call.Drain e fits is)
      (Gives-if Done (is_moving c.status.state) (syncs (in_draining c) call.Drain ring) _ (syncs-done (in_draining c) call.Drain ring (leaves.drains c fits))
      (Gives-if Done (has_frames c) (drains c ring cursor) (ends (after_drop c, Ok tt)) (drains-done c ring cursor fits) (leaves.same (after_drop c) (leaves.dropped c fits))))

  pub pause-done : (c : PlaybackStream) → Fits c → Gives Done (if_admitted c call.Pause (ends (after_pause c, Ok tt)))
  pause-done c fits = if_admitted-gives Done c call.Pause (ends (after_pause c, Ok tt)) (λ e is. leaves.refused c call.Pause e fits is)
      (leaves.same (after_pause c) (leaves.paused c fits))

  pub resume-done : (c : PlaybackStream) (ring : List ℤ) (cursor : Cursor) → Fits c → Gives Done (if_admitted c call.Resume (pause_course false c ring cursor))
  resume-done c ring cursor fits = if_admitted-gives Done c call.Resume (pause_course false c ring cursor) (λ e is. leaves.refused c call.Resume e fits is)
      (Gives-if Done (nat_eq (pending_of c) 0) (ends (with_new_base c, Ok tt)) (resumes c cursor ring) (leaves.same (with_new_base c) (leaves.based c fits)) (resumes-done c cursor ring fits))

  pub drop-done : (c : PlaybackStream) → Fits c → Gives Done (if_admitted c call.Drop (ends (after_drop c, Ok tt)))
  drop-done c fits = if_admitted-gives Done c call.Drop (ends (after_drop c, Ok tt)) (λ e is. leaves.refused c call.Drop e fits is)
      (leaves.same (after_drop c) (leaves.dropped c fits))

  pub prepare-done : (c : PlaybackStream) → Fits c → Gives Done (if_admitted c call.Prepare (ends (after_prepare c, Ok tt)))
  prepare-done c fits = if_admitted-gives Done c call.Prepare (ends (after_prepare c, Ok tt)) (λ e is. leaves.refused c call.Prepare e fits is)
      (leaves.same (after_prepare c) (leaves.prepared c fits))

  -- ---- the calls that answer a number

  module _ {Counted : Answered ℕ → Type 0} (counts : CountLeaves Fits Done Counted) where
    with_number-counted : (number : PlaybackStream → ℕ) (done : Answered (Unit {0})) → Done done → Counted (with_number number done)
    with_number-counted number (c, Ok done) is = counts.numbered c (number c) (leaves.goes c done is)
    with_number-counted number (c, Err e) is = counts.fails c e is

    course_with_number-counted : (number : PlaybackStream → ℕ) (m : Course (Answered (Unit {0}))) → Gives Done m → Gives Counted (course_with_number number m)
    unfolding course_with_number
    course_with_number-counted number m gives = Gives-then Done Counted m (λ done. ends (with_number number done)) gives (with_number-counted number)

    pub number-counted : (number : PlaybackStream → ℕ) (c : PlaybackStream) (ring : List ℤ) → Fits c
        → Gives Counted (if_admitted c call.Sync (number_course number c ring))
    number-counted number c ring fits = if_admitted-gives Counted c call.Sync (number_course number c ring) (λ e is. counts.fails c e (leaves.refused c call.Sync e fits is))
        (Gives-if Counted (is_moving c.status.state) (course_with_number number (syncs c call.Sync ring)) (ends (c, Ok (number c)))
        (course_with_number-counted number (syncs c call.Sync ring) (syncs-done c call.Sync ring fits)) (counts.numbered c (number c) fits))

    pub rewindable-counted : (c : PlaybackStream) (floor : Cursor) → Fits c → Gives Counted (if_admitted c call.Transfer (rewindable_course c floor))
    rewindable-counted c floor fits = if_admitted-gives Counted c call.Transfer (rewindable_course c floor) (λ e is. counts.fails c e (leaves.refused c call.Transfer e fits is))
        (Gives-if Counted (is_running c.status.state) (course_with_number (rewindable_of floor) (checks c)) (ends (c, Ok c.stretch.written))
        (course_with_number-counted (rewindable_of floor) (checks c) (checks-done c fits)) (counts.numbered c c.stretch.written fits))

  -- ---- a write of n frames

  module _ {Counted : Answered ℕ → Type 0} {n : ℕ} (writes : WriteLeaves Fits Placed Done Counted n) where
    accepted_if-counted : (c : PlaybackStream) (done : Answered (Unit {0})) → Fits c → Done done → Counted (accepted_if (taken_of c n) done)
    accepted_if-counted c (d, Ok done) fits is = writes.accepts c d done fits is
    accepted_if-counted c (d, Err e) fits is = writes.fails d e is

    written_after-counted : (c : PlaybackStream) (x : Commit) → Fits c → Placed x → Counted (written_after c n x)
    written_after-counted c x fits placed = by_test (nat_lt 0 n && nat_eq (avail_of c) 0) (is_stop x.ended)
      where
        f : Facts
        f = found_at (record { frame = 0; gone = false }) (late_of c x)

        by_test : (none stop : Bool) → Counted (if none then (c, Err Again) else (if stop then stopped_in (committed_by c x)
            else accepted_if (taken_of c n) (with_outcome (committed_by c x) (next_of Running call.Transfer f))))
        by_test true stop = writes.full c fits
        by_test false true = writes.stopped (committed_by c x) (leaves.committed c x fits placed)
        by_test false false = accepted_if-counted c (with_outcome (committed_by c x) (next_of Running call.Transfer f)) fits (writes.outcome c x f fits placed refl)

    write_on-counted : (ring samples : List ℤ) (done : Answered (Unit {0})) → Done done → Gives Counted (write_on ring samples n done)
    unfolding takes_more
    write_on-counted ring samples (c, Err e) is = writes.fails c e is
    write_on-counted ring samples (c, Ok done) is =
        let fits = leaves.goes c done is in
        Gives-then Placed Counted (commits c (ring_with c ring samples (taken_of c n)) (count_with c (taken_of c n))) (λ last. ends (written_after c n last))
        (leaves.placed c (ring_with c ring samples (taken_of c n)) (count_with c (taken_of c n)) fits) (λ x placed. written_after-counted c x fits placed)

    pub write-counted : (c : PlaybackStream) (ring samples : List ℤ) (cursor : Cursor) → Fits c
        → Gives Counted (if_admitted c call.Transfer (if is_running c.status.state then writes_on c ring samples n else fills c ring samples cursor n))
    unfolding writes_on starts_taking
    write-counted c ring samples cursor fits = if_admitted-gives Counted c call.Transfer (if is_running c.status.state then writes_on c ring samples n else fills c ring samples cursor n)
        (λ e is. writes.fails c e (leaves.refused c call.Transfer e fits is))
        (Gives-if Counted (is_running c.status.state) (writes_on c ring samples n) (fills c ring samples cursor n)
        (Gives-then Done Counted (syncs c call.Transfer ring) (write_on ring samples n) (syncs-done c call.Transfer ring fits) (write_on-counted ring samples))
        (Gives-if Counted (starts_with c n) (starts_taking c (ring_with c ring samples (taken_of c n)) cursor (taken_of c n)) (ends (with_accepted c (taken_of c n), Ok (taken_of c n)))
        (Gives-then Done Counted (starts c Running cursor (c.stretch.written + taken_of c n) (ring_with c ring samples (taken_of c n))) (λ done. ends (accepted_if (taken_of c n) done))
        (starts-done c Running cursor (c.stretch.written + taken_of c n) (ring_with c ring samples (taken_of c n)) tt fits) (λ done is. accepted_if-counted c done fits is))
        (writes.accepts c c tt fits (leaves.same c fits))))

-- ---- a rewind

module _ {Fits : PlaybackStream → Type 0} {Left : Commit → Type 0} {Done : Answered (Unit {0}) → Type 0} {Counted : Answered ℕ → Type 0}
    (rewind : RewindLeaves Fits Left Done Counted) where
  after_rewind-counted : (c : PlaybackStream) (n : ℕ) (left : Commit) → Fits c → Left left → Counted (after_rewind c n left)
  after_rewind-counted c n left fits is = by_stop (is_stop left.ended)
    where
      done : PlaybackStream
      done = taken_back c n left

      f : Facts
      f = found_at (record { frame = 0; gone = false }) (late_at left.ended (last_laid done) (last_channel done))

      by_stop : (b : Bool) → Counted (if b then stopped_in done else with_number (λ d. n) (with_outcome done (next_of Running call.Transfer f)))
      by_stop true = rewind.stopped c n left fits
      by_stop false = rewind.outcome c n left f fits is refl

  rewind_on-counted : (floor : Cursor) (ring : List ℤ) (n : ℕ) (done : Answered (Unit {0})) → Done done → Gives Counted (rewind_on floor ring n done)
  unfolding takes_back
  rewind_on-counted floor ring n (c, Err e) is = rewind.fails c e is
  rewind_on-counted floor ring n (c, Ok done) is =
      let fits = rewind.goes c done is in
      let m = min n (rewindable_of floor c) in
      Gives-then Left Counted (take_frames c.identity.member c.stretch.card c.setup.bindings (ring_sample c ring) (c.stretch.committed - back_of c m) (back_of c m))
      (λ left. ends (after_rewind c m left)) (rewind.left c ring (c.stretch.committed - back_of c m) (back_of c m)) (λ left is. after_rewind-counted c m left fits is)

  pub rewind-counted : (c : PlaybackStream) (ring : List ℤ) (floor : Cursor) (n : ℕ) → Fits c → Gives Counted (if_admitted c call.Transfer (rewind_course c ring floor n))
  unfolding rewinds
  rewind-counted c ring floor n fits = if_admitted-gives Counted c call.Transfer (rewind_course c ring floor n) (λ e is. rewind.refused c e fits is)
      (Gives-if Counted (is_running c.status.state) (rewinds c ring floor n) (ends (without_frames c (min n c.stretch.written), Ok (min n c.stretch.written)))
      (Gives-then Done Counted (checks c) (rewind_on floor ring n) (rewind.checked c fits) (rewind_on-counted floor ring n)) (rewind.fewer c (min n c.stretch.written) fits))
