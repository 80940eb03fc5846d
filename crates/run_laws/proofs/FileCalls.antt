-- What each call of a client leaves of its stretch, where each load is at or past a frame p of the card: nothing that it accepted or placed is past the end of
-- its file, nothing is placed before the run's first frame f, and what is placed below p stays.
--     HasLaid      what is accepted and placed is within a file of so many frames
--     GoesAt      of a client that moves frames only whole frames are placed, and none that weren't accepted
--     IsOfFile      both, of a client
--     Kept      a call left a client of its file, and changed nothing below p
use Rattle.run_laws.specs.Prelude.{arith, inl, inr, length, List, Option, refl, Some, subst, sym, ℕ, [], ◌+◌, ◌-◌, ◌<◌, ◌∙◌, ◌≡◌, ◌≤◌, ◌⊎◌, false≢true}
use Rattle.run_laws.specs.Prelude.{nat_tests, Bool, Err, false, IfOk, if◌then◌else◌, is_some, min, nat_eq, nat_lt, Ok, true, unwrap_or, ℤ, ◌&&◌, ◌||◌, XrunWhy}
use Rattle.run_laws.specs.Prelude.{Cursor, Call, State, Draining, Paused, Prepared, Running, next_of, Playback, is_moving, nothing_found, Marks, Ended}
use Rattle.run_laws.specs.Prelude.{Position, Course, ends, Commit, PlaybackStream, Stretch, accepted_if, after_prepare, after_resume, after_start, after_sync}
use Rattle.run_laws.specs.Prelude.{Answered, committed_by, end_channel, end_of_commit, facts_of, found_at, going_on, in_draining, in_state, is_paused}
use Rattle.run_laws.specs.Prelude.{is_prepared, is_running, is_stop, late_at, pending_of, segment_of, start_count, start_frame, started_in, stopped_in}
use Rattle.run_laws.specs.Prelude.{sync_count, waiting_stretch, window_end, with_accepted, with_new_base, with_number, with_outcome, written_after, commits}
use Rattle.run_laws.specs.Prelude.{drain_on, pause_course, resumes, syncs, takes_more, write_on, IsStart, IsFrameStep, after_rewind, back_of, checks}
use Rattle.run_laws.specs.Prelude.{last_channel, last_laid, rewind_on, rewindable_of, take_frames, taken_back, takes_back, without_frames, avail_of}
use Rattle.run_laws.specs.Prelude.{ring_sample, count_with, ring_with, Sound, Op, call_of, frames_of, call_of-says, empty-still, is_new_stretch, Parts}
use Rattle.run_laws.specs.Prelude.{running-moves, start-unprepared, step-moves}
use Rattle.pcm_states.specs.declared.calls.Outcome.{Outcome}
use Rattle.pcm_states.specs.declared.states.State.TheVariants.{Setup}
use Rattle.dmix_client.specs.Calls.{over_of, seen_at, taken_of}
use Rattle.dmix_client.specs.Course.{starts}
use Rattle.run_laws.proofs.Onward.{Channels, begun, stepped-unprepared}
use Rattle.run_laws.proofs.PlayedCourses.{CommitEnd, From, FromSo, From-map, From-then, RewindEnd, commits-keep, found-from, frames-back, from-so, part-below}
use Rattle.run_laws.proofs.PlayedSegments.{IsAlike, IsPast, alike-same, alike-then, ends-alike, past-alike, past-later, past-none, past-of}
use Rattle.run_laws.proofs.Withdrawn.{ByEnd}
use Rattle.snd_base.specs.declared.errors.PcmError.TheVariants as error
use Rattle.snd_base.specs.declared.errors.XrunWhy.TheVariants as why
use Rattle.mix_core.specs.declared.port.Ended.TheVariants as ended
use Rattle.pcm_states.specs.declared.calls.Call.TheVariants as call

-- ---- a client

-- So many frames of a file were accepted, and those that are placed of a stretch are among these, from p on: a frame that is begun counts as one.
pub record HasLaid (p limit : ℕ) (bindings : List ℕ) (stretch : Stretch) (accepted : ℕ) : Type 0 where
  pub bound : Channels bindings
  pub most : accepted ≤ limit
  pub sum : stretch.written + stretch.source ≡ accepted
  pub laid : stretch.source + stretch.committed + begun stretch.part ≤ limit
  pub part : stretch.part < length bindings
  pub past : ((stretch.committed ≡ 0) × (stretch.part ≡ 0)) ⊎ (p ≤ stretch.card)

-- a stretch that moves frames: whole ones, of which none is placed that isn't accepted, or is by a write that goes on
abbrev pub Moves : ℕ → ℕ → Stretch → Type 0
Moves p more stretch = (stretch.part ≡ 0) × (stretch.committed ≤ stretch.written + more) × (p ≤ stretch.card)

-- nothing is placed of one that waits
pub record GoesAt (p : ℕ) (state : State) (stopped : Bool) (stretch : Stretch) : Type 0 where
  pub waits : is_prepared state ≡ true → (stretch.committed ≡ 0) × (stretch.part ≡ 0)
  pub goes : is_moving state ≡ true → stopped ≡ false → Moves p 0 stretch

abbrev pub IsOfFile : ℕ → ℕ → PlaybackStream → Type 0
IsOfFile p limit c = HasLaid p limit c.setup.bindings c.stretch c.fed × GoesAt p c.status.state c.status.stopped c.stretch

-- in a state that neither waits nor moves frames
still-goes : (p : ℕ) (state : State) (stopped : Bool) (stretch : Stretch) → is_prepared state ≡ false → is_moving state ≡ false → GoesAt p state stopped stretch
still-goes p state stopped stretch unprepared still = record { waits = λ is. absurd (cc); goes = λ moves run. absurd (cc) }

-- with nothing placed, in a state that moves no frames
idle-goes : (p : ℕ) (state : State) (stopped : Bool) (stretch : Stretch) → is_moving state ≡ false → stretch.committed ≡ 0 → stretch.part ≡ 0
    → GoesAt p state stopped stretch
idle-goes p state stopped stretch still none no_part = record { waits = λ is. (none, no_part); goes = λ moves run. absurd (cc) }

-- where its gate stopped it
stopped-goes : (p : ℕ) (state : State) (stretch : Stretch) → is_prepared state ≡ false → GoesAt p state true stretch
stopped-goes p state stretch unprepared = record { waits = λ is. absurd (cc); goes = λ moves run. absurd (cc) }

-- where it moves frames
going-goes : (p : ℕ) (state : State) (stopped : Bool) (stretch : Stretch) → is_prepared state ≡ false → Moves p 0 stretch → GoesAt p state stopped stretch
going-goes p state stopped stretch unprepared moves = record { waits = λ is. absurd (cc); goes = λ goes run. moves }

-- a stretch with nothing placed, which waits
pub waiting-file : (p limit : ℕ) (bindings : List ℕ) (stopped : Bool) (written source accepted : ℕ) → Channels bindings → accepted ≤ limit → written + source ≡ accepted
    → HasLaid p limit bindings (waiting_stretch written source) accepted × GoesAt p Prepared stopped (waiting_stretch written source)
waiting-file p limit bindings stopped written source accepted bound most sum = grind (arith, nat_tests)

-- ---- results and states

-- a refusal, after which the stream neither waits nor moves frames
abbrev IsOver : Outcome → Type 0
IsOver outcome = (is_prepared outcome.state ≡ false) × (is_moving outcome.state ≡ false) × IfOk outcome.answer (λ done. ⊥)

-- a step that was late is over
step-over : (s : State) (asked : Call) (d : PlaybackStream) (frame : ℕ) (gone : Bool) (over : Option (ℕ × ℕ)) (w : XrunWhy) → IsFrameStep s asked
    → IsOver (next_of s asked (facts_of d (record { frame = frame; gone = gone }) over (Some w)))
step-over other asked d frame gone over w step = grind (arith, nat_tests)

step-unprepared : (s : State) (asked : Call) → IsFrameStep s asked → is_prepared s ≡ false
step-unprepared Prepared asked step = elim step [ ]
step-unprepared other asked step = refl

prepared-still : (s : State) → is_prepared s ≡ true → is_moving s ≡ false
prepared-still Prepared is = refl
prepared-still other is = absurd (false≢true is)

prepared-unpaused : (s : State) → is_prepared s ≡ true → is_paused s ≡ false
prepared-unpaused Paused is = absurd (false≢true is)
prepared-unpaused other is = refl

start-unpaused : (s : State) → IsStart s → is_paused s ≡ false
start-unpaused Paused start = elim start [ ]
start-unpaused other start = refl

module _ (f p limit : ℕ) (low : f ≤ p) where
  -- a call of c left a client of its file, and changed nothing below p
  abbrev pub Kept : {T : Type 0} → PlaybackStream → PlaybackStream × T → Type 0
  Kept c (d, r) = IsOfFile f limit d × IsAlike p (segment_of c) (segment_of d)

  -- ---- a commit

  -- What a commit leaves, by frames that are accepted, or are by a write that goes on: a stretch within the file, which moves frames where only whole ones
  -- are placed, and is as it was below p.
  abbrev Committed : PlaybackStream → ℕ → Commit → Type 0
  Committed c more commit = HasLaid f limit c.setup.bindings (committed_by c commit).stretch c.fed
      × (commit.part ≡ 0 → Moves f more (committed_by c commit).stretch) × IsAlike p (segment_of c) (segment_of (committed_by c commit))

  commit-kept : (c : PlaybackStream) (commit : Commit) (count more : ℕ) → HasLaid f limit c.setup.bindings c.stretch c.fed → c.stretch.part ≡ 0 → f ≤ c.stretch.card
      → c.fed + more ≤ limit → c.stretch.committed + count ≤ c.stretch.written + more
      → CommitEnd count (length c.setup.bindings) (c.stretch.card + c.stretch.committed) p commit → Committed c more commit
  commit-kept c commit count more has whole past room few (is, end) = (
    record { bound = has.bound; most = has.most; sum = has.sum; laid = ends_within.0; part = part-below (length c.setup.bindings) commit has.bound.some is.ends; past = inr past },
    (λ none. (none, ends_within.1, past)),
    ends-alike p c.stretch.source c.stretch.card c.stretch.committed (c.stretch.committed + commit.frames) c.stretch.part commit.part (by_end end),
  )
    where
      ends_within : (c.stretch.source + (c.stretch.committed + commit.frames) + begun commit.part ≤ limit) × (c.stretch.committed + commit.frames ≤ c.stretch.written + more)
      ends_within = omega (arith, has.sum, room, few, is.few)

      by_end : ((commit.frames ≡ 0) × (commit.part ≡ 0)) ⊎ (p ≤ c.stretch.card + c.stretch.committed)
          → ((c.stretch.committed ≡ c.stretch.committed + commit.frames) × (c.stretch.part ≡ commit.part))
          ⊎ ((p ≤ c.stretch.card + c.stretch.committed) × (p ≤ c.stretch.card + (c.stretch.committed + commit.frames)))
      by_end (inl none) = let frames = none.0 in inl (omega (arith, frames), whole ∙ sym none.1)
      by_end (inr later) = inr (later, omega (arith, later))

  -- a fact of each commit that counts no more, and places nothing below s
  commits-so : (Q : ℕ → Commit → Type 0) (c : PlaybackStream) (ring : List ℤ) (count s : ℕ) → Channels c.setup.bindings
      → ((commit : Commit) → CommitEnd count (length c.setup.bindings) (c.stretch.card + c.stretch.committed) s commit → Q s commit) → From p Q s (commits c ring count)
  commits-so Q c ring count s bound each =
      From-map p (λ t commit. (t ≡ s) × CommitEnd count (length c.setup.bindings) (c.stretch.card + c.stretch.committed) s commit) Q s (commits c ring count)
      (commits-keep p s c ring count bound) (λ t commit is. subst (λ n. Q n commit) (sym is.0) (each commit is.1))

  -- ---- the sync of a client that moves frames

  -- what a commit is to place, of frames up to one, is up to there
  count-few : (committed upto end most : ℕ) (none : Bool) → committed ≤ most → upto ≤ most → committed + (if none then 0 else (min upto end - committed)) ≤ most
  count-few committed upto end most true low few = omega (arith, low)
  count-few committed upto end most false low few = omega (arith, low, few)

  -- of frames that are accepted, or are by a write that goes on, none may be
  no-more : (c : PlaybackStream) → HasLaid f limit c.setup.bindings c.stretch c.fed → c.fed + 0 ≤ limit
  no-more c has = let most = has.most in omega (arith, most)

  -- a step of c: it accepted nothing, the client doesn't wait, and unless the call failed it has seen a position and moves frames
  abbrev StepsOn : PlaybackStream → ℕ → Answered (Unit {0}) → Type 0
  StepsOn c t (d, r) = Kept c (d, r) × (d.fed ≡ c.fed) × (is_prepared d.status.state ≡ false)
      × (((t ≡ p) × Moves f 0 d.stretch) ⊎ IfOk r (λ done. ⊥))

  after_sync-on : (c : PlaybackStream) (asked : Call) (position : Position) (commit : Commit) → IsOfFile f limit c → IsFrameStep c.status.state asked → Moves f 0 c.stretch
      → CommitEnd (sync_count c position) (length c.setup.bindings) (c.stretch.card + c.stretch.committed) p commit
      → StepsOn c p (after_sync c asked (Some position) commit)
  after_sync-on c asked position commit is step moves end = by_ended commit.ended end.0.ends
    where
      done : PlaybackStream
      done = committed_by (seen_at c position) commit

      over : Option (ℕ × ℕ)
      over = over_of (seen_at c position) position

      committed : Committed (seen_at c position) 0 commit
      committed = commit-kept (seen_at c position) commit (sync_count c position) 0 is.0 moves.0 moves.2 (no-more c is.0)
          (count-few c.stretch.committed c.stretch.written (window_end c.identity.geometry position.frame - c.stretch.card) (c.stretch.written + 0)
          (position.gone || is_some over) moves.1 (omega arith)) end

      outcome : Ended → Outcome
      outcome e = next_of c.status.state asked
          (facts_of done position over (late_at e (end_of_commit (seen_at c position) commit) (end_channel (seen_at c position) commit)))

      unprepared : (e : Ended) → is_prepared (outcome e).state ≡ false
      unprepared e = stepped-unprepared c.status.state asked
          (facts_of done position over (late_at e (end_of_commit (seen_at c position) commit) (end_channel (seen_at c position) commit))) step refl

      refused : (word : ℕ) → IsOver (outcome (ended.Late word))
      refused word = step-over c.status.state asked done position.frame position.gone over
          (why.Late (end_of_commit (seen_at c position) commit) (end_channel (seen_at c position) commit) word) step

      by_ended : (e : Ended) → ByEnd e (commit.part ≡ 0) (commit.part < length c.setup.bindings)
          → StepsOn c p (if is_stop e then stopped_in {T = Unit {0}} done else with_outcome done (outcome e))
      by_ended ended.Whole none = (
        ((committed.0, going-goes f (outcome ended.Whole).state c.status.stopped done.stretch (unprepared ended.Whole) (committed.1 none)), committed.2),
        refl,
        unprepared ended.Whole,
        inl (refl, committed.1 none),
      )
      by_ended (ended.Late word) none = let over_so = refused word in (
        ((committed.0, still-goes f (outcome (ended.Late word)).state c.status.stopped done.stretch over_so.0 over_so.1), committed.2),
        refl,
        over_so.0,
        inr over_so.2,
      )
      by_ended ended.Stopped none = let before = step-unprepared c.status.state asked step in
          (((committed.0, stopped-goes f c.status.state done.stretch before), committed.2), refl, before, inr tt)

  unloaded : (t : ℕ) (c : PlaybackStream) (asked : Call) → IsOfFile f limit c → IsFrameStep c.status.state asked → StepsOn c t (stopped_in c)
  unloaded t c asked is step = let before = step-unprepared c.status.state asked step in
      (((is.0, stopped-goes f c.status.state c.stretch before), alike-same p (segment_of c)), refl, before, inr tt)

  syncs-on : (s : ℕ) (c : PlaybackStream) (asked : Call) → IsOfFile f limit c → IsFrameStep c.status.state asked → Moves f 0 c.stretch
      → From p (StepsOn c) s (syncs c asked [])
  unfolding syncs
  syncs-on s c asked is step moves =
      found-from p s (StepsOn c) (λ position. c) (sync_count c) [] (after_sync c asked) (unloaded s c asked is step)
      (λ position least. commits-so (λ t commit. StepsOn c t (after_sync c asked (Some position) commit)) c [] (sync_count c position) p is.0.bound
      (λ commit end. after_sync-on c asked position commit is step moves end))

  syncs-kept : (s : ℕ) (c : PlaybackStream) (asked : Call) → IsOfFile f limit c → IsFrameStep c.status.state asked → Moves f 0 c.stretch
      → From p (λ t done. Kept c done) s (syncs c asked [])
  syncs-kept s c asked is step moves = From-map p (StepsOn c) (λ t done. Kept c done) s (syncs c asked []) (syncs-on s c asked is step moves) (λ t done steps. steps.0)

  -- ---- the start of a client that waits

  -- Where a start of c goes on it is in a state, has seen a position and moves frames, of which so many aren't accepted yet.
  abbrev BeginsBy : PlaybackStream → State → ℕ → ℕ → Answered (Unit {0}) → Type 0
  BeginsBy c state more t (d, Ok done) = HasLaid f limit d.setup.bindings d.stretch d.fed × (d.fed ≡ c.fed) × (d.status.state ≡ state) × Moves f more d.stretch × (t ≡ p)
  BeginsBy c state more t (d, Err e) = IsOfFile f limit d

  -- it changed nothing below p, and isn't paused
  abbrev Begins : PlaybackStream → State → ℕ → ℕ → Answered (Unit {0}) → Type 0
  Begins c state more t done = IsAlike p (segment_of c) (segment_of done.0) × (is_paused done.0.status.state ≡ false) × BeginsBy c state more t done

  -- a client that waits, and a state that a start of it leads to
  module _ (c : PlaybackStream) (is : IsOfFile f limit c) (prepared : is_prepared c.status.state ≡ true) (state : State) (start : IsStart state) (cursor : Cursor) (upto more : ℕ)
      (room : c.fed + more ≤ limit) (few : upto ≤ c.stretch.written + more) where
    none-placed : c.stretch.committed ≤ c.stretch.written + more
    none-placed = let none = (is.1.waits prepared).0 in omega (arith, none)

    after_start-begins : (frame : ℕ) (gone : Bool) (commit : Commit) → p ≤ frame
        → (let position : Position = record { frame = frame; gone = gone } in
        CommitEnd (start_count c cursor position upto) (length c.setup.bindings) (start_frame c frame cursor + c.stretch.committed) p commit
        → Begins c state more p (after_start c state cursor (Some position) commit))
    after_start-begins frame true commit least end = (alike-same p (segment_of c), refl, (is.0, still-goes f _ c.status.stopped c.stretch refl refl))
    after_start-begins frame false commit least end = by_ended commit.ended end.0.ends
      where
        position : Position
        position = record { frame = frame; gone = false }

        from : PlaybackStream
        from = started_in c state position cursor

        done : PlaybackStream
        done = committed_by from commit

        later : p ≤ start_frame c frame cursor
        later = omega (arith, least)

        past : f ≤ start_frame c frame cursor
        past = omega (arith, low, later)

        committed : Committed from more commit
        committed = commit-kept from commit (start_count c cursor position upto) more
            (record { bound = is.0.bound; most = is.0.most; sum = is.0.sum; laid = is.0.laid; part = is.0.part; past = inr past }) (is.1.waits prepared).1 past room
            (count-few c.stretch.committed upto (window_end c.identity.geometry frame - start_frame c frame cursor) (c.stretch.written + more) false none-placed few) end

        -- nothing was placed before it, and nothing below p is by it
        alike : IsAlike p (segment_of c) (segment_of done)
        alike = past-alike p (segment_of c) (segment_of done) (past-none p (segment_of c) (is.1.waits prepared).0 (is.1.waits prepared).1) (past-later p (segment_of done) later)

        by_ended : (e : Ended) → ByEnd e (commit.part ≡ 0) (commit.part < length c.setup.bindings)
            → Begins c state more p (if is_stop e then stopped_in done else going_on done state
            (next_of Prepared call.Start (found_at position (late_at e (end_of_commit from commit) (end_channel from commit)))))
        by_ended ended.Whole none = (alike, start-unpaused state start, (committed.0, refl, refl, committed.1 none, refl))
        by_ended (ended.Late word) none = (alike, refl, (committed.0, still-goes f _ c.status.stopped done.stretch refl refl))
        by_ended ended.Stopped none = (alike, start-unpaused state start, (committed.0, stopped-goes f state done.stretch (start-unprepared state start)))

    starts-begin : (ring : List ℤ) → From p (Begins c state more) 0 (starts c state cursor upto ring)
    unfolding starts
    starts-begin ring = found-from p 0 (Begins c state more) (λ position. started_in c Running position cursor) (λ position. start_count c cursor position upto) ring
        (after_start c state cursor) (
          alike-same p (segment_of c),
          prepared-unpaused c.status.state prepared,
          (is.0, idle-goes f c.status.state true c.stretch (prepared-still c.status.state prepared) (is.1.waits prepared).0 (is.1.waits prepared).1),
        )
        (λ position least. commits-so (λ t commit. Begins c state more t (after_start c state cursor (Some position) commit)) (started_in c Running position cursor) ring
        (start_count c cursor position upto) p is.0.bound (λ commit end. after_start-begins position.frame position.gone commit least end))

  -- where nothing more is accepted
  begun-of : (c : PlaybackStream) (state : State) (t : ℕ) (done : Answered (Unit {0})) → IsStart state → BeginsBy c state 0 t done → IsOfFile f limit done.0
  begun-of c state t done start is = grind (arith, nat_tests)

  -- ---- the calls

  number-kept : (c : PlaybackStream) (number : PlaybackStream → ℕ) (done : Answered (Unit {0})) → Kept c done → Kept c (with_number number done)
  number-kept c number (d, Ok x) kept = kept
  number-kept c number (d, Err e) kept = kept

  -- frames that were taken are accepted
  accepted-laid : (taken : ℕ) (d : PlaybackStream) → HasLaid f limit d.setup.bindings d.stretch d.fed → d.fed + taken ≤ limit
      → HasLaid f limit d.setup.bindings (with_accepted d taken).stretch (d.fed + taken)
  accepted-laid taken d has room = let sum = has.sum in
      record { bound = has.bound; most = room; sum = omega (arith, sum); laid = has.laid; part = has.part; past = has.past }

  -- of a client that moves frames
  accepted-of : (taken : ℕ) (d : PlaybackStream) → HasLaid f limit d.setup.bindings d.stretch d.fed → is_prepared d.status.state ≡ false → Moves f taken d.stretch → d.fed + taken ≤ limit
      → IsOfFile f limit (with_accepted d taken)
  accepted-of taken d has unprepared moves room = grind (arith, nat_tests)

  taken-room : (d : PlaybackStream) (n : ℕ) → d.fed + n ≤ limit → d.fed + taken_of d n ≤ limit
  taken-room d n room = omega (arith, room)

  module _ (c : PlaybackStream) (is : IsOfFile f limit c) where
    same : IsOfFile f limit c × IsAlike p (segment_of c) (segment_of c)
    same = (is, alike-same p (segment_of c))

    -- while it waits, with other counts
    waits : is_prepared c.status.state ≡ true → (stretch : Stretch) → stretch.committed ≡ c.stretch.committed → stretch.part ≡ c.stretch.part
        → GoesAt f c.status.state c.status.stopped stretch
    waits prepared stretch committed part = idle-goes f c.status.state c.status.stopped stretch (prepared-still c.status.state prepared)
        (committed ∙ (is.1.waits prepared).0) (part ∙ (is.1.waits prepared).1)

    -- in another state that neither waits nor moves frames
    in-state : (state : State) → is_prepared state ≡ false → is_moving state ≡ false
        → (HasLaid f limit c.setup.bindings c.stretch c.fed × GoesAt f state c.status.stopped c.stretch) × IsAlike p (segment_of c) (segment_of c)
    in-state state unprepared still = ((is.0, still-goes f state c.status.stopped c.stretch unprepared still), alike-same p (segment_of c))

    -- ---- a write

    -- a step of c, and then a write's commit
    module _ (d : PlaybackStream) (there : IsOfFile f limit d) (unprepared : is_prepared d.status.state ≡ false) (moves : Moves f 0 d.stretch) (n : ℕ) (room : d.fed + n ≤ limit) where
      write-few : d.stretch.committed + count_with d (taken_of d n) ≤ d.stretch.written + taken_of d n
      write-few = count-few d.stretch.committed (d.stretch.written + taken_of d n) (window_end d.identity.geometry (unwrap_or d.seen 0) - d.stretch.card)
          (d.stretch.written + taken_of d n) (nat_eq (taken_of d n) 0) (omega (arith, moves.1)) (omega arith)

      written-kept : (commit : Commit) → CommitEnd (count_with d (taken_of d n)) (length d.setup.bindings) (d.stretch.card + d.stretch.committed) p commit
          → Kept d (written_after d n commit)
      written-kept commit end = by_test (nat_lt 0 n && nat_eq (avail_of d) 0) commit.ended end.0.ends
        where
          done : PlaybackStream
          done = committed_by d commit

          committed : Committed d (taken_of d n) commit
          committed = commit-kept d commit (count_with d (taken_of d n)) (taken_of d n) there.0 moves.0 moves.2 (taken-room d n room) write-few end

          by_test : (none : Bool) (e : Ended) → ByEnd e (commit.part ≡ 0) (commit.part < length d.setup.bindings) → Kept d (if none then (d, Err error.Again) else (if is_stop e then stopped_in done
              else accepted_if (taken_of d n) (with_outcome done
              (next_of Running call.Transfer (found_at (record { frame = 0; gone = false }) (late_at e (end_of_commit d commit) (end_channel d commit)))))))
          by_test true e none = (there, alike-same p (segment_of d))
          by_test false ended.Whole none =
              (accepted-of (taken_of d n) (in_state done Running) committed.0 refl (committed.1 none) (taken-room d n room), committed.2)
          by_test false (ended.Late word) none = ((committed.0, still-goes f _ d.status.stopped done.stretch refl refl), committed.2)
          by_test false ended.Stopped none = ((committed.0, stopped-goes f d.status.state done.stretch unprepared), committed.2)

      takes_more-kept : From p (λ u done. Kept d done) p (takes_more d [] [] n)
      unfolding takes_more
      takes_more-kept = From-then p (λ u commit. Kept d (written_after d n commit)) (λ u done. Kept d done) p
          (commits d (ring_with d [] [] (taken_of d n)) (count_with d (taken_of d n))) (λ last. ends (written_after d n last))
          (commits-so (λ u commit. Kept d (written_after d n commit)) d (ring_with d [] [] (taken_of d n)) (count_with d (taken_of d n)) p there.0.bound written-kept)
          (λ u commit kept. kept)

    -- a course that goes on from a step of c, where a position was seen
    goes-on : {T : Type 0} (d : PlaybackStream) (t : ℕ) (course : Course (Answered T)) → IsAlike p (segment_of c) (segment_of d) → t ≡ p → From p (λ u done. Kept d done) p course
        → From p (λ u done. Kept c done) t course
    goes-on d t course alike past from = subst (λ n. From p (λ u done. Kept c done) n course) (sym past)
        (From-map p (λ u done. Kept d done) (λ u done. Kept c done) p course from (λ u done kept. (kept.0, alike-then p (segment_of c) (segment_of d) (segment_of done.0) alike kept.1)))

    write_on-kept : (n t : ℕ) (done : Answered (Unit {0})) → c.fed + n ≤ limit → StepsOn c t done → From p (λ u x. Kept c x) t (write_on [] [] n done)
    write_on-kept n t (d, Err e) room (kept, same_fed, unprepared, on) = kept
    write_on-kept n t (d, Ok x) room (kept, same_fed, unprepared, inr fails) = absurd fails
    write_on-kept n t (d, Ok x) room (kept, same_fed, unprepared, inl (past, moves)) =
        goes-on d t (takes_more d [] [] n) kept.1 past (takes_more-kept d kept.0 unprepared moves n (omega (arith, room, same_fed)))

    accepted-kept : (taken t : ℕ) (done : Answered (Unit {0})) → c.fed + taken ≤ limit → Begins c Running taken t done → Kept c (accepted_if taken done)
    accepted-kept taken t done room is = grind (arith, nat_tests)

    -- ---- a drain

    drain_on-kept : (t : ℕ) (done : Answered (Unit {0})) → Begins c Draining 0 t done → From p (λ u x. Kept c x) t (drain_on [] done)
    drain_on-kept t (d, Err e) (alike, unpaused, there) = (there, alike)
    drain_on-kept t (d, Ok x) (alike, unpaused, (has, same_fed, draining, moves, past)) = goes-on d t (syncs d call.Drain []) alike past
        (syncs-kept p d call.Drain (begun-of c Draining t (d, Ok x) tt (has, same_fed, draining, moves, past))
        (subst (λ (s : State). IsFrameStep s call.Drain) (sym draining) tt) moves)

    -- ---- a resume

    -- the counts based anew
    based : IsOfFile f limit (with_new_base c)
    based = let sum = is.0.sum in
        waiting-file f limit c.setup.bindings c.status.stopped (pending_of c) (c.fed - pending_of c) c.fed is.0.bound is.0.most (omega (arith, sum))

    -- the stream is paused as it was, or nothing of a new stretch is below p
    abbrev pub Resumed : {T : Type 0} → PlaybackStream × T → Type 0
    Resumed (d, r) = IsOfFile f limit d
        × (((is_paused d.status.state ≡ true) × IsAlike p (segment_of c) (segment_of d)) ⊎ ((is_paused d.status.state ≡ false) × IsPast p (segment_of d)))

    pub resume-from : (cursor : Cursor) → is_paused c.status.state ≡ true → From p (λ t done. Resumed done) 0 (pause_course false c [] cursor)
    unfolding resumes
    resume-from cursor paused = by_test (nat_eq (pending_of c) 0)
      where
        paused-unprepared : (s : State) → is_paused s ≡ true → is_prepared s ≡ false
        paused-unprepared Prepared is = absurd (false≢true is)
        paused-unprepared other is = refl

        by_start : (t : ℕ) (done : Answered (Unit {0})) → Begins (with_new_base c) Running 0 t done → Resumed done
        by_start t done (alike, unpaused, begins) = (
          begun-of (with_new_base c) Running t done tt begins,
          inr (unpaused, past-of p (segment_of (with_new_base c)) (segment_of done.0) (past-none p (segment_of (with_new_base c)) refl refl) alike),
        )

        by_test : (none : Bool) → From p (λ t done. Resumed done) 0 (if none then ends (with_new_base c, Ok tt) else resumes c cursor [])
        by_test true = (based, inr (refl, past-none p (segment_of (with_new_base c)) refl refl))
        by_test false = found-from p 0 (λ t done. Resumed done) (λ position. started_in (with_new_base c) Running position cursor)
            (λ position. start_count (with_new_base c) cursor position (pending_of c)) [] (after_resume c cursor)
            ((is.0, stopped-goes f c.status.state c.stretch (paused-unprepared c.status.state paused)), inl (paused, alike-same p (segment_of c)))
            (λ position least. commits-so (λ t commit. Resumed (after_resume c cursor (Some position) commit)) (started_in (with_new_base c) Running position cursor) []
            (start_count (with_new_base c) cursor position (pending_of c)) p is.0.bound
            (λ commit end. by_start p (after_resume c cursor (Some position) commit)
            (after_start-begins (with_new_base c) based refl Running tt cursor (pending_of c) 0 (no-more c is.0) (omega arith) position.frame position.gone commit least end)))

    -- a new stretch
    pub prepared-anew : IsOfFile f limit (after_prepare c)
    prepared-anew = waiting-file f limit c.setup.bindings c.status.stopped 0 c.fed c.fed is.0.bound is.0.most (omega arith)

    -- ---- a rewind

    checks-on : is_running c.status.state ≡ true → Moves f 0 c.stretch → From p (StepsOn c) 0 (checks c)
    unfolding checks
    checks-on runs moves = grind (arith, nat_tests)

    module _ (d : PlaybackStream) (there : IsOfFile f limit d) (unprepared : is_prepared d.status.state ≡ false) (moves : Moves f 0 d.stretch) (n : ℕ) (within : n ≤ d.stretch.written) where
      abbrev Left : Commit → Type 0
      Left left = RewindEnd (back_of d n) (length d.setup.bindings) (d.stretch.card + (d.stretch.committed - back_of d n)) p left

      back-few : back_of d n ≤ d.stretch.committed
      back-few = omega (arith, moves.1, within)

      -- what is left of what was accepted, and of what was placed, and that is as it was below p
      rewound : (left : Commit) → Left left → HasLaid f limit d.setup.bindings (taken_back d n left).stretch (taken_back d n left).fed × IsAlike p (segment_of d) (segment_of (taken_back d n left))
      rewound left (of, ends_at, some) = (
        record {
          bound = there.0.bound;
          most = left_within.0;
          sum = left_within.1;
          laid = left_within.2;
          part = part-below (length d.setup.bindings) left there.0.bound.some of.ends;
          past = inr moves.2;
        },
        ends-alike p d.stretch.source d.stretch.card d.stretch.committed (d.stretch.committed - back_of d n + left.frames) d.stretch.part left.part (by_kept ends_at),
      )
        where
          left_within : (d.fed - n + left.frames ≤ limit) × (d.stretch.written - n + left.frames + d.stretch.source ≡ d.fed - n + left.frames)
              × (d.stretch.source + (d.stretch.committed - back_of d n + left.frames) + begun left.part ≤ limit)
          left_within = omega (arith, there.0.sum, there.0.most, within, of.few, back-few, there.0.laid)

          by_kept : ((left.frames ≡ back_of d n) × (left.part ≡ 0)) ⊎ (p ≤ d.stretch.card + (d.stretch.committed - back_of d n) + left.frames)
              → ((d.stretch.committed ≡ d.stretch.committed - back_of d n + left.frames) × (d.stretch.part ≡ left.part))
              ⊎ ((p ≤ d.stretch.card + d.stretch.committed) × (p ≤ d.stretch.card + (d.stretch.committed - back_of d n + left.frames)))
          by_kept (inl all) = let frames = all.0 in inl (omega (arith, frames, back-few), moves.0 ∙ sym all.1)
          by_kept (inr past) = inr (omega (arith, past, back-few, of.few), omega (arith, past))

      rewound-kept : (left : Commit) → Left left → Kept d (after_rewind d n left)
      rewound-kept left end = by_ended left.ended end.0.ends
        where
          done : PlaybackStream
          done = taken_back d n left

          is_left : HasLaid f limit d.setup.bindings done.stretch done.fed × IsAlike p (segment_of d) (segment_of done)
          is_left = rewound left end

          by_ended : (e : Ended) → ByEnd e (left.part ≡ 0) (left.part < length d.setup.bindings) → Kept d (if is_stop e then stopped_in done else with_number (λ (x : PlaybackStream). n)
              (with_outcome done (next_of Running call.Transfer (found_at (record { frame = 0; gone = false }) (late_at e (last_laid done) (last_channel done))))))
          by_ended ended.Whole none =
              ((is_left.0, going-goes f Running d.status.stopped done.stretch refl (none, omega (arith, moves.1, within), moves.2)), is_left.1)
          by_ended (ended.Late word) none = ((is_left.0, still-goes f _ d.status.stopped done.stretch refl refl), is_left.1)
          by_ended ended.Stopped none = ((is_left.0, stopped-goes f d.status.state done.stretch unprepared), is_left.1)

      takes_back-kept : From p (λ u done. Kept d done) p (takes_back d [] n)
      unfolding takes_back
      takes_back-kept = From-then p (λ u left. (u ≡ p) × Left left) (λ u done. Kept d done) p
          (take_frames d.identity.member d.stretch.card d.setup.bindings (ring_sample d []) (d.stretch.committed - back_of d n) (back_of d n)) (λ left. ends (after_rewind d n left))
          (frames-back p p d.identity.member d.stretch.card d.setup.bindings (λ none. absurd (omega (arith, none, there.0.bound.some))) (ring_sample d []) (d.stretch.committed - back_of d n) (back_of d n))
          (λ u left end. rewound-kept left end.1)

    -- a client that moves frames can take back at most what it accepted
    rewindable-few : (floor : Cursor) (d : PlaybackStream) (n : ℕ) → d.stretch.committed ≤ d.stretch.written + 0 → min n (rewindable_of floor d) ≤ d.stretch.written
    rewindable-few floor d n few = omega (arith, few)

    rewind_on-kept : (floor : Cursor) (n t : ℕ) (done : Answered (Unit {0})) → StepsOn c t done → From p (λ u x. Kept c x) t (rewind_on floor [] n done)
    rewind_on-kept floor n t (d, Err e) (kept, same_fed, unprepared, on) = kept
    rewind_on-kept floor n t (d, Ok x) (kept, same_fed, unprepared, inr fails) = absurd fails
    rewind_on-kept floor n t (d, Ok x) (kept, same_fed, unprepared, inl (past, moves)) =
        goes-on d t (takes_back d [] (min n (rewindable_of floor d))) kept.1 past
        (takes_back-kept d kept.0 unprepared moves (min n (rewindable_of floor d)) (rewindable-few floor d n moves.1))

    -- pending frames of one that waits are taken back
    unwritten : (n : ℕ) → is_prepared c.status.state ≡ true → n ≤ c.stretch.written → IsOfFile f limit (without_frames c n)
    unwritten n prepared few = grind (arith, nat_tests)

    -- ---- the calls of lines

    parts-kept : (m : Marks) → Parts (FromSo p) (λ n. c.fed + n ≤ limit) m c 0 (StepsOn c) (Begins c) (λ t done. Kept c done) (λ t done. Kept c done)
    parts-kept m = record {
      same = same;
      counted = λ n. same;
      refused = λ e. same;
      not_counted = λ e. same;
      looks = λ asked going step. syncs-on 0 c asked is step (is.1.goes (step-moves c.status.state asked step) going);
      looked = λ t done steps. steps.0;
      numbered = λ number t done steps. number-kept c number done steps.0;
      drained = λ going moves. syncs-kept 0 (in_draining c) call.Drain
          (is.0, going-goes f Draining c.status.stopped c.stretch refl (is.1.goes moves going)) tt (is.1.goes moves going);
      starts_to = λ state upto more ring start prepared most few. starts-begin c is prepared state start m.cursor upto more few most ring;
      started = λ t done begins. (begun-of c Running t done tt begins.2, begins.0);
      drains_on = λ t done begins. drain_on-kept t done begins;
      empty = λ prepared. (none prepared, alike-same p (segment_of c));
      few_none = no-more c is.0;
      few_taken = λ n few. taken-room c n few;
      writes_more = λ n t done few steps. write_on-kept n t done few steps;
      accepted = λ n t done few begins. accepted-kept (taken_of c n) t done (taken-room c n few) begins;
      stored = λ n few prepared.
          ((accepted-laid (taken_of c n) c is.0 (taken-room c n few), waits prepared (with_accepted c (taken_of c n)).stretch refl refl), alike-same p (segment_of c));
      checked = λ going runs. checks-on runs (is.1.goes (running-moves c.status.state runs) going);
      rewinds_on = λ n t done steps. rewind_on-kept m.floor n t done steps;
      fewer = λ n prepared most. (unwritten n prepared most, alike-same p (segment_of c));
      dropped = in-state Setup refl refl;
      paused = in-state Paused refl refl;
    }
      where
        none : is_prepared c.status.state ≡ true → IsOfFile f limit (with_outcome c (next_of c.status.state call.Start (record (nothing_found Playback) { queued = 0 }))).0
        none prepared = (is.0, idle-goes f _ c.status.stopped c.stretch (empty-still c.status.state prepared) (is.1.waits prepared).0 (is.1.waits prepared).1)

    -- a call that begins no new stretch
    pub call-kept : (wav : Sound) (m : Marks) → ((n : ℕ) → c.fed + min n (frames_of wav - c.fed) ≤ limit) → (asked : Op) → is_new_stretch asked ≡ false
        → From p (λ t done. Kept c done) 0 (call_of wav m c asked)
    call-kept wav m room asked not =
        call_of-says (FromSo p) (from-so p) c 0 (parts-kept m) (λ t done. Kept c done) (λ t done kept. kept) (λ t done kept. kept) same wav room asked not
