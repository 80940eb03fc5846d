-- What each call of a client leaves, where a fact may speak of what its steps did: by what the parts of a call leave.
--     Saying, IsSaying      how a fact is said of a course that begins in one of some worlds
--     Parts      what the parts of a client's calls leave
use Rattle.lab_run.specs.Prelude.{ap, arith, None, Option, refl, Some, sym, ℕ, ◌+◌, ◌-◌, ◌≡◌, ◌≤◌, false≢true, Bool, Err, false, if◌then◌else◌, is_some, List}
use Rattle.lab_run.specs.Prelude.{min, nat_eq, nat_lt, Ok, true, ℤ, [], ◌&&◌, PcmError, Call, State, Draining, Prepared, Running, next_of, Playback, is_moving}
use Rattle.lab_run.specs.Prelude.{refusal_of, Marks, Course, ends, ◌>>=◌, Gives, Gives-map, Gives-then, PlaybackStream, accepted_if, after_drop, after_pause}
use Rattle.lab_run.specs.Prelude.{Answered, avail_answer, delay_answer, in_draining, is_prepared, is_running, taken_of, with_accepted, with_number}
use Rattle.lab_run.specs.Prelude.{with_outcome, admitted_by, course_with_number, drain_course, drain_on, drains, fills, if_admitted, number_course}
use Rattle.lab_run.specs.Prelude.{start_course, starts, starts_taking, sync_course, syncs, write_on, writes_on, checks, rewind_course, rewind_on}
use Rattle.lab_run.specs.Prelude.{rewindable_course, rewindable_of, rewinds, without_frames, ring_with, starts_with, Sound, Op, Answer, Failed, call_answer}
use Rattle.lab_run.specs.Prelude.{call_of, count_answer, done_answer, frames_of, write_course}
use Rattle.pcm_stream.specs.declared.status.Status.{Status}
use Rattle.pcm_stream.specs.Status.{nothing_found}
use Rattle.dmix_client.specs.EachCall.{IsStart}
use Rattle.dmix_client.specs.Port.{IsFrameStep}
use Rattle.snd_base.specs.declared.errors.PcmError.TheVariants as error
use Rattle.pcm_states.specs.declared.calls.Call.TheVariants as call
use Rattle.lab_lines.specs.declared.line.Op.TheVariants as op

-- ---- which calls the states allow

pub some-none : {X : Type 0} {v : X} → Some v ≡ None → ⊥
some-none is = false≢true (sym (ap is_some is))

pub moving-syncs : (s : State) → is_moving s ≡ true → IsFrameStep s call.Sync
moving-syncs Running moves = tt
moving-syncs Draining moves = tt
moving-syncs other moves = absurd (false≢true moves)

pub running-transfers : (s : State) → is_running s ≡ true → IsFrameStep s call.Transfer
running-transfers Running runs = tt
running-transfers other runs = absurd (false≢true runs)

pub running-moves : (s : State) → is_running s ≡ true → is_moving s ≡ true
running-moves Running runs = refl
running-moves other runs = absurd (false≢true runs)

-- a stream that takes the step of one which moves frames is one
pub step-moves : (s : State) (asked : Call) → IsFrameStep s asked → is_moving s ≡ true
step-moves Running asked step = refl
step-moves Draining asked step = refl
step-moves other asked step = elim step [ ]

pub start-unprepared : (s : State) → IsStart s → is_prepared s ≡ false
start-unprepared Running start = refl
start-unprepared Draining start = refl
start-unprepared other start = elim start [ ]

-- a call that isn't refused is of a client that no gate stopped
pub admitted-going : (status : Status) (asked : Call) → refusal_of Playback status asked ≡ None → status.stopped ≡ false
admitted-going status asked = by_stop status.stopped
  where
    by_stop : (stopped : Bool) → refusal_of Playback (record status { stopped = stopped }) asked ≡ None → stopped ≡ false
    by_stop true is = absurd (some-none is)
    by_stop false is = refl

-- a start, and a write of a stream that doesn't run, are admitted where it is prepared
pub starts-prepared : (status : Status) → refusal_of Playback status call.Start ≡ None → is_prepared status.state ≡ true
starts-prepared status = by_stop status.stopped status.state
  where
    by_stop : (stopped : Bool) (s : State) → refusal_of Playback (record { state = s; stopped = stopped }) call.Start ≡ None → is_prepared s ≡ true
    by_stop true s is = absurd (some-none is)
    by_stop false Prepared is = refl
    by_stop false other is = absurd (some-none is)

pub transfers-prepared : (status : Status) → refusal_of Playback status call.Transfer ≡ None → is_running status.state ≡ false → is_prepared status.state ≡ true
transfers-prepared status = by_stop status.stopped status.state
  where
    by_stop : (stopped : Bool) (s : State) → refusal_of Playback (record { state = s; stopped = stopped }) call.Transfer ≡ None → is_running s ≡ false → is_prepared s ≡ true
    by_stop true s is not = absurd (some-none is)
    by_stop false Prepared is not = refl
    by_stop false Running is not = absurd (false≢true (sym not))
    by_stop false other is not = absurd (some-none is)

-- a start of nothing that was written leads to no state that moves frames
pub empty-still : (s : State) → is_prepared s ≡ true → is_moving (next_of s call.Start (record (nothing_found Playback) { queued = 0 })).state ≡ false
empty-still Prepared is = refl
empty-still other is = absurd (false≢true is)

-- ---- facts of courses

-- from a world on, whatever a course does, a fact holds of the world in which it ends and of its result
abbrev pub Saying : Type 0 → Type 1
Saying W = (X : Type 0) → (W → X → Type 0) → W → Course X → Type 0

-- so it is of a result, of one course after another, and of what follows from a fact
pub record IsSaying {W : Type 0} (Says : Saying W) : Type 1 where
  pub at_end : (X : Type 0) (Q : W → X → Type 0) (w : W) (x : X) → Q w x → Says X Q w (ends x)
  pub after : (X Y : Type 0) (R : W → X → Type 0) (Q : W → Y → Type 0) (w : W) (m : Course X) (f : X → Course Y)
      → Says X R w m → ((v : W) (x : X) → R v x → Says Y Q v (f x)) → Says Y Q w (m >>= f)
  pub implied : (X : Type 0) (R Q : W → X → Type 0) (w : W) (m : Course X) → Says X R w m → ((v : W) (x : X) → R v x → Q v x) → Says X Q w m

-- a fact of each result of a course alone
abbrev pub GivesSo : (X : Type 0) → (Unit {0} → X → Type 0) → Unit {0} → Course X → Type 0
GivesSo X Q w course = Gives (Q w) course

pub gives-so : IsSaying GivesSo
gives-so = record {
  at_end = λ X Q w x is. is;
  after = λ X Y R Q w course f gives next. Gives-then (R w) (Q w) course f gives (next w);
  implied = λ X R Q w course gives less. Gives-map (R w) (Q w) course gives (less w);
}

-- what is so of the parts of the calls of a client, which begin in a world at a port with marks: `Looked` after its load and the commit after that, `Started` after
-- a start to a state with some frames more than are accepted, `Done` after a call, and `Counted` after one that answers a number; `Few` frames may be written
pub record Parts {W : Type 0} (Says : Saying W) (Few : ℕ → Type 0) (m : Marks) (c : PlaybackStream) (w : W)
    (Looked : W → Answered (Unit {0}) → Type 0) (Started : State → ℕ → W → Answered (Unit {0}) → Type 0)
    (Done : W → Answered (Unit {0}) → Type 0) (Counted : W → Answered ℕ → Type 0) : Type 0 where
  -- it is as it was
  pub same : Done w (c, Ok tt)
  pub counted : (n : ℕ) → Counted w (c, Ok n)
  pub refused : (e : PcmError) → Done w (c, Err e)
  pub not_counted : (e : PcmError) → Counted w (c, Err e)
  -- a call of a stream that moves frames
  pub looks : (asked : Call) → c.status.stopped ≡ false → IsFrameStep c.status.state asked → Says (Answered (Unit {0})) Looked w (syncs c asked [])
  pub looked : (v : W) (done : Answered (Unit {0})) → Looked v done → Done v done
  pub numbered : (number : PlaybackStream → ℕ) (v : W) (done : Answered (Unit {0})) → Looked v done → Counted v (with_number number done)
  pub drained : c.status.stopped ≡ false → is_moving c.status.state ≡ true → Says (Answered (Unit {0})) Done w (syncs (in_draining c) call.Drain [])
  -- a start
  pub starts_to : (state : State) (upto more : ℕ) (ring : List ℤ) → IsStart state → is_prepared c.status.state ≡ true → upto ≤ c.stretch.written + more → Few more
      → Says (Answered (Unit {0})) (Started state more) w (starts c state m.cursor upto ring)
  pub started : (v : W) (done : Answered (Unit {0})) → Started Running 0 v done → Done v done
  pub drains_on : (v : W) (done : Answered (Unit {0})) → Started Draining 0 v done → Says (Answered (Unit {0})) Done v (drain_on [] done)
  pub empty : is_prepared c.status.state ≡ true → Done w (with_outcome c (next_of c.status.state call.Start (record (nothing_found Playback) { queued = 0 })))
  -- a write
  pub few_none : Few 0
  pub few_taken : (n : ℕ) → Few n → Few (taken_of c n)
  pub writes_more : (n : ℕ) (v : W) (done : Answered (Unit {0})) → Few n → Looked v done → Says (Answered ℕ) Counted v (write_on [] [] n done)
  pub accepted : (n : ℕ) (v : W) (done : Answered (Unit {0})) → Few n → Started Running (taken_of c n) v done → Counted v (accepted_if (taken_of c n) done)
  pub stored : (n : ℕ) → Few n → is_prepared c.status.state ≡ true → Counted w (with_accepted c (taken_of c n), Ok (taken_of c n))
  -- a rewind
  pub checked : c.status.stopped ≡ false → is_running c.status.state ≡ true → Says (Answered (Unit {0})) Looked w (checks c)
  pub rewinds_on : (n : ℕ) (v : W) (done : Answered (Unit {0})) → Looked v done → Says (Answered ℕ) Counted v (rewind_on m.floor [] n done)
  pub fewer : (n : ℕ) → is_prepared c.status.state ≡ true → n ≤ c.stretch.written → Counted w (without_frames c n, Ok n)
  -- a call that places nothing
  pub dropped : Done w (after_drop c, Ok tt)
  pub paused : Done w (after_pause c, Ok tt)

-- the calls after which a client has a new stretch, of which each fact says its own
abbrev pub is_new_stretch : Op → Bool
is_new_stretch op.Prepare = true
is_new_stretch op.Resume = true
is_new_stretch other = false

module _ {W : Type 0} (Says : Saying W) (says : IsSaying Says) (c : PlaybackStream) (w : W) where
  -- a call that is refused, or does what it does
  pub if_admitted-says : {X : Type 0} (Q : W → Answered X → Type 0) (asked : Call) (course : Course (Answered X)) → ((e : PcmError) → Q w (c, Err e))
      → (refusal_of Playback c.status asked ≡ None → Says (Answered X) Q w course) → Says (Answered X) Q w (if_admitted c asked course)
  if_admitted-says {X = X} Q asked course refused each = by_refusal (refusal_of Playback c.status asked) refl
    where
      by_refusal : (refusal : Option PcmError) → refusal_of Playback c.status asked ≡ refusal → Says (Answered X) Q w (admitted_by {X = X} refusal c course)
      by_refusal None admits = each admits
      by_refusal (Some e) admits = says.at_end (Answered X) Q w (c, Err e) (refused e)

  -- and its answer, as a report has it
  pub done_answer-says : (Done : W → Answered (Unit {0}) → Type 0) (Named : W → PlaybackStream × Answer → Type 0) (course : Course (Answered (Unit {0})))
      → ((v : W) (x : Answered (Unit {0})) → Done v x → Named v (x.0, done_answer x.1)) → Says (Answered (Unit {0})) Done w course
      → Says (PlaybackStream × Answer) Named w (call_answer done_answer course)
  done_answer-says Done Named course named each = says.after (Answered (Unit {0})) (PlaybackStream × Answer) Done Named w course (λ done. ends (done.0, done_answer done.1)) each
      (λ v x is. says.at_end (PlaybackStream × Answer) Named v (x.0, done_answer x.1) (named v x is))

  pub count_answer-says : (Counted : W → Answered ℕ → Type 0) (Named : W → PlaybackStream × Answer → Type 0) (course : Course (Answered ℕ))
      → ((v : W) (x : Answered ℕ) → Counted v x → Named v (x.0, count_answer x.1)) → Says (Answered ℕ) Counted w course
      → Says (PlaybackStream × Answer) Named w (call_answer count_answer course)
  count_answer-says Counted Named course named each = says.after (Answered ℕ) (PlaybackStream × Answer) Counted Named w course (λ done. ends (done.0, count_answer done.1)) each
      (λ v x is. says.at_end (PlaybackStream × Answer) Named v (x.0, count_answer x.1) (named v x is))

  module _ {Few : ℕ → Type 0} {m : Marks} {Looked : W → Answered (Unit {0}) → Type 0} {Started : State → ℕ → W → Answered (Unit {0}) → Type 0}
      {Done : W → Answered (Unit {0}) → Type 0} {Counted : W → Answered ℕ → Type 0} (parts : Parts Says Few m c w Looked Started Done Counted) where
    sync-says : Says (Answered (Unit {0})) Done w (if_admitted c call.Sync (sync_course c []))
    sync-says = if_admitted-says Done call.Sync (sync_course c []) parts.refused (λ admits. by_test (is_moving c.status.state) refl (admitted-going c.status call.Sync admits))
      where
        by_test : (moves : Bool) → is_moving c.status.state ≡ moves → c.status.stopped ≡ false → Says (Answered (Unit {0})) Done w (if moves then syncs c call.Sync [] else ends (c, Ok tt))
        by_test true moves going = says.implied (Answered (Unit {0})) Looked Done w (syncs c call.Sync [])
            (parts.looks call.Sync going (moving-syncs c.status.state moves)) parts.looked
        by_test false moves going = says.at_end (Answered (Unit {0})) Done w (c, Ok tt) parts.same

    course_with_number-says : (number : PlaybackStream → ℕ) (course : Course (Answered (Unit {0}))) → Says (Answered (Unit {0})) Looked w course
        → Says (Answered ℕ) Counted w (course_with_number number course)
    unfolding course_with_number
    course_with_number-says number course each = says.after (Answered (Unit {0})) (Answered ℕ) Looked Counted w course (λ done. ends (with_number number done)) each
        (λ v done is. says.at_end (Answered ℕ) Counted v (with_number number done) (parts.numbered number v done is))

    number-says : (number : PlaybackStream → ℕ) → Says (Answered ℕ) Counted w (if_admitted c call.Sync (number_course number c []))
    number-says number = if_admitted-says Counted call.Sync (number_course number c []) parts.not_counted (λ admits. by_test (is_moving c.status.state) refl (admitted-going c.status call.Sync admits))
      where
        by_test : (moves : Bool) → is_moving c.status.state ≡ moves → c.status.stopped ≡ false
            → Says (Answered ℕ) Counted w (if moves then course_with_number number (syncs c call.Sync []) else ends (c, Ok (number c)))
        by_test true moves going = course_with_number-says number (syncs c call.Sync []) (parts.looks call.Sync going (moving-syncs c.status.state moves))
        by_test false moves going = says.at_end (Answered ℕ) Counted w (c, Ok (number c)) (parts.counted (number c))

    start-says : Says (Answered (Unit {0})) Done w (if_admitted c call.Start (start_course c [] m.cursor))
    start-says = if_admitted-says Done call.Start (start_course c [] m.cursor) parts.refused (λ admits. by_test (nat_eq c.stretch.written 0) (starts-prepared c.status admits))
      where
        by_test : (none : Bool) → is_prepared c.status.state ≡ true → Says (Answered (Unit {0})) Done w (if none
            then ends (with_outcome c (next_of c.status.state call.Start (record (nothing_found Playback) { queued = 0 })))
            else starts c Running m.cursor c.stretch.written [])
        by_test true prepared = says.at_end (Answered (Unit {0})) Done w _ (parts.empty prepared)
        by_test false prepared = says.implied (Answered (Unit {0})) (Started Running 0) Done w (starts c Running m.cursor c.stretch.written [])
            (parts.starts_to Running c.stretch.written 0 [] tt prepared (omega arith) parts.few_none) parts.started

    drains-says : is_prepared c.status.state ≡ true → Says (Answered (Unit {0})) Done w (drains c [] m.cursor)
    unfolding drains
    drains-says prepared = says.after (Answered (Unit {0})) (Answered (Unit {0})) (Started Draining 0) Done w (starts c Draining m.cursor c.stretch.written []) (drain_on [])
        (parts.starts_to Draining c.stretch.written 0 [] tt prepared (omega arith) parts.few_none) parts.drains_on

    drain-says : Says (Answered (Unit {0})) Done w (if_admitted c call.Drain (drain_course c [] m.cursor))
    drain-says = if_admitted-says Done call.Drain (drain_course c [] m.cursor) parts.refused (λ admits. by_test (is_moving c.status.state) refl (admitted-going c.status call.Drain admits))
      where
        by_frames : (prepared some : Bool) → is_prepared c.status.state ≡ prepared
            → Says (Answered (Unit {0})) Done w (if prepared && some then drains c [] m.cursor else ends (after_drop c, Ok tt))
        by_frames true true prepared = drains-says prepared
        by_frames true false prepared = says.at_end (Answered (Unit {0})) Done w (after_drop c, Ok tt) parts.dropped
        by_frames false some prepared = says.at_end (Answered (Unit {0})) Done w (after_drop c, Ok tt) parts.dropped

        by_test : (moves : Bool) → is_moving c.status.state ≡ moves → c.status.stopped ≡ false → Says (Answered (Unit {0})) Done w (if moves
            then syncs (in_draining c) call.Drain []
            else (if is_prepared c.status.state && nat_lt 0 c.stretch.written then drains c [] m.cursor else ends (after_drop c, Ok tt)))
        by_test true moves going = parts.drained going moves
        by_test false moves going = by_frames (is_prepared c.status.state) (nat_lt 0 c.stretch.written) refl

    write-says : (n : ℕ) → Few n → Says (Answered ℕ) Counted w (if_admitted c call.Transfer (write_course c m.cursor n))
    unfolding writes_on starts_taking
    write-says n few = if_admitted-says Counted call.Transfer (write_course c m.cursor n) parts.not_counted (λ admits. by_test (is_running c.status.state) refl admits)
      where
        by_start : (starts_now : Bool) → is_prepared c.status.state ≡ true → Says (Answered ℕ) Counted w (if starts_now
            then starts_taking c (ring_with c [] [] (taken_of c n)) m.cursor (taken_of c n)
            else ends (with_accepted c (taken_of c n), Ok (taken_of c n)))
        by_start true prepared = says.after (Answered (Unit {0})) (Answered ℕ) (Started Running (taken_of c n)) Counted w
            (starts c Running m.cursor (c.stretch.written + taken_of c n) (ring_with c [] [] (taken_of c n))) (λ done. ends (accepted_if (taken_of c n) done))
            (parts.starts_to Running (c.stretch.written + taken_of c n) (taken_of c n) (ring_with c [] [] (taken_of c n)) tt prepared (omega arith) (parts.few_taken n few))
            (λ v done is. says.at_end (Answered ℕ) Counted v (accepted_if (taken_of c n) done) (parts.accepted n v done few is))
        by_start false prepared = says.at_end (Answered ℕ) Counted w (with_accepted c (taken_of c n), Ok (taken_of c n)) (parts.stored n few prepared)

        by_test : (runs : Bool) → is_running c.status.state ≡ runs → refusal_of Playback c.status call.Transfer ≡ None
            → Says (Answered ℕ) Counted w (if runs then writes_on c [] [] n else fills c [] [] m.cursor n)
        by_test true runs admits = says.after (Answered (Unit {0})) (Answered ℕ) Looked Counted w (syncs c call.Transfer []) (write_on [] [] n)
            (parts.looks call.Transfer (admitted-going c.status call.Transfer admits) (running-transfers c.status.state runs)) (λ v done is. parts.writes_more n v done few is)
        by_test false runs admits = by_start (starts_with c n) (transfers-prepared c.status admits runs)

    rewindable-says : Says (Answered ℕ) Counted w (if_admitted c call.Transfer (rewindable_course c m.floor))
    rewindable-says = if_admitted-says Counted call.Transfer (rewindable_course c m.floor) parts.not_counted (λ admits. by_test (is_running c.status.state) refl (admitted-going c.status call.Transfer admits))
      where
        by_test : (runs : Bool) → is_running c.status.state ≡ runs → c.status.stopped ≡ false
            → Says (Answered ℕ) Counted w (if runs then course_with_number (rewindable_of m.floor) (checks c) else ends (c, Ok c.stretch.written))
        by_test true runs going = course_with_number-says (rewindable_of m.floor) (checks c) (parts.checked going runs)
        by_test false runs going = says.at_end (Answered ℕ) Counted w (c, Ok c.stretch.written) (parts.counted c.stretch.written)

    rewind-says : (n : ℕ) → Says (Answered ℕ) Counted w (if_admitted c call.Transfer (rewind_course c [] m.floor n))
    unfolding rewinds
    rewind-says n = if_admitted-says Counted call.Transfer (rewind_course c [] m.floor n) parts.not_counted (λ admits. by_test (is_running c.status.state) refl admits)
      where
        by_test : (runs : Bool) → is_running c.status.state ≡ runs → refusal_of Playback c.status call.Transfer ≡ None
            → Says (Answered ℕ) Counted w (if runs then rewinds c [] m.floor n else ends (without_frames c (min n c.stretch.written), Ok (min n c.stretch.written)))
        by_test true runs admits = says.after (Answered (Unit {0})) (Answered ℕ) Looked Counted w (checks c) (rewind_on m.floor [] n)
            (parts.checked (admitted-going c.status call.Transfer admits) runs) (parts.rewinds_on n)
        by_test false runs admits = says.at_end (Answered ℕ) Counted w (without_frames c (min n c.stretch.written), Ok (min n c.stretch.written))
            (parts.fewer (min n c.stretch.written) (transfers-prepared c.status admits runs) (omega arith))

    -- the call that a line names
    pub call_of-says : (Named : W → PlaybackStream × Answer → Type 0)
        → ((v : W) (x : Answered (Unit {0})) → Done v x → Named v (x.0, done_answer x.1))
        → ((v : W) (x : Answered ℕ) → Counted v x → Named v (x.0, count_answer x.1))
        → Named w (c, Failed error.BadState)
        → (wav : Sound) → ((n : ℕ) → Few (min n (frames_of wav - c.fed)))
        → (asked : Op) → is_new_stretch asked ≡ false → Says (PlaybackStream × Answer) Named w (call_of wav m c asked)
    call_of-says Named done count none wav few = by_op
      where
        by_done : (course : Course (Answered (Unit {0}))) → Says (Answered (Unit {0})) Done w course → Says (PlaybackStream × Answer) Named w (call_answer done_answer course)
        by_done course each = done_answer-says Done Named course done each

        by_count : (course : Course (Answered ℕ)) → Says (Answered ℕ) Counted w course → Says (PlaybackStream × Answer) Named w (call_answer count_answer course)
        by_count course each = count_answer-says Counted Named course count each

        at_once : (asked : Call) (d : PlaybackStream) → Done w (d, Ok tt) → Says (Answered (Unit {0})) Done w (if_admitted c asked (ends (d, Ok tt)))
        at_once asked d is = if_admitted-says Done asked (ends (d, Ok tt)) parts.refused (λ admits. says.at_end (Answered (Unit {0})) Done w (d, Ok tt) is)

        no_call : Says (PlaybackStream × Answer) Named w (ends (c, Failed error.BadState))
        no_call = says.at_end (PlaybackStream × Answer) Named w (c, Failed error.BadState) none

        by_op : (o : Op) → is_new_stretch o ≡ false → Says (PlaybackStream × Answer) Named w (call_of wav m c o)
        by_op (op.Write n) not = by_count _ (write-says (min n (frames_of wav - c.fed)) (few n))
        by_op op.Start not = by_done _ start-says
        by_op op.Sync not = by_done _ sync-says
        by_op op.Avail not = by_count _ (number-says avail_answer)
        by_op op.Delay not = by_count _ (number-says delay_answer)
        by_op op.Drain not = by_done _ drain-says
        by_op op.Drop not = by_done _ (at_once call.Drop (after_drop c) parts.dropped)
        by_op op.Prepare not = absurd (false≢true (sym not))
        by_op op.Pause not = by_done _ (at_once call.Pause (after_pause c) parts.paused)
        by_op op.Resume not = absurd (false≢true (sym not))
        by_op (op.Rewind n) not = by_count _ (rewind-says n)
        by_op op.Rewindable not = by_count _ rewindable-says
        by_op other not = no_call
