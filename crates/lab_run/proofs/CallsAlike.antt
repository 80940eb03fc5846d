-- Each call of a client is like the call without its samples and words, of the client with another member, at a port with marks that are the same
-- from a frame on.
use Rattle.lab_run.specs.Prelude.{ap, arith, length, None, Option, refl, Some, subst, sym, ℕ, ◌+◌, ◌-◌, ◌∙◌, ◌≡◌, ◌≤◌, Bool, Err, false, if◌then◌else◌, List}
use Rattle.lab_run.specs.Prelude.{min, nat_eq, Ok, OnOk, Result, suc, true, unwrap_or, zero, ℤ, [], ◌∷◌, PcmError, Cursor, rising, Call, State, Draining}
use Rattle.lab_run.specs.Prelude.{Prepared, Running, Setup, Playback, is_moving, refusal_of, Ended, Late, Stopped, Whole, Position, Course, ends, ◌>>=◌, Commit}
use Rattle.lab_run.specs.Prelude.{PlaybackStream, accepted_if, after_drop, after_pause, after_prepare, after_resume, after_start, after_sync, Answered}
use Rattle.lab_run.specs.Prelude.{avail_answer, avail_in, commit_count, delay_answer, delay_in, has_frames, in_draining, is_running, pending_of, start_count}
use Rattle.lab_run.specs.Prelude.{started_in, sync_count, taken_of, with_accepted, with_new_base, with_number, written_after, admitted_by, commit_at, commits}
use Rattle.lab_run.specs.Prelude.{course_with_number, drain_course, drain_on, drains, fills, go_on, if_admitted, lay_each, lay_frame, lay_frames, looks}
use Rattle.lab_run.specs.Prelude.{nothing, number_course, one_frame_more, one_more, pause_call, pause_course, resumes, start_course, starts, starts_taking}
use Rattle.lab_run.specs.Prelude.{sync_course, syncs, takes_more, write_on, writes_on, after_rewind, back_of, back_on, checks, rewind_course, rewind_left}
use Rattle.lab_run.specs.Prelude.{rewind_on, rewindable_course, rewindable_of, rewinds, take_each, take_frames, takes_back, without_frames, ring_sample}
use Rattle.lab_run.specs.Prelude.{count_with, frames_in, ring_with, starts_with, Answer, Alike, CallsAreAlike, IsFromOn, SameButMember, SameFrom, count_answer}
use Rattle.lab_run.specs.Prelude.{done_answer, write_course, with_member}
use Rattle.lab_run.proofs.AlikeLaws.{Alike-if, Alike-then, without_word}
use Rattle.lab_run.proofs.ReportedWords.{accepted_if-alike, commit_without_word, resumed-word, rewound-word, after_start-word, after_sync-word, with_number-alike, written_after-word}
use Rattle.pcm_states.specs.declared.calls.Call.TheVariants as call
use Rattle.dmix_client.specs.Course as client_calls

-- how far the samples of a frame were placed, and how far a commit got, but for the word
abbrev SameEnd : ℕ × Ended → ℕ × Ended → Type 0
SameEnd x y = y ≡ (x.0, without_word x.1)

abbrev SameCommit : Commit → Commit → Type 0
SameCommit x y = y ≡ commit_without_word x

-- a load from a frame on, and the commit after it
record SameFound (from : ℕ) (x y : Option Position × Commit) : Type 0 where
  pub after : IsFromOn from x.0
  pub same : y ≡ (x.0, commit_without_word x.1)

-- a look that goes on has seen a position from a frame on
record SameLook (from member : ℕ) (x y : Answered (Unit {0})) : Type 0 where
  pub answer : SameButMember member done_answer x y
  pub seen : OnOk x.1 (from ≤ unwrap_or x.0.seen 0)

one_more-alike : (x y : ℕ × Ended) → SameEnd x y → SameEnd (one_more x) (one_more y)
one_more-alike (n, e) y is = ap one_more is

on-ok : {X : Type 0} (r : Result X PcmError) (fact : Type 0) → fact → OnOk r fact
on-ok (Ok x) fact is = is
on-ok (Err e) fact is = tt

-- the numbers that are answered don't depend on a client's member
avail-member : (member : ℕ) (c : PlaybackStream) → avail_answer (with_member member c) ≡ avail_answer c
avail-member member c = by_state c.status.state
  where
    by_state : (state : State) → avail_in state (with_member member c) ≡ avail_in state c
    by_state Setup = refl
    by_state other = refl

delay-member : (member : ℕ) (c : PlaybackStream) → delay_answer (with_member member c) ≡ delay_answer c
delay-member member c = by_state c.status.state
  where
    by_state : (state : State) → delay_in state (with_member member c) ≡ delay_in state c
    by_state Setup = refl
    by_state Prepared = refl
    by_state other = refl

module _ (from member : ℕ) where
  -- the client that a course is like
  abbrev other_of : PlaybackStream → PlaybackStream
  other_of c = with_member member c

  -- a call that ends at once
  at-once : {X : Type 0} (answer : Result X PcmError → Answer) (done : Answered X) → SameButMember member answer done (other_of done.0, done.1)
  at-once answer done = record { client = refl; answer_is = refl }

  lay_each-alike : (place frame : ℕ) (bindings : List ℕ) (f g : ℕ → ℤ) (qs : List ℕ) → Alike from SameEnd (lay_each place frame bindings f qs) (lay_each member frame bindings g qs)
  unfolding lay_each
  lay_each-alike place frame bindings f g [] = refl
  lay_each-alike place frame bindings f g (q ∷ qs) = (
    record { frame = refl; channel = refl; kind = refl },
    Alike-then from SameEnd SameEnd (lay_each place frame bindings f qs) (lay_each member frame bindings g qs) (λ end. ends (one_more end)) (λ end. ends (one_more end))
        (lay_each-alike place frame bindings f g qs) one_more-alike,
    λ word. refl,
    refl,
  )

  go_on-alike : (x y : ℕ × Ended) (m n : Course Commit) → SameEnd x y → Alike from SameCommit m n → Alike from SameCommit (go_on x m) (go_on y n)
  go_on-alike (done, Whole) y m n is rest =
      rw is (Alike-then from SameCommit SameCommit m n (λ c. ends (one_frame_more c)) (λ c. ends (one_frame_more c)) rest (λ c d same. ap one_frame_more same))
  go_on-alike (done, Late word) y m n is rest = rw is refl
  go_on-alike (done, Stopped) y m n is rest = rw is refl

  lay_frames-alike : (place card : ℕ) (bindings : List ℕ) (f g : ℕ → ℕ → ℤ) (count first : ℕ)
      → Alike from SameCommit (lay_frames place card bindings f count first) (lay_frames member card bindings g count first)
  unfolding lay_frames
  lay_frames-alike place card bindings f g zero first = refl
  lay_frames-alike place card bindings f g (suc count) first =
      Alike-then from SameEnd SameCommit (lay_frame place (card + first) bindings (f first)) (lay_frame member (card + first) bindings (g first))
      (λ end. go_on end (lay_frames place card bindings f count (first + 1))) (λ end. go_on end (lay_frames member card bindings g count (first + 1)))
      (lay_each-alike place (card + first) bindings (f first) (g first) (rising bindings))
      (λ x y is. go_on-alike x y (lay_frames place card bindings f count (first + 1)) (lay_frames member card bindings g count (first + 1)) is (lay_frames-alike place card bindings f g count (first + 1)))

  commits-alike : (c : PlaybackStream) (ring other : List ℤ) (count : ℕ) → Alike from SameCommit (commits c ring count) (commits (other_of c) other count)
  commits-alike c ring other count = lay_frames-alike c.identity.member c.stretch.card c.setup.bindings (ring_sample c ring) (ring_sample (other_of c) other) count c.stretch.committed

  looks-alike : (at at' : Position → PlaybackStream) (count count' : Position → ℕ) (ring other : List ℤ)
      → ((p : Position) → from ≤ p.frame → at' p ≡ other_of (at p)) → ((p : Position) → from ≤ p.frame → count' p ≡ count p)
      → Alike from (SameFound from) (looks at count ring) (looks at' count' other)
  unfolding looks ◌>>=◌
  looks-alike at at' count count' ring other same same_count = by_load
    where
      by_load : (load : Option Position) → IsFromOn from load
          → Alike from (SameFound from) (commit_at at count ring load >>= λ commit. ends (load, commit)) (commit_at at' count' other load >>= λ commit. ends (load, commit))
      by_load None after = record { after = tt; same = refl }
      by_load (Some p) after = rw (same p after, same_count p after)
          (Alike-then from SameCommit (SameFound from) (commits (at p) ring (count p)) (commits (other_of (at p)) other (count p)) (λ commit. ends (Some p, commit)) (λ commit. ends (Some p, commit))
          (commits-alike (at p) ring other (count p)) (λ x y is. record { after = after; same = ap (λ z. (Some p, z)) is }))

  found-alike : (at at' : Position → PlaybackStream) (count count' : Position → ℕ) (ring other : List ℤ) (call call' : Option Position → Commit → Answered (Unit {0}))
      → ((p : Position) → from ≤ p.frame → at' p ≡ other_of (at p)) → ((p : Position) → from ≤ p.frame → count' p ≡ count p)
      → ((load : Option Position) (x : Commit) → IsFromOn from load → SameButMember member done_answer (call load x) (call' load (commit_without_word x)))
      → Alike from (SameButMember member done_answer) (looks at count ring >>= λ found. ends (call found.0 found.1)) (looks at' count' other >>= λ found. ends (call' found.0 found.1))
  found-alike at at' count count' ring other call call' same same_count word =
      Alike-then from (SameFound from) (SameButMember member done_answer) (looks at count ring) (looks at' count' other) (λ found. ends (call found.0 found.1)) (λ found. ends (call' found.0 found.1))
      (looks-alike at at' count count' ring other same same_count) (λ x y is. rw (is.same) (word x.0 x.1 is.after))

  syncs-alike : (c : PlaybackStream) (call : Call) (ring other : List ℤ) → Alike from (SameButMember member done_answer) (syncs c call ring) (syncs (other_of c) call other)
  unfolding syncs
  syncs-alike c call ring other = found-alike (λ p. c) (λ p. other_of c) (sync_count c) (sync_count (other_of c)) ring other (after_sync c call) (after_sync (other_of c) call)
      (λ p after. refl) (λ p after. refl) (λ load x after. after_sync-word member c call load x)

  -- a start at a port whose cursor is the same from the frame on
  started_in-same : (c : PlaybackStream) (cursor other : Cursor) → SameFrom from cursor other → (p : Position) → from ≤ p.frame
      → started_in (other_of c) Running p other ≡ other_of (started_in c Running p cursor)
  started_in-same c cursor other same p after =
      let one : PlaybackStream = started_in (other_of c) Running p cursor in
      ap (λ (n : ℕ). let d : PlaybackStream = record one { stretch = record one.stretch { card = n } } in d) (sym (same (p.frame + c.identity.lead) (omega (arith, after))))

  start_count-same : (c : PlaybackStream) (cursor other : Cursor) (upto : ℕ) → SameFrom from cursor other → (p : Position) → from ≤ p.frame
      → start_count (other_of c) other p upto ≡ start_count c cursor p upto
  start_count-same c cursor other upto same p after =
      ap (λ (d : PlaybackStream). if p.gone then 0 else commit_count d p.frame upto) (started_in-same c cursor other same p after)

  after_start-same : (c : PlaybackStream) (state : State) (cursor other : Cursor) → SameFrom from cursor other → (load : Option Position) (x : Commit) → IsFromOn from load
      → after_start c state other load x ≡ after_start c state cursor load x
  after_start-same c state cursor other same None x after = refl
  after_start-same c state cursor other same (Some p) x after = rw (same (p.frame + c.identity.lead) (omega (arith, after))) refl

  starts-alike : (c : PlaybackStream) (state : State) (cursor other : Cursor) (upto : ℕ) (ring more : List ℤ) → SameFrom from cursor other
      → Alike from (SameButMember member done_answer) (starts c state cursor upto ring) (starts (other_of c) state other upto more)
  unfolding starts
  starts-alike c state cursor other upto ring more same =
      found-alike (λ p. started_in c Running p cursor) (λ p. started_in (other_of c) Running p other) (λ p. start_count c cursor p upto) (λ p. start_count (other_of c) other p upto) ring more
      (after_start c state cursor) (after_start (other_of c) state other) (started_in-same c cursor other same) (start_count-same c cursor other upto same)
      (λ load x after. subst (SameButMember member done_answer (after_start c state cursor load x)) (sym (after_start-same (other_of c) state cursor other same load (commit_without_word x) after)) (after_start-word member c state cursor load x))

  resumed-same : (c : PlaybackStream) (cursor other : Cursor) → SameFrom from cursor other → (load : Option Position) (x : Commit) → IsFromOn from load
      → after_resume c other load x ≡ after_resume c cursor load x
  resumed-same c cursor other same None x after = refl
  resumed-same c cursor other same (Some p) x after = after_start-same (with_new_base c) Running cursor other same (Some p) x after

  resumes-alike : (c : PlaybackStream) (cursor other : Cursor) (ring more : List ℤ) → SameFrom from cursor other
      → Alike from (SameButMember member done_answer) (resumes c cursor ring) (resumes (other_of c) other more)
  unfolding resumes
  resumes-alike c cursor other ring more same =
      found-alike (λ p. started_in (with_new_base c) Running p cursor) (λ p. started_in (other_of (with_new_base c)) Running p other)
      (λ p. start_count (with_new_base c) cursor p (pending_of c)) (λ p. start_count (other_of (with_new_base c)) other p (pending_of c)) ring more (after_resume c cursor) (after_resume (other_of c) other)
      (started_in-same (with_new_base c) cursor other same) (start_count-same (with_new_base c) cursor other (pending_of c) same)
      (λ load x after. subst (SameButMember member done_answer (after_resume c cursor load x)) (sym (resumed-same (other_of c) cursor other same load (commit_without_word x) after)) (resumed-word member c cursor load x))

  -- ---- the calls

  pub admitted-alike : {X : Type 0} (answer : Result X PcmError → Answer) (c : PlaybackStream) (call : Call) (m n : Course (Answered X)) → Alike from (SameButMember member answer) m n
      → Alike from (SameButMember member answer) (if_admitted c call m) (if_admitted (other_of c) call n)
  admitted-alike answer c call m n alike = by_refusal (refusal_of Playback c.status call)
    where
      by_refusal : (refusal : Option PcmError) → Alike from (SameButMember member answer) (admitted_by refusal c m) (admitted_by refusal (other_of c) n)
      by_refusal None = alike
      by_refusal (Some e) = at-once answer (c, Err e)

  sync-alike : (c : PlaybackStream) (ring : List ℤ) → Alike from (SameButMember member done_answer) (sync_course c ring) (sync_course (other_of c) [])
  sync-alike c ring = Alike-if from (SameButMember member done_answer) (is_moving c.status.state) (syncs c call.Sync ring) (ends (c, Ok tt)) (syncs (other_of c) call.Sync []) (ends (other_of c, Ok tt))
      (syncs-alike c call.Sync ring []) (at-once done_answer (c, Ok tt))

  start-alike : (c : PlaybackStream) (ring : List ℤ) (cursor other : Cursor) → SameFrom from cursor other
      → Alike from (SameButMember member done_answer) (start_course c ring cursor) (start_course (other_of c) [] other)
  start-alike c ring cursor other same = Alike-if from (SameButMember member done_answer) (nat_eq c.stretch.written 0) (ends _) (starts c Running cursor c.stretch.written ring) (ends _) (starts (other_of c) Running other c.stretch.written [])
      (at-once done_answer _) (starts-alike c Running cursor other c.stretch.written ring [] same)

  drain_on-alike : (ring other : List ℤ) (x y : Answered (Unit {0})) → SameButMember member done_answer x y → Alike from (SameButMember member done_answer) (drain_on ring x) (drain_on other y)
  drain_on-alike ring other (c, Ok a) (d, Ok b) is = rw (sym is.client) (syncs-alike c call.Drain ring other)
  drain_on-alike ring other (c, Err e) (d, Err f) is = record { client = is.client; answer_is = is.answer_is }
  drain_on-alike ring other (c, Ok a) (d, Err f) is = let wrong = is.answer_is in absurd (cc)
  drain_on-alike ring other (c, Err e) (d, Ok b) is = let wrong = is.answer_is in absurd (cc)

  drains-alike : (c : PlaybackStream) (ring more : List ℤ) (cursor other : Cursor) → SameFrom from cursor other
      → Alike from (SameButMember member done_answer) (drains c ring cursor) (drains (other_of c) more other)
  unfolding drains
  drains-alike c ring more cursor other same =
      Alike-then from (SameButMember member done_answer) (SameButMember member done_answer) (starts c Draining cursor c.stretch.written ring) (starts (other_of c) Draining other c.stretch.written more)
      (drain_on ring) (drain_on more) (starts-alike c Draining cursor other c.stretch.written ring more same) (drain_on-alike ring more)

  drain-alike : (c : PlaybackStream) (ring : List ℤ) (cursor other : Cursor) → SameFrom from cursor other
      → Alike from (SameButMember member done_answer) (drain_course c ring cursor) (drain_course (other_of c) [] other)
  drain-alike c ring cursor other same = Alike-if from (SameButMember member done_answer) (is_moving c.status.state) (syncs (in_draining c) call.Drain ring) _ (syncs (in_draining (other_of c)) call.Drain []) _
      (syncs-alike (in_draining c) call.Drain ring [])
      (Alike-if from (SameButMember member done_answer) (has_frames c) (drains c ring cursor) (ends _) (drains (other_of c) [] other) (ends _) (drains-alike c ring [] cursor other same) (at-once done_answer (after_drop c, Ok tt)))

  pause-alike : (on : Bool) (c : PlaybackStream) (ring : List ℤ) (cursor other : Cursor) → SameFrom from cursor other
      → Alike from (SameButMember member done_answer) (pause_course on c ring cursor) (pause_course on (other_of c) [] other)
  pause-alike on c ring cursor other same = Alike-if from (SameButMember member done_answer) on (ends _) _ (ends _) _ (at-once done_answer (after_pause c, Ok tt))
      (Alike-if from (SameButMember member done_answer) (nat_eq (pending_of c) 0) (ends _) (resumes c cursor ring) (ends _) (resumes (other_of c) other []) (at-once done_answer (with_new_base c, Ok tt)) (resumes-alike c cursor other ring [] same))

  numbered-alike : (number other : PlaybackStream → ℕ) (Q : Answered (Unit {0}) → Answered (Unit {0}) → Type 0) (m n : Course (Answered (Unit {0})))
      → ((x y : Answered (Unit {0})) → Q x y → SameButMember member count_answer (with_number number x) (with_number other y))
      → Alike from Q m n → Alike from (SameButMember member count_answer) (course_with_number number m) (course_with_number other n)
  unfolding course_with_number
  numbered-alike number other Q m n same alike = Alike-then from Q (SameButMember member count_answer) m n (λ done. ends (with_number number done)) (λ done. ends (with_number other done)) alike same

  number-alike : (number : PlaybackStream → ℕ) → ((c : PlaybackStream) → number (other_of c) ≡ number c) → (c : PlaybackStream) (ring : List ℤ)
      → Alike from (SameButMember member count_answer) (number_course number c ring) (number_course number (other_of c) [])
  number-alike number same c ring =
      Alike-if from (SameButMember member count_answer) (is_moving c.status.state) (course_with_number number (syncs c call.Sync ring)) (ends (c, Ok (number c)))
      (course_with_number number (syncs (other_of c) call.Sync [])) (ends (other_of c, Ok (number (other_of c))))
      (numbered-alike number number (SameButMember member done_answer) (syncs c call.Sync ring) (syncs (other_of c) call.Sync []) (with_number-alike member number same) (syncs-alike c call.Sync ring []))
      (record { client = refl; answer_is = ap (λ n. count_answer (Ok n)) (sym (same c)) })

  takes_more-alike : (c : PlaybackStream) (ring samples other more : List ℤ) (n : ℕ)
      → Alike from (SameButMember member count_answer) (takes_more c ring samples n) (takes_more (other_of c) other more n)
  unfolding takes_more
  takes_more-alike c ring samples other more n =
      Alike-then from SameCommit (SameButMember member count_answer) (commits c (ring_with c ring samples (taken_of c n)) (count_with c (taken_of c n))) (commits (other_of c) (ring_with c other more (taken_of c n)) (count_with c (taken_of c n)))
      (λ last. ends (written_after c n last)) (λ last. ends (written_after (other_of c) n last))
      (commits-alike c (ring_with c ring samples (taken_of c n)) (ring_with c other more (taken_of c n)) (count_with c (taken_of c n))) (λ x y is. rw is (written_after-word member c n x))

  write_on-alike : (ring samples other more : List ℤ) (n : ℕ) (x y : Answered (Unit {0})) → SameButMember member done_answer x y
      → Alike from (SameButMember member count_answer) (write_on ring samples n x) (write_on other more n y)
  write_on-alike ring samples other more n (c, Ok a) (d, Ok b) is = rw (sym is.client) (takes_more-alike c ring samples other more n)
  write_on-alike ring samples other more n (c, Err e) (d, Err f) is = record { client = is.client; answer_is = is.answer_is }
  write_on-alike ring samples other more n (c, Ok a) (d, Err f) is = let wrong = is.answer_is in absurd (cc)
  write_on-alike ring samples other more n (c, Err e) (d, Ok b) is = let wrong = is.answer_is in absurd (cc)

  writes_on-alike : (c : PlaybackStream) (ring samples other more : List ℤ) (n : ℕ)
      → Alike from (SameButMember member count_answer) (writes_on c ring samples n) (writes_on (other_of c) other more n)
  unfolding writes_on
  writes_on-alike c ring samples other more n = Alike-then from (SameButMember member done_answer) (SameButMember member count_answer) (syncs c call.Transfer ring) (syncs (other_of c) call.Transfer other)
      (write_on ring samples n) (write_on other more n) (syncs-alike c call.Transfer ring other) (write_on-alike ring samples other more n)

  starts_taking-alike : (c : PlaybackStream) (ring more : List ℤ) (cursor other : Cursor) (taken : ℕ) → SameFrom from cursor other
      → Alike from (SameButMember member count_answer) (starts_taking c ring cursor taken) (starts_taking (other_of c) more other taken)
  unfolding starts_taking
  starts_taking-alike c ring more cursor other taken same = Alike-then from (SameButMember member done_answer) (SameButMember member count_answer)
      (starts c Running cursor (c.stretch.written + taken) ring) (starts (other_of c) Running other (c.stretch.written + taken) more) (λ done. ends (accepted_if taken done)) (λ done. ends (accepted_if taken done))
      (starts-alike c Running cursor other (c.stretch.written + taken) ring more same) (accepted_if-alike member taken)

  write-alike : (c : PlaybackStream) (ring samples : List ℤ) (cursor other : Cursor) → SameFrom from cursor other
      → Alike from (SameButMember member count_answer) (client_calls.write_course c ring samples cursor) (write_course (other_of c) other (frames_in c samples))
  write-alike c ring samples cursor other same =
      Alike-if from (SameButMember member count_answer) (is_running c.status.state) (writes_on c ring samples (frames_in c samples)) (fills c ring samples cursor (frames_in c samples))
      (writes_on (other_of c) [] [] (frames_in c samples)) (fills (other_of c) [] [] other (frames_in c samples))
      (writes_on-alike c ring samples [] [] (frames_in c samples))
      (Alike-if from (SameButMember member count_answer) (starts_with c (frames_in c samples)) (starts_taking c (ring_with c ring samples (taken_of c (frames_in c samples))) cursor (taken_of c (frames_in c samples))) (ends _)
      (starts_taking (other_of c) (ring_with c [] [] (taken_of c (frames_in c samples))) other (taken_of c (frames_in c samples))) (ends _)
      (starts_taking-alike c (ring_with c ring samples (taken_of c (frames_in c samples))) (ring_with c [] [] (taken_of c (frames_in c samples))) cursor other (taken_of c (frames_in c samples)) same)
      (at-once count_answer (with_accepted c (taken_of c (frames_in c samples)), Ok (taken_of c (frames_in c samples)))))

  -- ---- rewinds

  take_each-alike : (place frame : ℕ) (bindings : List ℕ) (f g : ℕ → ℤ) (n : ℕ) → Alike from SameEnd (take_each place frame bindings f n) (take_each member frame bindings g n)
  unfolding take_each
  take_each-alike place frame bindings f g zero = refl
  take_each-alike place frame bindings f g (suc n) =
      (record { frame = refl; channel = refl; kind = refl }, take_each-alike place frame bindings f g n, λ word. refl, refl)

  rewind_left-word : (n left channels : ℕ) (ended : Ended) → SameCommit (rewind_left n left channels ended) (rewind_left n left channels (without_word ended))
  rewind_left-word n left channels ended = by_all (nat_eq left channels) refl
    where
      by_all : (all : Bool) → nat_eq left channels ≡ all → SameCommit (rewind_left n left channels ended) (rewind_left n left channels (without_word ended))
      by_all true is = rw is refl
      by_all false is = rw is refl

  back_on-alike : (n channels : ℕ) (x y : ℕ × Ended) (m o : Course Commit) → SameEnd x y → Alike from SameCommit m o → Alike from SameCommit (back_on x n channels m) (back_on y n channels o)
  back_on-alike n channels (left, Whole) y m o is rest = rw is rest
  back_on-alike n channels (left, Late word) y m o is rest = rw is (rewind_left-word n left channels (Late word))
  back_on-alike n channels (left, Stopped) y m o is rest = rw is (rewind_left-word n left channels Stopped)

  take_frames-alike : (place card : ℕ) (bindings : List ℕ) (f g : ℕ → ℕ → ℤ) (first n : ℕ)
      → Alike from SameCommit (take_frames place card bindings f first n) (take_frames member card bindings g first n)
  unfolding take_frames
  take_frames-alike place card bindings f g first zero = refl
  take_frames-alike place card bindings f g first (suc n) =
      Alike-then from SameEnd SameCommit (take_each place (card + (first + n)) bindings (f (first + n)) (length bindings)) (take_each member (card + (first + n)) bindings (g (first + n)) (length bindings))
      (λ end. back_on end n (length bindings) (take_frames place card bindings f first n)) (λ end. back_on end n (length bindings) (take_frames member card bindings g first n))
      (take_each-alike place (card + (first + n)) bindings (f (first + n)) (g (first + n)) (length bindings))
      (λ x y is. back_on-alike n (length bindings) x y (take_frames place card bindings f first n) (take_frames member card bindings g first n) is (take_frames-alike place card bindings f g first n))

  takes_back-alike : (c : PlaybackStream) (ring other : List ℤ) (n : ℕ) → Alike from (SameButMember member count_answer) (takes_back c ring n) (takes_back (other_of c) other n)
  unfolding takes_back
  takes_back-alike c ring other n =
      Alike-then from SameCommit (SameButMember member count_answer) (take_frames c.identity.member c.stretch.card c.setup.bindings (ring_sample c ring) (c.stretch.committed - back_of c n) (back_of c n)) (take_frames member c.stretch.card c.setup.bindings (ring_sample (other_of c) other) (c.stretch.committed - back_of c n) (back_of c n))
      (λ left. ends (after_rewind c n left)) (λ left. ends (after_rewind (other_of c) n left))
      (take_frames-alike c.identity.member c.stretch.card c.setup.bindings (ring_sample c ring) (ring_sample (other_of c) other) (c.stretch.committed - back_of c n) (back_of c n)) (λ x y is. rw is (rewound-word member c n x))

  checks-alike : (c : PlaybackStream) → Alike from (SameLook from member) (checks c) (checks (other_of c))
  unfolding checks
  checks-alike c = by_load
    where
      by_load : (load : Option Position) → IsFromOn from load → SameLook from member (after_sync c call.Transfer load nothing) (after_sync (other_of c) call.Transfer load nothing)
      by_load None after = record { answer = record { client = refl; answer_is = refl }; seen = tt }
      by_load (Some p) after = record { answer = record { client = refl; answer_is = refl }; seen = on-ok (after_sync c call.Transfer (Some p) nothing).1 _ after }

  rewindable-same : (floor lower : Cursor) (c : PlaybackStream) → SameFrom from floor lower → from ≤ unwrap_or c.seen 0 → rewindable_of floor c ≡ rewindable_of lower (other_of c)
  rewindable-same floor lower c same seen = ap (λ (n : ℕ). pending_of c + (c.stretch.committed - (n - c.stretch.card))) (same (unwrap_or c.seen 0) seen)

  rewind_on-alike : (floor lower : Cursor) (ring other : List ℤ) (n : ℕ) → SameFrom from floor lower → (x y : Answered (Unit {0})) → SameLook from member x y
      → Alike from (SameButMember member count_answer) (rewind_on floor ring n x) (rewind_on lower other n y)
  rewind_on-alike floor lower ring other n same (c, Ok a) (d, Ok b) is =
      rw (sym is.answer.client, sym (rewindable-same floor lower c same is.seen)) (takes_back-alike c ring other (min n (rewindable_of floor c)))
  rewind_on-alike floor lower ring other n same (c, Err e) (d, Err f) is = record { client = is.answer.client; answer_is = is.answer.answer_is }
  rewind_on-alike floor lower ring other n same (c, Ok a) (d, Err f) is = let wrong = is.answer.answer_is in absurd (cc)
  rewind_on-alike floor lower ring other n same (c, Err e) (d, Ok b) is = let wrong = is.answer.answer_is in absurd (cc)

  rewinds-alike : (c : PlaybackStream) (ring other : List ℤ) (floor lower : Cursor) (n : ℕ) → SameFrom from floor lower
      → Alike from (SameButMember member count_answer) (rewinds c ring floor n) (rewinds (other_of c) other lower n)
  unfolding rewinds
  rewinds-alike c ring other floor lower n same =
      Alike-then from (SameLook from member) (SameButMember member count_answer) (checks c) (checks (other_of c)) (rewind_on floor ring n) (rewind_on lower other n) (checks-alike c) (rewind_on-alike floor lower ring other n same)

  rewind-alike : (c : PlaybackStream) (ring : List ℤ) (floor lower : Cursor) (n : ℕ) → SameFrom from floor lower
      → Alike from (SameButMember member count_answer) (rewind_course c ring floor n) (rewind_course (other_of c) [] lower n)
  rewind-alike c ring floor lower n same = Alike-if from (SameButMember member count_answer) (is_running c.status.state) (rewinds c ring floor n) (ends _) (rewinds (other_of c) [] lower n) (ends _)
      (rewinds-alike c ring [] floor lower n same) (at-once count_answer (without_frames c (min n c.stretch.written), Ok (min n c.stretch.written)))

  rewindable_number : (floor lower : Cursor) → SameFrom from floor lower → (x y : Answered (Unit {0})) → SameLook from member x y
      → SameButMember member count_answer (with_number (rewindable_of floor) x) (with_number (rewindable_of lower) y)
  rewindable_number floor lower same (c, Ok a) (d, Ok b) is = record {
    client = is.answer.client;
    answer_is = ap (λ n. count_answer (Ok n)) (rewindable-same floor lower c same is.seen ∙ ap (rewindable_of lower) is.answer.client);
  }
  rewindable_number floor lower same (c, Err e) (d, Err f) is = record { client = is.answer.client; answer_is = is.answer.answer_is }
  rewindable_number floor lower same (c, Ok a) (d, Err f) is = let wrong = is.answer.answer_is in absurd (cc)
  rewindable_number floor lower same (c, Err e) (d, Ok b) is = let wrong = is.answer.answer_is in absurd (cc)

  rewindable-alike : (c : PlaybackStream) (floor lower : Cursor) → SameFrom from floor lower
      → Alike from (SameButMember member count_answer) (rewindable_course c floor) (rewindable_course (other_of c) lower)
  rewindable-alike c floor lower same = Alike-if from (SameButMember member count_answer) (is_running c.status.state) (course_with_number (rewindable_of floor) (checks c)) (ends _) (course_with_number (rewindable_of lower) (checks (other_of c))) (ends _)
      (numbered-alike (rewindable_of floor) (rewindable_of lower) (SameLook from member) (checks c) (checks (other_of c)) (rewindable_number floor lower same) (checks-alike c)) (at-once count_answer (c, Ok c.stretch.written))

  pub calls-alike : (c : PlaybackStream) (ring : List ℤ) (cursor other floor lower : Cursor) → SameFrom from cursor other → SameFrom from floor lower
      → CallsAreAlike from member c ring cursor other floor lower
  calls-alike c ring cursor other floor lower same same_floor = record {
    write = λ samples. admitted-alike count_answer c call.Transfer _ _ (write-alike c ring samples cursor other same);
    start = admitted-alike done_answer c call.Start _ _ (start-alike c ring cursor other same);
    sync = admitted-alike done_answer c call.Sync _ _ (sync-alike c ring);
    drain = admitted-alike done_answer c call.Drain _ _ (drain-alike c ring cursor other same);
    pause = λ on. admitted-alike done_answer c (pause_call on) _ _ (pause-alike on c ring cursor other same);
    avail = admitted-alike count_answer c call.Sync _ _ (number-alike avail_answer (avail-member member) c ring);
    delay = admitted-alike count_answer c call.Sync _ _ (number-alike delay_answer (delay-member member) c ring);
    drop = admitted-alike done_answer c call.Drop (ends (after_drop c, Ok tt)) (ends (after_drop (other_of c), Ok tt)) (at-once done_answer (after_drop c, Ok tt));
    prepare = admitted-alike done_answer c call.Prepare (ends (after_prepare c, Ok tt)) (ends (after_prepare (other_of c), Ok tt)) (at-once done_answer (after_prepare c, Ok tt));
    rewind = λ n. admitted-alike count_answer c call.Transfer _ _ (rewind-alike c ring floor lower n same_floor);
    rewindable = admitted-alike count_answer c call.Transfer _ _ (rewindable-alike c floor lower same_floor);
  }
