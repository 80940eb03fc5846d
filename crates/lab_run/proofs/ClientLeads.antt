-- What the calls of a client do loads a position before it places anything.
use Rattle.lab_run.specs.Prelude.{None, Option, refl, Some, ℕ, ◌+◌, ◌≡◌, Bool, Err, false, List, nat_eq, Ok, suc, true, zero, ℤ, [], ⊤, ◌∷◌, Cursor, rising}
use Rattle.lab_run.specs.Prelude.{Call, State, Running, Ended, Late, Stopped, Whole, Position, Course, ends, ◌>>=◌, Commit, PlaybackStream, after_resume}
use Rattle.lab_run.specs.Prelude.{after_start, after_sync, Answered, pending_of, start_count, started_in, sync_count, taken_of, with_new_base, written_after}
use Rattle.lab_run.specs.Prelude.{commit_at, commits, drain_on, go_on, lay_each, lay_frame, lay_frames, lay_on, looks, one_frame_more, one_more, pause_course}
use Rattle.lab_run.specs.Prelude.{resumes, starts, syncs, takes_more, write_on, ring_sample, count_with, ring_with}
use Rattle.lab_run.proofs.Leads.{Anything, IsLed, Led, Led-if, Led-then, LoadsFirst, OkLed, first-of, is_loaded, on-ok}
use Rattle.pcm_states.specs.declared.calls.Call.TheVariants as call

lay_on-led : (rest : Course (ℕ × Ended)) (ended : Ended) → Led IsLed true rest → Led IsLed true (lay_on ended rest)
lay_on-led rest Whole led = Led-then IsLed IsLed true rest (λ end. ends (one_more end)) led (λ l x is. is)
lay_on-led rest (Late word) led = refl
lay_on-led rest Stopped led = refl

lay_each-led : (member frame : ℕ) (bindings : List ℕ) (sample_of : ℕ → ℤ) (qs : List ℕ) → Led IsLed true (lay_each member frame bindings sample_of qs)
unfolding lay_each
lay_each-led member frame bindings sample_of [] = refl
lay_each-led member frame bindings sample_of (q ∷ qs) =
    (refl, λ ended. lay_on-led (lay_each member frame bindings sample_of qs) ended (lay_each-led member frame bindings sample_of qs))

go_on-led : (end : ℕ × Ended) (l : Bool) (rest : Course Commit) → l ≡ true → Led IsLed true rest → Led IsLed l (go_on end rest)
go_on-led (done, Whole) l rest is led = rw is (Led-then IsLed IsLed true rest (λ x. ends (one_frame_more x)) led (λ m x there. there))
go_on-led (done, Late word) l rest is led = is
go_on-led (done, Stopped) l rest is led = is

lay_frames-led : (member card : ℕ) (bindings : List ℕ) (samples : ℕ → ℕ → ℤ) (count first : ℕ) → Led IsLed true (lay_frames member card bindings samples count first)
unfolding lay_frames
lay_frames-led member card bindings samples zero first = refl
lay_frames-led member card bindings samples (suc count) first =
    Led-then IsLed IsLed true (lay_frame member (card + first) bindings (samples first))
    (λ end. go_on end (lay_frames member card bindings samples count (first + 1)))
    (lay_each-led member (card + first) bindings (samples first) (rising bindings))
    (λ l end is. go_on-led end l (lay_frames member card bindings samples count (first + 1)) is (lay_frames-led member card bindings samples count (first + 1)))

commits-led : (c : PlaybackStream) (ring : List ℤ) (count : ℕ) → Led IsLed true (commits c ring count)
commits-led c ring count = lay_frames-led c.identity.member c.stretch.card c.setup.bindings (ring_sample c ring) count c.stretch.committed

-- a load and the commit after it
abbrev FoundLed : Bool → Option Position × Commit → Type 0
FoundLed l (None, commit) = ⊤
FoundLed l (Some position, commit) = l ≡ true

looks-led : (at : Position → PlaybackStream) (count : Position → ℕ) (ring : List ℤ) (loaded : Bool) → Led FoundLed loaded (looks at count ring)
unfolding looks ◌>>=◌
looks-led at count ring loaded = by_load
  where
    by_load : (load : Option Position) → Led FoundLed (is_loaded loaded load) (commit_at at count ring load >>= λ commit. ends (load, commit))
    by_load None = tt
    by_load (Some position) = Led-then IsLed FoundLed true (commits (at position) ring (count position)) (λ commit. ends (Some position, commit))
        (commits-led (at position) ring (count position)) (λ l x is. is)

-- what a call makes of them is an error where there was no load
found-ok : {T : Type 0} (done : Option Position → Commit → Answered T) → ((l : Bool) (x : Commit) → OkLed l (done None x))
    → (l : Bool) (found : Option Position × Commit) → FoundLed l found → OkLed l (done found.0 found.1)
found-ok done none l (None, x) led = none l x
found-ok done none l (Some position, x) led = on-ok l (done (Some position) x).1 led

found-led : {T : Type 0} (at : Position → PlaybackStream) (count : Position → ℕ) (ring : List ℤ) (done : Option Position → Commit → Answered T)
    → ((l : Bool) (x : Commit) → OkLed l (done None x)) → (loaded : Bool) → Led OkLed loaded (looks at count ring >>= λ found. ends (done found.0 found.1))
found-led at count ring done none loaded =
    Led-then FoundLed OkLed loaded (looks at count ring) (λ found. ends (done found.0 found.1)) (looks-led at count ring loaded) (found-ok done none)

pub syncs-led : (c : PlaybackStream) (call : Call) (ring : List ℤ) (loaded : Bool) → Led OkLed loaded (syncs c call ring)
unfolding syncs
syncs-led c call ring loaded = found-led (λ position. c) (sync_count c) ring (after_sync c call) (λ l x. tt) loaded

pub starts-led : (c : PlaybackStream) (state : State) (cursor : Cursor) (upto : ℕ) (ring : List ℤ) (loaded : Bool) → Led OkLed loaded (starts c state cursor upto ring)
unfolding starts
starts-led c state cursor upto ring loaded =
    found-led (λ position. started_in c Running position cursor) (λ position. start_count c cursor position upto) ring (after_start c state cursor) (λ l x. tt) loaded

resumes-led : (c : PlaybackStream) (cursor : Cursor) (ring : List ℤ) (loaded : Bool) → Led OkLed loaded (resumes c cursor ring)
unfolding resumes
resumes-led c cursor ring loaded =
    found-led (λ position. started_in (with_new_base c) Running position cursor) (λ position. start_count (with_new_base c) cursor position (pending_of c)) ring
    (after_resume c cursor) (λ l x. tt) loaded

-- ---- what their parts say

pub drain_on-first : (ring : List ℤ) (l : Bool) (done : Answered (Unit {0})) → LoadsFirst l (drain_on ring done)
drain_on-first ring l (c, Ok x) = first-of OkLed l _ (syncs-led c call.Drain ring l)
drain_on-first ring l (c, Err e) = tt

takes_more-first : (c : PlaybackStream) (ring samples : List ℤ) (n : ℕ) → LoadsFirst true (takes_more c ring samples n)
unfolding takes_more
takes_more-first c ring samples n =
    Led-then IsLed Anything true (commits c (ring_with c ring samples (taken_of c n)) (count_with c (taken_of c n))) (λ last. ends (written_after c n last))
    (commits-led c (ring_with c ring samples (taken_of c n)) (count_with c (taken_of c n))) (λ l x is. tt)

pub write_on-first : (ring samples : List ℤ) (n : ℕ) (l : Bool) (done : Answered (Unit {0})) → OkLed l done → LoadsFirst l (write_on ring samples n done)
write_on-first ring samples n l (c, Ok x) led = rw led (takes_more-first c ring samples n)
write_on-first ring samples n l (c, Err e) led = tt

-- ---- a resume, which begins a new stretch

pub pause-first : (on : Bool) (c : PlaybackStream) (ring : List ℤ) (cursor : Cursor) → LoadsFirst false (pause_course on c ring cursor)
pause-first on c ring cursor = Led-if Anything false on (ends _) _ tt
    (Led-if Anything false (nat_eq (pending_of c) 0) (ends _) (resumes c cursor ring) tt (first-of OkLed false _ (resumes-led c cursor ring false)))
