-- The calls of a client as courses: what each does at its port, step by step.
use Rattle.std.specs.Prelude.{ℕ, zero, suc, ◌+◌, Bool, ℤ, List, [], ◌∷◌, Option, None, Some, slice_index, nat_eq, if◌then◌else◌, Ok, Err}
use Rattle.snd_base.specs.declared.errors.PcmError.{PcmError}
use Rattle.snd_base.specs.declared.places.Cursor.{Cursor}
use Rattle.mix_core.specs.declared.port.Ended.{Ended}
use Rattle.mix_core.specs.declared.port.Ended.TheVariants.{Whole, Late, Stopped}
use Rattle.mix_core.specs.declared.port.Position.{Position}
use Rattle.mix_core.specs.Laid.{an_add}
use Rattle.course.specs.Course.{◌>>=◌, Course, ends, lays, loads}
use Rattle.bindings.specs.Bound.{rising}
use Rattle.pcm_states.specs.declared.states.State.{State}
use Rattle.pcm_states.specs.declared.states.State.TheVariants.{Draining, Running}
use Rattle.pcm_states.specs.Table.{next_of}
use Rattle.pcm_states.specs.declared.calls.Call.{Call}
use Rattle.pcm_states.specs.declared.calls.Call.TheVariants as call
use Rattle.dmix_client.specs.declared.commit.Commit.{Commit}
use Rattle.dmix_client.specs.declared.stream.PlaybackStream.{PlaybackStream}
use Rattle.pcm_stream.specs.Status.{is_moving, nothing_found, refusal_of}
use Rattle.pcm_stream.specs.declared.direction.Direction.TheVariants.{Playback}
use Rattle.dmix_client.specs.Calls.{Answered, with_accepted, accepted_if, in_draining, after_drop, has_frames, is_running, after_pause, pending_of, with_new_base, after_resume, with_outcome, start_count, after_start, started_in, sync_count, after_sync, taken_of, with_number, written_after}
use Rattle.dmix_client.specs.View.{ring_sample}
use Rattle.dmix_client.specs.Writes.{count_with, frames_in, ring_with, starts_with}

-- the samples of a frame are placed one after the other, by client channels, up to the first that isn't: how many were, and how
-- it ended
abbrev pub one_more : ℕ × Ended → ℕ × Ended
one_more (done, ended) = (done + 1, ended)

abbrev pub lay_on : Ended → Course (ℕ × Ended) → Course (ℕ × Ended)
lay_on Whole rest = rest >>= λ end. ends (one_more end)
lay_on (Late word) rest = ends (0, Late word)
lay_on Stopped rest = ends (0, Stopped)

unfoldable pub lay_each : ℕ → ℕ → List ℕ → (ℕ → ℤ) → List ℕ → Course (ℕ × Ended)
lay_each member frame bindings sample_of [] = ends (0, Whole)
lay_each member frame bindings sample_of (q ∷ qs) =
    lays (an_add member frame (slice_index bindings q) (sample_of q))
    (λ ended. lay_on ended (lay_each member frame bindings sample_of qs))

abbrev pub lay_frame : ℕ → ℕ → List ℕ → (ℕ → ℤ) → Course (ℕ × Ended)
lay_frame member frame bindings sample_of =
    lay_each member frame bindings sample_of (rising bindings)

-- so many frames are placed, from a first one on, up to the first sample that isn't
abbrev pub one_frame_more : Commit → Commit
one_frame_more commit = record commit { frames = commit.frames + 1 }

abbrev pub go_on : ℕ × Ended → Course Commit → Course Commit
go_on (done, Whole) rest = rest >>= λ commit. ends (one_frame_more commit)
go_on (done, Late word) rest = ends (record { frames = 0; part = done; ended = Late word })
go_on (done, Stopped) rest = ends (record { frames = 0; part = done; ended = Stopped })

abbrev pub nothing : Commit
nothing = record { frames = 0; part = 0; ended = Whole }

unfoldable pub lay_frames : ℕ → ℕ → List ℕ → (ℕ → ℕ → ℤ) → ℕ → ℕ → Course Commit
lay_frames member card bindings samples zero first = ends nothing
lay_frames member card bindings samples (suc count) first =
    lay_frame member (card + first) bindings (samples first)
    >>= λ end. go_on end (lay_frames member card bindings samples count (first + 1))

-- the commit of so many frames
abbrev pub commits : PlaybackStream → List ℤ → ℕ → Course Commit
commits c ring count =
    lay_frames c.identity.member c.stretch.card c.setup.bindings (ring_sample c ring) count
    c.stretch.committed

-- a commit after a load, of a client as it is then
abbrev pub commit_at : (Position → PlaybackStream) → (Position → ℕ) → List ℤ → Option Position
    → Course Commit
commit_at at count ring None = ends nothing
commit_at at count ring (Some position) = commits (at position) ring (count position)

-- a load, and the commit after it
unfoldable pub looks : (Position → PlaybackStream) → (Position → ℕ) → List ℤ
    → Course (Option Position × Commit)
looks at count ring = loads (λ load. commit_at at count ring load >>= λ commit. ends (load, commit))

-- the sync of a client that moves frames: the load, and the commit
unfoldable pub syncs : PlaybackStream → Call → List ℤ → Course (Answered (Unit {0}))
syncs c call ring = looks (λ position. c) (sync_count c) ring
    >>= λ found. ends (after_sync c call found.0 found.1)

-- the start of a client that has frames: the load, and the commit of those before one
unfoldable pub starts : PlaybackStream → State → Cursor → ℕ → List ℤ → Course (Answered (Unit {0}))
starts c state cursor upto ring =
    looks (λ position. started_in c Running position cursor)
    (λ position. start_count c cursor position upto) ring
    >>= λ found. ends (after_start c state cursor found.0 found.1)

-- the calls, each of a client that isn't refused before

abbrev pub sync_course : PlaybackStream → List ℤ → Course (Answered (Unit {0}))
sync_course c ring = if is_moving c.status.state then syncs c call.Sync ring else ends (c, Ok tt)

abbrev pub start_course : PlaybackStream → List ℤ → Cursor → Course (Answered (Unit {0}))
start_course c ring cursor = if nat_eq c.stretch.written 0
    then ends
    (with_outcome c
    (next_of c.status.state call.Start (record (nothing_found Playback) { queued = 0 })))
    else starts c Running cursor c.stretch.written ring

abbrev pub drain_on : List ℤ → Answered (Unit {0}) → Course (Answered (Unit {0}))
drain_on ring (c, Ok done) = syncs c call.Drain ring
drain_on ring (c, Err e) = ends (c, Err e)

-- the start of a drain, and its sync
unfoldable pub drains : PlaybackStream → List ℤ → Cursor → Course (Answered (Unit {0}))
drains c ring cursor = starts c Draining cursor c.stretch.written ring >>= drain_on ring

abbrev pub drain_course : PlaybackStream → List ℤ → Cursor → Course (Answered (Unit {0}))
drain_course c ring cursor =
    if is_moving c.status.state then syncs (in_draining c) call.Drain ring else
    (if has_frames c then drains c ring cursor else ends (after_drop c, Ok tt))

-- the resume of a client with pending frames: the load, and the commit of these from where the stream starts
unfoldable pub resumes : PlaybackStream → Cursor → List ℤ → Course (Answered (Unit {0}))
resumes c cursor ring =
    looks (λ position. started_in (with_new_base c) Running position cursor)
    (λ position. start_count (with_new_base c) cursor position (pending_of c)) ring
    >>= λ found. ends (after_resume c cursor found.0 found.1)

abbrev pub pause_course : Bool → PlaybackStream → List ℤ → Cursor → Course (Answered (Unit {0}))
pause_course on c ring cursor = if on then ends (after_pause c, Ok tt) else
    (if nat_eq (pending_of c) 0 then ends (with_new_base c, Ok tt) else resumes c cursor ring)

abbrev pub pause_call : Bool → Call
pause_call on = if on then call.Pause else call.Resume

-- a call, unless it is refused before it does anything
abbrev pub admitted_by : {X : Type 0} → Option PcmError → PlaybackStream → Course (Answered X)
    → Course (Answered X)
admitted_by None c course = course
admitted_by (Some e) c course = ends (c, Err e)

abbrev pub if_admitted : {X : Type 0} → PlaybackStream → Call → Course (Answered X)
    → Course (Answered X)
if_admitted c call course = admitted_by (refusal_of Playback c.status call) c course

-- a call's answer with a number
unfoldable pub course_with_number : (PlaybackStream → ℕ) → Course (Answered (Unit {0})) → Course (Answered ℕ)
course_with_number number course = course >>= λ done. ends (with_number number done)

abbrev pub number_course : (PlaybackStream → ℕ) → PlaybackStream → List ℤ → Course (Answered ℕ)
number_course number c ring = if is_moving c.status.state
    then course_with_number number (syncs c call.Sync ring) else ends (c, Ok (number c))

-- a write after its sync: frames are taken, stored and committed
unfoldable pub takes_more : PlaybackStream → List ℤ → List ℤ → ℕ → Course (Answered ℕ)
takes_more c ring samples n =
    commits c (ring_with c ring samples (taken_of c n)) (count_with c (taken_of c n))
    >>= λ last. ends (written_after c n last)

abbrev pub write_on : List ℤ → List ℤ → ℕ → Answered (Unit {0}) → Course (Answered ℕ)
write_on ring samples n (c, Ok done) = takes_more c ring samples n
write_on ring samples n (c, Err e) = ends (c, Err e)

unfoldable pub writes_on : PlaybackStream → List ℤ → List ℤ → ℕ → Course (Answered ℕ)
writes_on c ring samples n = syncs c call.Transfer ring >>= write_on ring samples n

-- a write that starts the stream with frames that are stored
unfoldable pub starts_taking : PlaybackStream → List ℤ → Cursor → ℕ → Course (Answered ℕ)
starts_taking c ring cursor taken = starts c Running cursor (c.stretch.written + taken) ring
    >>= λ done. ends (accepted_if taken done)

abbrev pub fills : PlaybackStream → List ℤ → List ℤ → Cursor → ℕ → Course (Answered ℕ)
fills c ring samples cursor n = if starts_with c n
    then starts_taking c (ring_with c ring samples (taken_of c n)) cursor (taken_of c n)
    else ends (with_accepted c (taken_of c n), Ok (taken_of c n))

abbrev pub write_course : PlaybackStream → List ℤ → List ℤ → Cursor → Course (Answered ℕ)
write_course c ring samples cursor =
    if is_running c.status.state then writes_on c ring samples (frames_in c samples)
    else fills c ring samples cursor (frames_in c samples)
