-- The calls of a reader as courses: what each does at its port, step by step.
use Rattle.std.specs.Prelude.{ℕ, zero, suc, ◌+◌, nat_le, if◌then◌else◌, Option, None, Some, Ok, Err}
use Rattle.snd_base.specs.declared.errors.PcmError.{PcmError}
use Rattle.pcm_states.specs.declared.calls.Call.{Call}
use Rattle.pcm_states.specs.declared.calls.Call.TheVariants as call
use Rattle.pcm_stream.specs.declared.direction.Direction.TheVariants.{Capture}
use Rattle.pcm_stream.specs.Status.{refusal_of}
use Rattle.snoop_core.specs.declared.port.Got.{Got}
use Rattle.snoop_core.specs.declared.port.Got.TheVariants.{Whole, Overtaken, Stopped}
use Rattle.course.specs.Course.{◌>>=◌, Course, ends, gets, loads}
use Rattle.dsnoop_client.specs.declared.stream.CaptureStream.{CaptureStream}
use Rattle.dsnoop_client.specs.Calls.{Answered, read_after, after_start, after_sync, taken_of, waits, with_avail}
use Rattle.dsnoop_client.specs.View.{is_running}

-- so many frames are got, one after the other from a first one on, up to the first that isn't: how many were, and how it ended
abbrev pub one_more : ℕ × Got → ℕ × Got
one_more (done, ended) = (done + 1, ended)

abbrev pub get_on : Got → Course (ℕ × Got) → Course (ℕ × Got)
get_on Whole rest = rest >>= λ end. ends (one_more end)
get_on (Overtaken channel word) rest = ends (0, Overtaken channel word)
get_on Stopped rest = ends (0, Stopped)

unfoldable pub gets_frames : ℕ → ℕ → Course (ℕ × Got)
gets_frames zero first = ends (0, Whole)
gets_frames (suc count) first = gets first (λ got. get_on got (gets_frames count (first + 1)))

-- the load of a start, and of a sync
unfoldable pub starts : CaptureStream → Call → Course (Answered (Unit {0}))
starts c call = loads (λ load. ends (after_start c call load))

unfoldable pub syncs : CaptureStream → Call → Course (Answered (Unit {0}))
syncs c call = loads (λ load. ends (after_sync c call load))

-- the frames of a read, after its load
unfoldable pub transfers : CaptureStream → ℕ → Course (Answered ℕ)
transfers c n = gets_frames (taken_of c n) c.next >>= λ end. ends (read_after c n end.0 end.1)

abbrev pub transfer_on : ℕ → Answered (Unit {0}) → Course (Answered ℕ)
transfer_on n (c, Ok done) = transfers c n
transfer_on n (c, Err e) = ends (c, Err e)

-- a read of a reader that runs, and one that starts it
unfoldable pub reads_on : CaptureStream → ℕ → Course (Answered ℕ)
reads_on c n = syncs c call.Transfer >>= transfer_on n

unfoldable pub reads_first : CaptureStream → ℕ → Course (Answered ℕ)
reads_first c n = starts c call.Transfer >>= transfer_on n

-- the calls, each of a reader that isn't refused before

abbrev pub sync_course : CaptureStream → Course (Answered (Unit {0}))
sync_course c = if is_running c.status.state then syncs c call.Sync else ends (c, Ok tt)

-- a sync's answer with the frames available
unfoldable pub counts : Course (Answered (Unit {0})) → Course (Answered ℕ)
counts course = course >>= λ done. ends (with_avail done)

abbrev pub avail_course : CaptureStream → Course (Answered ℕ)
avail_course c = if is_running c.status.state then counts (syncs c call.Sync) else ends (c, Ok 0)

abbrev pub read_course : CaptureStream → ℕ → Course (Answered ℕ)
read_course c n =
    if is_running c.status.state then reads_on c n else
    (if nat_le c.setup.params.start_threshold n then reads_first c n else ends (c, waits n))

-- a call, unless it is refused before it does anything
abbrev pub admitted_by : {X : Type 0} → Option PcmError → CaptureStream
    → Course (Answered X) → Course (Answered X)
admitted_by None c course = course
admitted_by (Some e) c course = ends (c, Err e)

abbrev pub if_admitted : {X : Type 0} → CaptureStream → Call → Course (Answered X)
    → Course (Answered X)
if_admitted c call course = admitted_by (refusal_of Capture c.status call) c course
