-- What each call of a client makes of it, by the parts that the call does one after the other: with the positions that
-- its loads gave, and with what its commits ended in.
use Rattle.std.specs.Prelude.{ℕ, ◌+◌, ◌-◌, Bool, true, false, not, ◌&&◌, ◌||◌, nat_le, nat_lt, nat_eq, if◌then◌else◌, min, max, ℤ, List, slice_index, Option, Some, None, is_some, unwrap_or, Result, Ok, Err}
use Rattle.snd_base.specs.declared.errors.PcmError.{PcmError}
use Rattle.snd_base.specs.declared.errors.PcmError.TheVariants.{Again, Stopped}
use Rattle.snd_base.specs.declared.errors.XrunWhy.{XrunWhy}
use Rattle.snd_base.specs.declared.errors.XrunWhy.TheVariants as why
use Rattle.snd_base.specs.declared.geometry.Geometry.{Geometry}
use Rattle.snd_base.specs.declared.places.Cursor.{Cursor}
use Rattle.snd_base.specs.declared.places.Segment.{Segment}
use Rattle.snd_base.specs.Places.{end_frame, first_free}
use Rattle.mix_core.specs.declared.port.Entry.{Entry}
use Rattle.mix_core.specs.declared.port.Position.{Position}
use Rattle.bindings.specs.Bound.{rising}
use Rattle.hw_space.specs.declared.config.Config.{Config}
use Rattle.sw_limits.specs.declared.params.SwParams.{SwParams}
use Rattle.pcm_states.specs.declared.states.State.{State}
use Rattle.pcm_states.specs.declared.states.State.TheVariants.{Open, Setup, Prepared, Running, Draining, Paused}
use Rattle.pcm_states.specs.declared.calls.Call.{Call}
use Rattle.pcm_states.specs.declared.calls.Call.TheVariants as call
use Rattle.pcm_states.specs.declared.calls.Facts.{Facts}
use Rattle.pcm_states.specs.declared.calls.Outcome.{Outcome}
use Rattle.pcm_states.specs.Table.{next_of}
use Rattle.dmix_client.specs.declared.commit.Commit.{Commit}
use Rattle.mix_core.specs.declared.port.Ended.{Ended}
use Rattle.mix_core.specs.declared.port.Ended.TheVariants as ended
use Rattle.pcm_stream.specs.Setup as setup
use Rattle.pcm_stream.specs.Status as status
use Rattle.dmix_client.specs.declared.stream.PlaybackStream.{PlaybackStream}
use Rattle.dmix_client.specs.declared.stream.Stretch.{Stretch}
use Rattle.dmix_client.specs.Expansion.{run_entries}
use Rattle.dmix_client.specs.View.{avail_of, queued_of, ring_sample}

-- a client and the answer of a call
abbrev pub Answered : Type 0 → Type 0
Answered T = PlaybackStream × Result T PcmError

-- the client in another state
abbrev pub in_state : PlaybackStream → State → PlaybackStream
in_state c state = record c { status = status.in_state c.status state }

-- the gate stopped the call
abbrev pub stopped_in : {T : Type 0} → PlaybackStream → Answered T
stopped_in c = (record c { status = status.stopped_in c.status }, Err Stopped)

-- the call ends with an outcome of the state table
abbrev pub with_outcome : PlaybackStream → Outcome → Answered (Unit {0})
with_outcome c outcome = (in_state c outcome.state, outcome.answer)

-- the calls that take no step

-- a stretch that waits for its start: so many frames are written, the first of them after so many others, and none is placed
abbrev pub waiting_stretch : ℕ → ℕ → Stretch
waiting_stretch written source =
    record {
      written = written;
      committed = 0;
      part = 0;
      card = 0;
      started = false;
      source = source;
    }

-- a client that is opened
abbrev pub new_client : Geometry → ℕ → ℕ → PlaybackStream
new_client g member lead = record {
  identity = record { geometry = g; member = member; lead = lead };
  setup = setup.no_setup;
  status = status.at_open;
  stretch = waiting_stretch 0 0;
  seen = None;
  fed = 0;
}

-- a new stretch, with nothing written or placed
abbrev pub after_prepare : PlaybackStream → PlaybackStream
after_prepare c = record (in_state c Prepared) { stretch = waiting_stretch 0 c.fed }

-- the client runs with a configuration, with the default thresholds
abbrev pub configured_with : PlaybackStream → Config → List ℕ → PlaybackStream
configured_with c config bindings = after_prepare (record c { setup = setup.setup_with config bindings })

-- the client gives its configuration up
abbrev pub after_hw_free : PlaybackStream → PlaybackStream
after_hw_free c = in_state (record c { setup = setup.without_config c.setup }) Open

-- the client has other software parameters
abbrev pub with_params : PlaybackStream → SwParams → PlaybackStream
with_params c params = record c { setup = setup.with_params c.setup params }

-- what is pending is given up
abbrev pub after_drop : PlaybackStream → PlaybackStream
after_drop c = in_state c Setup

-- the segment since the last prepare
abbrev pub segment_of : PlaybackStream → Segment
segment_of c =
    record {
      source = c.stretch.source;
      card = c.stretch.card;
      whole = c.stretch.committed;
      part = c.stretch.part;
    }

-- the parts of the calls that take steps

-- a position was loaded
abbrev pub seen_at : PlaybackStream → Position → PlaybackStream
seen_at c position = record c { seen = Some position.frame }

-- where a start begins: past the position by the lead, and not before the port's cursor
abbrev pub start_frame : PlaybackStream → ℕ → Cursor → ℕ
start_frame c position cursor = max (position + c.identity.lead) (first_free cursor 0)

-- the stream starts, and is in a state
abbrev pub started_in : PlaybackStream → State → Position → Cursor → PlaybackStream
started_in c state position cursor =
    record (in_state c state) {
      stretch = record c.stretch { card = start_frame c position.frame cursor; started = true };
      seen = Some position.frame;
    }

-- the frame that the window of a position ends before
abbrev pub window_end : Geometry → ℕ → ℕ
window_end g position = min (position + g.frames) (end_frame g)

-- how many frames a commit at a position is to place, of those before one
abbrev pub commit_count : PlaybackStream → ℕ → ℕ → ℕ
commit_count c position upto =
    min upto (window_end c.identity.geometry position - c.stretch.card) - c.stretch.committed

-- the client after a commit
abbrev pub committed_by : PlaybackStream → Commit → PlaybackStream
committed_by c commit =
    record c {
      stretch = record c.stretch {
        committed = c.stretch.committed + commit.frames;
        part = commit.part;
      };
    }

-- the frame at which a commit ended, and the card channel
abbrev pub end_of_commit : PlaybackStream → Commit → ℕ
end_of_commit c commit = c.stretch.card + (c.stretch.committed + commit.frames)

abbrev pub end_channel : PlaybackStream → Commit → ℕ
end_channel c commit =
    slice_index c.setup.bindings (slice_index (rising c.setup.bindings) commit.part)

-- what a commit placed of the local ring
abbrev pub commit_entries : PlaybackStream → List ℤ → Commit → List Entry
commit_entries c ring commit =
    run_entries c.identity.member c.setup.bindings (ring_sample c ring) c.stretch.card
    c.stretch.committed
    commit.frames commit.part

abbrev pub is_stop : Ended → Bool
is_stop ended.Whole = false
is_stop (ended.Late word) = false
is_stop ended.Stopped = true

-- why a commit that ended at a frame and channel was late
abbrev pub late_at : Ended → ℕ → ℕ → Option XrunWhy
late_at ended.Whole frame channel = None
late_at (ended.Late word) frame channel = Some (why.Late frame channel word)
late_at ended.Stopped frame channel = None

abbrev pub late_of : PlaybackStream → Commit → Option XrunWhy
late_of c commit = late_at commit.ended (end_of_commit c commit) (end_channel c commit)

abbrev pub is_prepared : State → Bool
is_prepared Prepared = true
is_prepared other = false

abbrev pub is_running : State → Bool
is_running Running = true
is_running other = false

-- the stop threshold was reached in RUNNING, at a position: the frames available
abbrev pub over_of : PlaybackStream → Position → Option (ℕ × ℕ)
over_of c position =
    if is_running c.status.state && nat_le c.setup.params.stop_threshold (avail_of c)
    then Some (avail_of c, position.frame) else None

-- the facts for the state table: of a client after its commit, with what held at the load
abbrev pub facts_of : PlaybackStream → Position → Option (ℕ × ℕ) → Option XrunWhy → Facts
facts_of c position over late =
    record {
      capture = false;
      queued = queued_of c;
      starts = true;
      gone = position.gone;
      over = over;
      late = late;
    }

-- how many frames the sync at a position is to commit
abbrev pub sync_count : PlaybackStream → Position → ℕ
sync_count c position =
    if position.gone || is_some (over_of (seen_at c position) position) then 0
    else commit_count c position.frame c.stretch.written

-- the sync of a client that moves frames: the load, the stop threshold, the commit
abbrev pub after_sync : PlaybackStream → Call → Option Position → Commit → Answered (Unit {0})
after_sync c call None commit = stopped_in c
after_sync c call (Some position) commit =
    let loaded = seen_at c position in
    let done = committed_by loaded commit in
    if is_stop commit.ended
    then stopped_in done
    else with_outcome done (next_of c.status.state call
    (facts_of done position (over_of loaded position) (late_of loaded commit)))

-- the facts of a start, or of a commit after a sync, that isn't empty
abbrev pub found_at : Position → Option XrunWhy → Facts
found_at position late =
    record {
      capture = false;
      queued = 1;
      starts = true;
      gone = position.gone;
      over = None;
      late = late;
    }

-- how many frames a start at a position is to commit, of those before one
abbrev pub start_count : PlaybackStream → Cursor → Position → ℕ → ℕ
start_count c cursor position upto =
    if position.gone then 0 else commit_count (started_in c Running position cursor) position.frame
    upto

-- an answer leads to a state, or a refusal to another
abbrev pub going_on_by : Result (Unit {0}) PcmError → PlaybackStream → State
    → State → Answered (Unit {0})
going_on_by (Ok done) c state refused = (in_state c state, Ok tt)
going_on_by (Err e) c state refused = (in_state c refused, Err e)

-- the call goes on in a state, unless the table refuses it
abbrev pub going_on : PlaybackStream → State → Outcome → Answered (Unit {0})
going_on c state outcome = going_on_by outcome.answer c state outcome.state

-- the start of a client that is prepared and has frames, which leads to a state: the load, and the commit
abbrev pub after_start : PlaybackStream → State → Cursor → Option Position → Commit
    → Answered (Unit {0})
after_start c state cursor None commit = stopped_in c
after_start c state cursor (Some position) commit =
    if position.gone
    then going_on (seen_at c position) state (next_of Prepared call.Start (found_at position None))
    else (
    let from = started_in c state position cursor in
    let done = committed_by from commit in
    if is_stop commit.ended
    then stopped_in done
    else going_on done state (next_of Prepared call.Start (found_at position (late_of from commit)))
    )

-- a running stream is paused
abbrev pub after_pause : PlaybackStream → PlaybackStream
after_pause c = in_state c Paused

abbrev pub is_paused : State → Bool
is_paused Paused = true
is_paused other = false

-- the frames that are pending: accepted, and not committed
abbrev pub pending_of : PlaybackStream → ℕ
pending_of c = c.stretch.written - c.stretch.committed

-- the counts based anew: a new stretch, of which what is pending is all that is written, and nothing is placed
abbrev pub with_new_base : PlaybackStream → PlaybackStream
with_new_base c = record (in_state c Prepared) { stretch = waiting_stretch (pending_of c) (c.fed - pending_of c) }

-- a client that a call found as the first of these and left as the second begins with its counts based anew where it is no
-- longer paused
abbrev pub base_of : PlaybackStream → PlaybackStream → PlaybackStream
base_of c d = if is_paused c.status.state && not (is_paused d.status.state) then with_new_base c else c

-- the resume of a client with pending frames: a start of these, once the position was loaded
abbrev pub after_resume : PlaybackStream → Cursor → Option Position → Commit → Answered (Unit {0})
after_resume c cursor None commit = stopped_in c
after_resume c cursor (Some position) commit =
    after_start (with_new_base c) Running cursor (Some position) commit

-- an answer's number, where there is one
abbrev pub with_number : (PlaybackStream → ℕ) → Answered (Unit {0}) → Answered ℕ
with_number number (c, Ok done) = (c, Ok (number c))
with_number number (c, Err e) = (c, Err e)

-- the frames that `avail_update` answers, in the state after its sync
abbrev pub avail_in : State → PlaybackStream → ℕ
avail_in Setup c = c.setup.config.buffer_size
avail_in other c = avail_of c

abbrev pub avail_answer : PlaybackStream → ℕ
avail_answer c = avail_in c.status.state c

-- the frames that `delay` answers: from the position seen to the end of what is written
abbrev pub delay_in : State → PlaybackStream → ℕ
delay_in Setup c = 0
delay_in Prepared c = c.stretch.written
delay_in other c = c.stretch.card + c.stretch.written - unwrap_or c.seen 0

abbrev pub delay_answer : PlaybackStream → ℕ
delay_answer c = delay_in c.status.state c

-- the stream drains
abbrev pub in_draining : PlaybackStream → PlaybackStream
in_draining c = in_state c Draining

-- a prepared stream has frames to play
abbrev pub has_frames : PlaybackStream → Bool
has_frames c = is_prepared c.status.state && nat_lt 0 c.stretch.written

-- how many frames a write of n takes
abbrev pub taken_of : PlaybackStream → ℕ → ℕ
taken_of c n = min n (min (avail_of c) c.setup.config.buffer_size)

-- frames were accepted
abbrev pub with_accepted : PlaybackStream → ℕ → PlaybackStream
with_accepted c n =
    record c { stretch = record c.stretch { written = c.stretch.written + n }; fed = c.fed + n }

-- frames that were taken are accepted where the call goes well
abbrev pub accepted_if : ℕ → Answered (Unit {0}) → Answered ℕ
accepted_if n (c, Ok done) = (with_accepted c n, Ok n)
accepted_if n (c, Err e) = (c, Err e)

-- a write into a stream that runs, after its sync: nothing can be taken, or some frames are taken and committed
abbrev pub written_after : PlaybackStream → ℕ → Commit → Answered ℕ
written_after c n commit =
    if nat_lt 0 n && nat_eq (avail_of c) 0
    then (c, Err Again)
    else (
    if is_stop commit.ended
    then stopped_in (committed_by c commit)
    else accepted_if (taken_of c n)
    (with_outcome (committed_by c commit)
    (next_of Running call.Transfer
    (found_at (record { frame = 0; gone = false }) (late_of c commit))))
    )

abbrev pub written_on : Answered (Unit {0}) → ℕ → Commit → Answered ℕ
written_on (c, Ok done) n commit = written_after c n commit
written_on (c, Err e) n commit = (c, Err e)
