-- A rewind: how many frames a client can take back, what is left of its counts, and what the calls do at its port.
use Rattle.std.specs.Prelude.{ℕ, zero, suc, ◌+◌, ◌-◌, false, nat_eq, if◌then◌else◌, min, max, ℤ, List, length, slice_index, unwrap_or, Ok, Err}
use Rattle.snd_base.specs.declared.places.Cursor.{Cursor}
use Rattle.snd_base.specs.Places.{first_free}
use Rattle.mix_core.specs.declared.port.Ended.{Ended}
use Rattle.mix_core.specs.declared.port.Ended.TheVariants.{Whole, Late, Stopped}
use Rattle.mix_core.specs.declared.port.Entry.{Entry}
use Rattle.mix_core.specs.Laid.{a_withdrawal}
use Rattle.course.specs.Course.{◌>>=◌, Course, ends, lays, loads}
use Rattle.bindings.specs.Bound.{rising}
use Rattle.pcm_states.specs.declared.calls.Call.TheVariants as call
use Rattle.pcm_states.specs.declared.states.State.TheVariants.{Running}
use Rattle.pcm_states.specs.Table.{next_of}
use Rattle.dmix_client.specs.declared.commit.Commit.{Commit}
use Rattle.dmix_client.specs.declared.stream.PlaybackStream.{PlaybackStream}
use Rattle.dmix_client.specs.Calls.{Answered, found_at, is_running, is_stop, late_at, pending_of, with_outcome, stopped_in, after_sync, with_number}
use Rattle.dmix_client.specs.Course.{nothing, course_with_number}
use Rattle.dmix_client.specs.Expansion.{run_entries}
use Rattle.dmix_client.specs.View.{hw_of, ring_sample}

-- how many frames a client can take back at a port that withdraws nothing before a floor: what is pending, and the committed
-- frames that are at or past the position seen and whose channel 0 isn't before the floor
abbrev pub rewindable_of : Cursor → PlaybackStream → ℕ
rewindable_of floor c =
    pending_of
    c + (c.stretch.committed - (max (unwrap_or c.seen 0) (first_free floor 0) - c.stretch.card))

-- how many of the last n frames are committed
abbrev pub back_of : PlaybackStream → ℕ → ℕ
back_of c n = n - pending_of c

-- a client without its last n frames, which were pending
abbrev pub without_frames : PlaybackStream → ℕ → PlaybackStream
without_frames c n =
    record c { stretch = record c.stretch { written = c.stretch.written - n }; fed = c.fed - n }

-- a client of whose last n frames the pending ones were taken back, and of the committed ones all but what is left
abbrev pub taken_back : PlaybackStream → ℕ → Commit → PlaybackStream
taken_back c n left =
    record c {
      stretch = record c.stretch {
        written = c.stretch.written - n + left.frames;
        committed = c.stretch.committed - back_of c n + left.frames;
        part = left.part;
      };
      fed = c.fed - n + left.frames;
    }

-- the last sample that a client has in the card's ring: its frame, and its card channel
abbrev pub last_laid : PlaybackStream → ℕ
last_laid c =
    c.stretch.card + (if nat_eq c.stretch.part 0 then c.stretch.committed - 1
    else c.stretch.committed)

abbrev pub last_channel : PlaybackStream → ℕ
last_channel c =
    slice_index c.setup.bindings
    (slice_index (rising c.setup.bindings)
    ((if nat_eq c.stretch.part 0 then length c.setup.bindings else c.stretch.part) - 1))

-- a rewind of n frames, by what is left of the committed ones
abbrev pub after_rewind : PlaybackStream → ℕ → Commit → Answered ℕ
after_rewind c n left =
    let done = taken_back c n left in
    if is_stop left.ended
    then stopped_in done
    else with_number (λ d. n)
    (with_outcome done (next_of Running call.Transfer
    (found_at (record { frame = 0; gone = false })
    (late_at left.ended (last_laid done) (last_channel done)))))

-- the first n channels of a frame are withdrawn by falling card channel, up to the first sample that isn't: how many are left,
-- and how it ended
abbrev pub take_on : Ended → ℕ → Course (ℕ × Ended) → Course (ℕ × Ended)
take_on Whole n rest = rest
take_on (Late word) n rest = ends (n, Late word)
take_on Stopped n rest = ends (n, Stopped)

unfoldable pub take_each : ℕ → ℕ → List ℕ → (ℕ → ℤ) → ℕ → Course (ℕ × Ended)
take_each member frame bindings sample_of zero = ends (0, Whole)
take_each member frame bindings sample_of (suc n) =
    lays (a_withdrawal member frame (slice_index bindings (slice_index (rising bindings) n))
    (sample_of (slice_index (rising bindings) n)))
    (λ ended. take_on ended (suc n) (take_each member frame bindings sample_of n))

-- what is left of n frames and of one more, of which some channels of all are left
abbrev pub rewind_left : ℕ → ℕ → ℕ → Ended → Commit
rewind_left n left channels ended =
    if nat_eq left channels then record { frames = n + 1; part = 0; ended = ended }
    else record { frames = n; part = left; ended = ended }

-- so many frames, from a first one on, are withdrawn, the last one first, up to the first sample that isn't: what is left of them
abbrev pub back_on : ℕ × Ended → ℕ → ℕ → Course Commit → Course Commit
back_on (left, Whole) n channels rest = rest
back_on (left, Late word) n channels rest = ends (rewind_left n left channels (Late word))
back_on (left, Stopped) n channels rest = ends (rewind_left n left channels Stopped)

unfoldable pub take_frames : ℕ → ℕ → List ℕ → (ℕ → ℕ → ℤ) → ℕ → ℕ → Course Commit
take_frames member card bindings samples first zero = ends nothing
take_frames member card bindings samples first (suc n) =
    take_each member (card + (first + n)) bindings (samples (first + n)) (length bindings)
    >>= λ end. back_on end n (length bindings) (take_frames member card bindings samples first n)

-- the load of a client that runs, after which nothing is committed
unfoldable pub checks : PlaybackStream → Course (Answered (Unit {0}))
checks c = loads (λ load. ends (after_sync c call.Transfer load nothing))

abbrev pub rewindable_course : PlaybackStream → Cursor → Course (Answered ℕ)
rewindable_course c floor = if is_running c.status.state
    then course_with_number (rewindable_of floor) (checks c) else ends (c, Ok c.stretch.written)

-- the withdrawals of a rewind of n frames
unfoldable pub takes_back : PlaybackStream → List ℤ → ℕ → Course (Answered ℕ)
takes_back c ring n =
    take_frames c.identity.member c.stretch.card c.setup.bindings (ring_sample c ring)
    (c.stretch.committed - back_of c n) (back_of c n) >>= λ left. ends (after_rewind c n left)

abbrev pub rewind_on : Cursor → List ℤ → ℕ → Answered (Unit {0}) → Course (Answered ℕ)
rewind_on floor ring n (c, Ok done) = takes_back c ring (min n (rewindable_of floor c))
rewind_on floor ring n (c, Err e) = ends (c, Err e)

unfoldable pub rewinds : PlaybackStream → List ℤ → Cursor → ℕ → Course (Answered ℕ)
rewinds c ring floor n = checks c >>= rewind_on floor ring n

abbrev pub rewind_course : PlaybackStream → List ℤ → Cursor → ℕ → Course (Answered ℕ)
rewind_course c ring floor n = if is_running c.status.state then rewinds c ring floor n
    else ends (without_frames c (min n c.stretch.written), Ok (min n c.stretch.written))

-- the committed frames of a client that its local ring still has: those that aren't played, as far as it saw
abbrev pub held_entries : PlaybackStream → List ℤ → List Entry
held_entries c ring =
    run_entries c.identity.member c.setup.bindings (ring_sample c ring) c.stretch.card
    (min c.stretch.committed (hw_of c)) (c.stretch.committed - min c.stretch.committed (hw_of c)) 0
