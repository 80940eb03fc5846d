-- What each call of a reader makes of it, by the parts that the call does one after the other: with the positions that its
-- loads gave, and with what its frames ended in.
use Rattle.std.specs.Prelude.{ℕ, ◌+◌, ◌&&◌, Bool, true, false, nat_eq, nat_le, nat_lt, if◌then◌else◌, min, List, Option, None, Some, Result, Ok, Err, unwrap_or}
use Rattle.snd_base.specs.declared.errors.PcmError.{PcmError}
use Rattle.snd_base.specs.declared.errors.PcmError.TheVariants as error
use Rattle.snd_base.specs.declared.errors.XrunWhy.{XrunWhy}
use Rattle.snd_base.specs.declared.errors.XrunWhy.TheVariants as why
use Rattle.snd_base.specs.declared.geometry.Geometry.{Geometry}
use Rattle.mix_core.specs.declared.port.Position.{Position}
use Rattle.hw_space.specs.declared.config.Config.{Config}
use Rattle.sw_limits.specs.declared.params.SwParams.{SwParams}
use Rattle.pcm_states.specs.declared.states.State.{State}
use Rattle.pcm_states.specs.declared.states.State.TheVariants as state
use Rattle.pcm_states.specs.declared.calls.Call.{Call}
use Rattle.pcm_states.specs.declared.calls.Call.TheVariants as call
use Rattle.pcm_states.specs.declared.calls.Facts.{Facts}
use Rattle.pcm_states.specs.declared.calls.Outcome.{Outcome}
use Rattle.pcm_states.specs.Table.{next_of}
use Rattle.pcm_stream.specs.Setup as setup
use Rattle.pcm_stream.specs.Status as status
use Rattle.snoop_core.specs.declared.port.Got.{Got}
use Rattle.snoop_core.specs.declared.port.Got.TheVariants.{Whole, Overtaken, Stopped}
use Rattle.dsnoop_client.specs.declared.stream.CaptureStream.{CaptureStream}
use Rattle.dsnoop_client.specs.View.{avail_of}

-- a reader and the answer of a call
abbrev pub Answered : Type 0 → Type 0
Answered T = CaptureStream × Result T PcmError

-- the reader in another state
abbrev pub in_state : CaptureStream → State → CaptureStream
in_state c state = record c { status = status.in_state c.status state }

-- the calls that take no step

-- a reader that is opened
abbrev pub new_reader : Geometry → CaptureStream
new_reader g =
    record { geometry = g; setup = setup.no_setup; status = status.at_open; seen = None; next = 0 }

-- the reader is prepared with a configuration, with the default thresholds
abbrev pub configured_with : CaptureStream → Config → List ℕ → CaptureStream
configured_with c config bindings =
    in_state (record c { setup = setup.setup_with config bindings }) state.Prepared

-- the reader gives its configuration up
abbrev pub after_hw_free : CaptureStream → CaptureStream
after_hw_free c = in_state (record c { setup = setup.without_config c.setup }) state.Open

-- the reader has other software parameters
abbrev pub with_params : CaptureStream → SwParams → CaptureStream
with_params c params = record c { setup = setup.with_params c.setup params }

-- the parts of the calls that take steps

-- what a call found, for the state table
abbrev pub facts_with : Bool → Option (ℕ × ℕ) → Option XrunWhy → Facts
facts_with gone over late =
    record { capture = true; queued = 0; starts = true; gone = gone; over = over; late = late }

-- the gate stopped the call
abbrev pub stopped_in : {T : Type 0} → CaptureStream → Answered T
stopped_in c = (record c { status = status.stopped_in c.status }, Err error.Stopped)

-- the call ends with an outcome of the state table
abbrev pub with_outcome : CaptureStream → Outcome → Answered (Unit {0})
with_outcome c outcome = (in_state c outcome.state, outcome.answer)

-- a position was loaded
abbrev pub seen_at : CaptureStream → Position → CaptureStream
seen_at c position = record c { seen = Some position.frame }

-- the position that a start loaded is the next frame, unless the card is gone
abbrev pub started_at : CaptureStream → Position → CaptureStream
started_at c position =
    if position.gone then seen_at c position
    else record c { seen = Some position.frame; next = position.frame }

-- a start, by the position that it loaded
abbrev pub after_start : CaptureStream → Call → Option Position → Answered (Unit {0})
after_start c call None = stopped_in c
after_start c call (Some position) =
    with_outcome (started_at c position)
    (next_of c.status.state call (facts_with position.gone None None))

-- the stop threshold was reached: the frames available, and the position seen
abbrev pub over_of : CaptureStream → Option (ℕ × ℕ)
over_of c =
    if nat_le c.setup.params.stop_threshold (avail_of c) then Some (avail_of c, unwrap_or c.seen 0)
    else None

-- the sync of a reader that runs, by the position that it loaded
abbrev pub after_sync : CaptureStream → Call → Option Position → Answered (Unit {0})
after_sync c call None = stopped_in c
after_sync c call (Some position) =
    with_outcome (seen_at c position)
    (next_of c.status.state call (facts_with position.gone (over_of (seen_at c position)) None))

-- the frames that `avail_update` answers after its sync
abbrev pub with_avail : Answered (Unit {0}) → Answered ℕ
with_avail (c, Ok done) = (c, Ok (avail_of c))
with_avail (c, Err e) = (c, Err e)

-- a read of n frames that doesn't start a prepared reader
abbrev pub waits : ℕ → Result ℕ PcmError
waits n = if nat_eq n 0 then Ok 0 else Err error.Again

-- how many frames a read of n loads
abbrev pub taken_of : CaptureStream → ℕ → ℕ
taken_of c n = min n (avail_of c)

-- a number in place of a good answer
abbrev pub with_answer : ℕ → Answered (Unit {0}) → Answered ℕ
with_answer n (c, Ok done) = (c, Ok n)
with_answer n (c, Err e) = (c, Err e)

-- a read that loaded so many frames, and how the last load ended: only where all were loaded do they count
abbrev pub read_to : CaptureStream → ℕ → Got → Answered ℕ
read_to c done Whole = (record c { next = c.next + done }, Ok done)
read_to c done (Overtaken channel word) =
    with_answer 0 (with_outcome c
    (next_of state.Running call.Transfer
    (facts_with false None (Some (why.Overtaken (c.next + done) channel word)))))
read_to c done Stopped = stopped_in c

-- a read of n frames after its load of the position, by how many it loaded, and how the last load ended
abbrev pub read_after : CaptureStream → ℕ → ℕ → Got → Answered ℕ
read_after c n done ended =
    if nat_lt 0 n && nat_eq (avail_of c) 0 then (c, Err error.Again) else read_to c done ended
