-- The state of a stream, and which calls it admits.
use Rattle.std.specs.Prelude.{Bool, true, false, if◌then◌else◌, Option, Some, None, Result, Ok, Err}
use Rattle.snd_base.specs.declared.errors.PcmError.{PcmError}
use Rattle.snd_base.specs.declared.errors.PcmError.TheVariants.{BadState, NoDevice, NotSupported, Stopped, Xrun}
use Rattle.snd_base.specs.declared.errors.XrunWhy.TheVariants.{Already}
use Rattle.pcm_states.specs.declared.states.State.{State}
use Rattle.pcm_states.specs.declared.states.State.TheVariants as state
use Rattle.pcm_states.specs.declared.calls.Call.{Call}
use Rattle.pcm_states.specs.declared.calls.Facts.{Facts}
use Rattle.pcm_states.specs.Table.{next_of}
use Rattle.pcm_stream.specs.declared.direction.Direction.{Direction}
use Rattle.pcm_stream.specs.declared.status.Status.{Status}
use Rattle.pcm_stream.specs.Direction.{is_capture}

-- a stream that was just opened
abbrev pub at_open : Status
at_open = record { state = state.Open; stopped = false }

-- the stream in another state
abbrev pub in_state : Status → State → Status
in_state status state = record status { state = state }

-- the gate stopped the stream
abbrev pub stopped_in : Status → Status
stopped_in status = record status { stopped = true }

-- a stream in these states moves frames
abbrev pub is_moving : State → Bool
is_moving state.Running = true
is_moving state.Draining = true
is_moving other = false

-- a stream in these states has a configuration
abbrev pub is_set_up : State → Bool
is_set_up state.Open = false
is_set_up state.Disconnected = false
is_set_up other = true

-- what a call has found before it does anything
abbrev pub nothing_found : Direction → Facts
nothing_found direction =
    record { capture = is_capture direction; queued = 1; starts = false; gone = false; over = None; late = None }

-- the errors that hold whatever a call finds
abbrev pub is_refusal : PcmError → Bool
is_refusal BadState = true
is_refusal NoDevice = true
is_refusal NotSupported = true
is_refusal (Xrun Already) = true
is_refusal other = false

-- the refusal among an answer's errors
abbrev pub refusal_in : Result (Unit {0}) PcmError → Option PcmError
refusal_in (Ok done) = None
refusal_in (Err e) = if is_refusal e then Some e else None

-- why a call is refused before it does anything
abbrev pub refusal_of : Direction → Status → Call → Option PcmError
refusal_of direction status call =
    if status.stopped then Some Stopped else refusal_in (next_of status.state call (nothing_found direction)).answer

-- the answer of a test: that a call isn't refused, or the refusal
abbrev pub refused_by : Option PcmError → Result (Unit {0}) PcmError
refused_by None = Ok tt
refused_by (Some e) = Err e
