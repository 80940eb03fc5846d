-- The state table of a PCM stream: what each call leads to in each state.
use Rattle.std.specs.Prelude.{Bool, true, false, not, ◌&&◌, nat_eq, if◌then◌else◌, List, [], ◌∷◌, Option, Some, None, Ok, Err}
use Rattle.std.specs.Option.{option_map}
use Rattle.snd_base.specs.declared.errors.PcmError.{PcmError}
use Rattle.snd_base.specs.declared.errors.PcmError.TheVariants.{BadState, Again, NoDevice, NotSupported}
use Rattle.snd_base.specs.declared.errors.PcmError.TheVariants as error
use Rattle.snd_base.specs.declared.errors.XrunWhy.{XrunWhy}
use Rattle.snd_base.specs.declared.errors.XrunWhy.TheVariants.{Empty, Already, Avail}
use Rattle.pcm_states.specs.declared.states.State.{State}
use Rattle.pcm_states.specs.declared.states.State.TheVariants.{Open, Setup, Prepared, Running, Xrun, Draining, Paused, Suspended, Disconnected}
use Rattle.pcm_states.specs.declared.calls.Call.{Call}
use Rattle.pcm_states.specs.declared.calls.Call.TheVariants.{HwParams, HwFree, SwParams, Prepare, Start, Transfer, Sync, Drop, Drain, Pause, Resume}
use Rattle.pcm_states.specs.declared.calls.Facts.{Facts}
use Rattle.pcm_states.specs.declared.calls.Outcome.{Outcome}

-- a cell of the table: the state that the call leads to, a refusal by an error of errno.h that leaves the state
-- (`already` is EPIPE, for a stream that is in XRUN already), or what the facts decide
pub data Cell : Type 0 where
  to : State → Cell
  ebadfd : Cell
  enodev : Cell
  eio : Cell
  already : Cell
  starting : Cell
  filling : Cell
  moving : Cell
  draining : Cell
  resuming : Cell

-- a row of the table: its cells under OPEN SETUP PREPARED RUNNING XRUN DRAINING PAUSED SUSPENDED DISCONNECTED
abbrev pub row : Cell → Cell → Cell → Cell → Cell → Cell → Cell → Cell → Cell → State → Cell
row o s p r x d h z g Open = o
row o s p r x d h z g Setup = s
row o s p r x d h z g Prepared = p
row o s p r x d h z g Running = r
row o s p r x d h z g Xrun = x
row o s p r x d h z g Draining = d
row o s p r x d h z g Paused = h
row o s p r x d h z g Suspended = z
row o s p r x d h z g Disconnected = g

-- the table: the row of each call, for capture (true) or playback (false)
abbrev pub call_row : Bool → Call → State → Cell
call_row _ HwParams = row (to Prepared) (to Prepared) (to Prepared) ebadfd ebadfd ebadfd ebadfd ebadfd enodev
call_row _ HwFree = row ebadfd (to Open) (to Open) ebadfd ebadfd ebadfd ebadfd ebadfd enodev
call_row _ SwParams = row ebadfd (to Setup) (to Prepared) (to Running) (to Xrun) (to Draining) (to Paused) ebadfd enodev
call_row _ Prepare = row ebadfd (to Prepared) (to Prepared) ebadfd (to Prepared) ebadfd ebadfd ebadfd enodev
call_row _ Start = row ebadfd ebadfd starting ebadfd ebadfd ebadfd ebadfd ebadfd enodev
call_row _ Transfer = row ebadfd ebadfd filling moving already ebadfd ebadfd ebadfd enodev
call_row _ Sync = row ebadfd ebadfd (to Prepared) moving already draining (to Paused) ebadfd enodev
call_row _ Drop = row ebadfd (to Setup) (to Setup) (to Setup) (to Setup) (to Setup) (to Setup) ebadfd enodev
call_row false Drain = row ebadfd (to Setup) draining draining (to Setup) draining ebadfd ebadfd enodev
call_row true Drain = row ebadfd ebadfd ebadfd ebadfd ebadfd ebadfd ebadfd ebadfd enodev
call_row false Pause = row ebadfd ebadfd ebadfd (to Paused) ebadfd ebadfd ebadfd ebadfd enodev
call_row true Pause = row eio eio eio eio eio eio eio eio eio
call_row false Resume = row ebadfd ebadfd ebadfd ebadfd ebadfd ebadfd resuming ebadfd enodev
call_row true Resume = row eio eio eio eio eio eio eio eio eio

-- the call is done, and leaves this state
abbrev pub done_in : State → Outcome
done_in s = record { state = s; answer = Ok tt }

-- the call is refused, and leaves this state
abbrev pub refused_in : State → PcmError → Outcome
refused_in s e = record { state = s; answer = Err e }

-- the stream is stopped by an underrun or overrun
abbrev pub stopped_by : XrunWhy → Outcome
stopped_by why = refused_in Xrun (error.Xrun why)

-- a playback without queued frames is not started
abbrev pub if_empty : Facts → Option Outcome
if_empty f = if not f.capture && nat_eq f.queued 0 then Some (refused_in Prepared (error.Xrun Empty)) else None

-- the card was found gone
abbrev pub if_gone : Facts → Option Outcome
if_gone f = if f.gone then Some (refused_in Disconnected NoDevice) else None

-- the stop threshold was reached
abbrev pub if_over : Facts → Option Outcome
if_over f = option_map (λ (avail, seen). stopped_by (Avail avail seen)) f.over

-- a frame came too late, or was overtaken
abbrev pub if_late : Facts → Option Outcome
if_late f = option_map stopped_by f.late

-- nothing is queued, so that a resume is a prepare
abbrev pub if_none_left : Facts → Option Outcome
if_none_left f = if nat_eq f.queued 0 then Some (done_in Prepared) else None

-- nothing is queued any more, so that a drain is at its end
abbrev pub if_played : Facts → Option Outcome
if_played f = if nat_eq f.queued 0 then Some (done_in Setup) else None

-- the first of the cases that holds, or else the last outcome
abbrev pub first_outcome : List (Option Outcome) → Outcome → Outcome
first_outcome [] otherwise = otherwise
first_outcome (Some outcome ∷ cases) otherwise = outcome
first_outcome (None ∷ cases) otherwise = first_outcome cases otherwise

-- what a drain answers while frames are queued: the call for it is to be made again
abbrev pub still_draining : Call → Outcome
still_draining Drain = refused_in Draining Again
still_draining _ = done_in Draining

-- what a cell says, in the state that it is under and for the call of its row
abbrev pub cell_outcome : Cell → State → Call → Facts → Outcome
cell_outcome (to s) _ _ _ = done_in s
cell_outcome ebadfd s _ _ = refused_in s BadState
cell_outcome enodev s _ _ = refused_in s NoDevice
cell_outcome eio s _ _ = refused_in s NotSupported
cell_outcome already s _ _ = refused_in s (error.Xrun Already)
cell_outcome starting _ _ f = first_outcome (if_empty f ∷ if_gone f ∷ if_late f ∷ []) (done_in Running)
cell_outcome filling _ _ f = if f.starts then first_outcome (if_gone f ∷ if_late f ∷ []) (done_in Running) else done_in Prepared
cell_outcome moving _ _ f = first_outcome (if_gone f ∷ if_over f ∷ if_late f ∷ []) (done_in Running)
cell_outcome draining _ call f = first_outcome (if_gone f ∷ if_late f ∷ if_played f ∷ []) (still_draining call)
cell_outcome resuming _ _ f = first_outcome (if_none_left f ∷ if_gone f ∷ if_late f ∷ []) (done_in Running)

-- the state and the answer after a call
abbrev pub next_of : State → Call → Facts → Outcome
next_of state call facts = cell_outcome (call_row facts.capture call state) state call facts
