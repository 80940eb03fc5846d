-- What contracts see of a reader: how it is at a moment.
use Rattle.std.specs.Prelude.{◌⊎◌, Result, Ok, Err, ◌≡◌, ℕ, ◌-◌, ◌/◌, ◌%◌, ◌^◌, ◌<◌, ◌≤◌, Bool, true, false, ℤ, List, length, Option, None, Some, ⊤, unwrap_or}
use Rattle.snd_base.specs.declared.errors.PcmError.{PcmError}
use Rattle.snd_base.specs.Places.{end_frame, first_frame}
use Rattle.mix_core.specs.declared.port.Position.{Position}
use Rattle.pcm_states.specs.declared.states.State.{State}
use Rattle.pcm_states.specs.declared.states.State.TheVariants.{Open, Setup, Prepared, Running, Xrun, Disconnected}
use Rattle.pcm_states.specs.declared.calls.Call.{Call}
use Rattle.pcm_states.specs.declared.calls.Call.TheVariants as call
use Rattle.pcm_stream.specs.Setup.{IsConfigured}
use Rattle.pcm_stream.specs.Status.{is_set_up}
use Rattle.snoop_core.specs.Port.{SnoopView}
use Rattle.dsnoop_client.specs.declared.stream.CaptureStream.{CaptureStream}

-- the frames that were captured and not read, as far as the reader saw
abbrev pub avail_of : CaptureStream → ℕ
avail_of c = unwrap_or c.seen 0 - c.next

-- the states of a capture stream: it never drains, and isn't paused or suspended
abbrev pub is_of_capture : State → Bool
is_of_capture Open = true
is_of_capture Setup = true
is_of_capture Prepared = true
is_of_capture Running = true
is_of_capture Xrun = true
is_of_capture Disconnected = true
is_of_capture other = false

-- a stream in RUNNING
abbrev pub is_running : State → Bool
is_running Running = true
is_running other = false

-- the counts are near each other, so that the frames available are given by pointers that wrap
pub record IsReady (c : CaptureStream) : Type 0 where
  pub buffer_least : 1 ≤ c.setup.config.buffer_size
  pub buffer_most : c.setup.config.buffer_size ≤ 16384
  pub captured : c.next ≤ unwrap_or c.seen 0
  pub near : unwrap_or c.seen 0 < 2 ^ 47

-- a reader that runs: its next frame is one of the ring's, and not past the position that it saw
pub record IsReading (c : CaptureStream) : Type 0 where
  pub least : first_frame c.geometry ≤ c.next
  pub most : c.next ≤ unwrap_or c.seen 0

-- what every reader keeps
pub record IsSoundReader (c : CaptureStream) : Type 0 where
  pub captures : is_of_capture c.status.state ≡ true
  pub seen : unwrap_or c.seen 0 ≤ end_frame c.geometry
  pub set_up : is_set_up c.status.state ≡ true → c.setup.configured ≡ true
  pub configured : c.setup.configured ≡ true → IsConfigured c.geometry c.setup
  pub reading : c.status.state ≡ Running → IsReading c

-- a port that a reader can use: it is one of the reader's ring, and has seen what the reader saw
pub record CanUse (c : CaptureStream) (v : SnoopView) : Type 0 where
  pub same_geometry : v.geometry ≡ c.geometry
  pub newer : unwrap_or c.seen 0 ≤ v.seen

-- the whole frames that some interleaved samples have room for
abbrev pub frames_in : CaptureStream → List ℤ → ℕ
frames_in c samples = length samples / length c.setup.bindings

-- room for whole frames, and not too many, where the reader is configured
pub record IsRoom (c : CaptureStream) (samples : List ℤ) : Type 0 where
  pub whole : length samples % length c.setup.bindings ≡ 0
  pub few : frames_in c samples ≤ 4194304

abbrev pub CanRead : CaptureStream → List ℤ → Type 0
CanRead c samples = c.setup.configured ≡ true → IsRoom c samples

-- the counts of a reader are near each other where a position was loaded, and after a call that went well
abbrev pub IsReadyAt : CaptureStream → Option Position → Type 0
IsReadyAt c None = ⊤
IsReadyAt c (Some position) = IsReady (record c { seen = Some position.frame })

abbrev pub IsReadyIf : {X : Type 0} → CaptureStream → Result X PcmError → Type 0
IsReadyIf c (Ok x) = IsReady c
IsReadyIf c (Err e) = ⊤

-- the room of a reader that is configured holds one frame of the card
abbrev pub HasRoom : CaptureStream → List ℤ → Type 0
HasRoom c room = c.setup.configured ≡ true → length room ≡ c.geometry.channels

-- a reader that runs, at a port that has loaded the position which the reader saw
pub record IsGoing (c : CaptureStream) (v : SnoopView) : Type 0 where
  pub running : c.status.state ≡ Running
  pub unstopped : c.status.stopped ≡ false
  pub same_geometry : v.geometry ≡ c.geometry
  pub saw : v.seen ≡ unwrap_or c.seen 0

-- a read of n frames loads the position: of a reader that runs, or where the start threshold is reached
abbrev pub LoadsFor : CaptureStream → ℕ → Type 0
LoadsFor c n = (is_running c.status.state ≡ true) ⊎ (c.setup.params.start_threshold ≤ n)

-- the calls that start a prepared reader, and those that sync one that runs
abbrev pub IsStart : Call → Type 0
IsStart call.Start = ⊤
IsStart call.Transfer = ⊤
IsStart other = ⊥

abbrev pub IsSync : Call → Type 0
IsSync call.Sync = ⊤
IsSync call.Transfer = ⊤
IsSync other = ⊥
