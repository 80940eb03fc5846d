-- What contracts see of a client: how it is at a moment, and the samples in its local ring.
use Rattle.std.specs.Prelude.{◌≡◌, ℕ, ◌+◌, ◌-◌, ◌*◌, ◌%◌, ◌^◌, ◌<◌, ◌≤◌, true, false, if◌then◌else◌, min, ℤ, pos, List, All, length, slice_index_or, Option, None, Some, ⊤, unwrap_or}
use Rattle.snd_base.specs.declared.geometry.Geometry.{Geometry}
use Rattle.snd_base.specs.Places.{end_frame}
use Rattle.mix_core.specs.declared.port.Position.{Position}
use Rattle.bindings.specs.Bound.{AreBindings}
use Rattle.pcm_states.specs.declared.states.State.TheVariants as state
use Rattle.pcm_stream.specs.Status.{is_moving, is_set_up}
use Rattle.pcm_stream.specs.declared.setup.Setup.{Setup}
use Rattle.dmix_client.specs.declared.stream.PlaybackStream.{PlaybackStream}
use Rattle.dmix_client.specs.declared.stream.Stretch.{Stretch}

-- a client: its counts and settings, and its local ring, in which frame j is in slot `source + j` mod the buffer size
pub record ClientView : Type 0 where
  pub stream : PlaybackStream
  pub ring : List ℤ

-- the frames of a stretch that the card has played, as far as a position shows it: 0 before it starts
abbrev pub played_of_stretch : Stretch → Option ℕ → ℕ
played_of_stretch stretch seen = if stretch.started then unwrap_or seen 0 - stretch.card else 0

-- the frames that the card has played since the client's start, as far as the client saw
abbrev pub hw_of : PlaybackStream → ℕ
hw_of c = played_of_stretch c.stretch c.seen

-- the frames that a write can take: a buffer, less what is written and not played; it may exceed the buffer
abbrev pub avail_of : PlaybackStream → ℕ
avail_of c = c.setup.config.buffer_size + hw_of c - c.stretch.written

-- the frames that are written and not played
abbrev pub queued_of : PlaybackStream → ℕ
queued_of c = c.stretch.written - hw_of c

-- the client's channels
abbrev pub channels_of : PlaybackStream → ℕ
channels_of c = length c.setup.bindings

-- the counts are near each other, so that the frames available are given by pointers that wrap
pub record IsReady (c : PlaybackStream) : Type 0 where
  pub buffer_least : 1 ≤ c.setup.config.buffer_size
  pub buffer_most : c.setup.config.buffer_size ≤ 16384
  pub fits : c.stretch.written ≤ hw_of c + c.setup.config.buffer_size
  pub near : hw_of c < 2 ^ 47

-- where a position was loaded, they are near each other then
abbrev pub IsReadyAt : PlaybackStream → Option Position → Type 0
IsReadyAt c None = ⊤
IsReadyAt c (Some position) = IsReady (record c { seen = Some position.frame })

-- a client at a ring can run with what it is set up with, and its local ring has room for the buffer
pub record RunsWith (g : Geometry) (setup : Setup) (ring : List ℤ) : Type 0 where
  pub bound : AreBindings setup.bindings
  pub on_card : All (λ channel. channel < g.channels) setup.bindings
  pub channels : setup.config.channels ≡ length setup.bindings
  pub buffer_least : 1 ≤ setup.config.buffer_size
  pub buffer_most : setup.config.buffer_size ≤ 16384
  pub room : length ring ≡ setup.config.buffer_size * length setup.bindings

-- a configuration that a client can run with
abbrev pub IsConfigured : PlaybackStream → List ℤ → Type 0
IsConfigured c ring = RunsWith c.identity.geometry c.setup ring

-- how far a stretch is that was started: all whole frames up to one are placed, and what isn't played fits the buffer, and so does
-- what is pending
pub record IsUnderWay (stretch : Stretch) (seen : Option ℕ) (buffer_size : ℕ) : Type 0 where
  pub started : stretch.started ≡ true
  pub whole : stretch.part ≡ 0
  pub laid_most : stretch.committed ≤ stretch.written
  pub fits : stretch.written ≤ played_of_stretch stretch seen + buffer_size
  pub pending : stretch.written ≤ stretch.committed + buffer_size

-- how far a client is that moves frames or is paused
abbrev pub IsMoving : PlaybackStream → Type 0
IsMoving c = IsUnderWay c.stretch c.seen c.setup.config.buffer_size

-- the frames that are played, as far as the client saw, are placed: so it is after each sync that goes on
abbrev pub IsLaidPast : PlaybackStream → Type 0
IsLaidPast c = min c.stretch.written (hw_of c) ≤ c.stretch.committed

-- a client that wasn't stopped, and moves frames unless it is at its end
pub record IsGoing (c : PlaybackStream) : Type 0 where
  pub unstopped : c.status.stopped ≡ false
  pub moves : (c.status.state ≡ state.Setup → ⊥) → is_moving c.status.state ≡ true

-- a stretch that waits for its start: nothing is placed, and what is written fits the buffer
pub record IsWaiting (stretch : Stretch) (buffer_size : ℕ) : Type 0 where
  pub waiting : stretch.started ≡ false
  pub no_frame : stretch.committed ≡ 0
  pub no_part : stretch.part ≡ 0
  pub fits : stretch.written ≤ buffer_size

-- a client that is prepared
abbrev pub IsPrepared : PlaybackStream → Type 0
IsPrepared c = IsWaiting c.stretch c.setup.config.buffer_size

-- what every client keeps
pub record IsSoundClient (c : PlaybackStream) (ring : List ℤ) : Type 0 where
  pub lead : c.identity.lead < c.identity.geometry.frames
  pub seen : unwrap_or c.seen 0 ≤ end_frame c.identity.geometry
  pub card : c.stretch.card ≤ end_frame c.identity.geometry + c.identity.geometry.frames
  pub fed : c.stretch.written + c.stretch.source ≡ c.fed
  pub laid : c.stretch.card + c.stretch.committed
      ≤ end_frame c.identity.geometry + c.identity.geometry.frames
  pub set_up : is_set_up c.status.state ≡ true → c.setup.configured ≡ true
  pub configured : c.setup.configured ≡ true → IsConfigured c ring
  pub prepared : c.status.state ≡ state.Prepared → IsPrepared c
  pub moving : is_moving c.status.state ≡ true → c.status.stopped ≡ false → IsMoving c
  pub paused : c.status.state ≡ state.Paused → IsMoving c

-- the sample of a client channel in the frame that begins at a slot of the local ring
abbrev pub slot_sample : List ℤ → ℕ → ℕ → ℤ
slot_sample ring slot channel = slice_index_or ring (slot + channel) (pos 0)

-- the sample of a frame and client channel in the local ring
abbrev pub ring_sample : PlaybackStream → List ℤ → ℕ → ℕ → ℤ
ring_sample c ring frame channel =
    slice_index_or ring ((c.stretch.source + frame) % c.setup.config.buffer_size * channels_of
    c + channel) (pos 0)
