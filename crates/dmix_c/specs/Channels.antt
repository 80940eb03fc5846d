-- How many samples a frame has that a call passes, by what a handle stands for.
use Rattle.std.specs.Prelude.{ℕ, if◌then◌else◌, length, Option, None, Some}
use Rattle.pcm_stream.specs.declared.setup.Setup.{Setup}
use Rattle.card_player.specs.Plays.{geometry_of}
use Rattle.card_sim.specs.Runs.{player_of}
use Rattle.dmix_c.specs.declared.opened.Opened.{Opened}
use Rattle.dmix_c.specs.declared.opened.Opened.TheVariants.{Card, Client, Duplex, Reader, Ring}

-- a stream's channels, by which its calls count samples as frames: as many as it has bindings, and none while it isn't configured
abbrev pub stream_channels : Setup → ℕ
stream_channels setup = if setup.configured then length setup.bindings else 0

-- a client's or a reader's channels, and the channels of the ring of a card; no frames are passed to a ring
abbrev pub channels_of : Opened → ℕ
channels_of (Ring r) = 0
channels_of (Client p) = stream_channels p.client.stream.setup
channels_of (Reader p) = stream_channels p.reader.setup
channels_of (Card c) = (geometry_of c.player).channels
channels_of (Duplex c) = (geometry_of (player_of c.card)).channels

-- the channels of what a handle stands for, and 0 while it is closed
abbrev pub channels_held : Option Opened → ℕ
channels_held None = 0
channels_held (Some opened) = channels_of opened
