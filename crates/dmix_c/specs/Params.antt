-- The parameters that C passes, and which of them a ring or a stream can have.
use Rattle.std.specs.Prelude.{◌≡◌, ℕ, ◌/◌, ◌<◌, ◌≤◌, List, [], ◌∷◌, min, take}
use Rattle.snd_base.specs.declared.geometry.Geometry.{Geometry}
use Rattle.hw_space.specs.declared.config.Config.{Config}
use Rattle.sw_limits.specs.declared.params.SwParams.{SwParams}
use Rattle.dmix_c.specs.declared.params.RingParams.{RingParams}
use Rattle.dmix_c.specs.declared.params.StreamHwParams.{StreamHwParams}
use Rattle.dmix_c.specs.declared.params.StreamSwParams.{StreamSwParams}

-- a ring can be made of these
pub record CanOpen (p : RingParams) : Type 0 where
  pub channels_least : 1 ≤ p.channels
  pub channels_most : p.channels ≤ 8
  pub rate_least : 1 ≤ p.rate
  pub buffer_least : 64 ≤ p.buffer_size
  pub buffer_most : p.buffer_size ≤ 16384
  pub period_least : 1 ≤ p.period_size
  pub period_most : p.period_size < p.buffer_size
  pub clients_least : 1 ≤ p.clients
  pub clients_most : p.clients ≤ 64

-- the geometry of a ring of these, which begins in lap 0
pub record IsGeometryOf (p : RingParams) (g : Geometry) : Type 0 where
  pub frames : g.frames ≡ p.buffer_size
  pub channels : g.channels ≡ p.channels
  pub first_lap : g.first_lap ≡ 0

-- the configuration of a stream with these, which has as many whole periods as the buffer has room for
abbrev pub config_with : StreamHwParams → Config
config_with p = record {
  channels = p.channels;
  rate = p.rate;
  period_size = p.period_size;
  buffer_size = p.buffer_size;
  periods = p.buffer_size / p.period_size;
}

-- a stream of so many channels at a ring of this rate can be configured with these
pub record CanConfigure (rate channels : ℕ) (p : StreamHwParams) : Type 0 where
  pub same_rate : p.rate ≡ rate
  pub same_channels : p.channels ≡ channels
  pub period_least : 1 ≤ p.period_size
  pub period_most : p.period_size ≤ p.buffer_size
  pub buffer_most : p.buffer_size ≤ 16384

-- the thresholds of these
abbrev pub thresholds_of : StreamSwParams → SwParams
thresholds_of p = record { start_threshold = p.start_threshold; stop_threshold = p.stop_threshold; avail_min = p.avail_min }

-- the first channels of a card, 8 at most
abbrev pub first_channels : ℕ → List ℕ
first_channels n = take (min n 8) (0 ∷ 1 ∷ 2 ∷ 3 ∷ 4 ∷ 5 ∷ 6 ∷ 7 ∷ [])
