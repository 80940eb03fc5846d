-- What every opening keeps, whatever its line and its file: it fits the card.
use Rattle.std.specs.Prelude.{◌≡◌, ℕ, ◌<◌, ◌≤◌, All, length}
use Rattle.hw_space.specs.declared.config.Config.{Config}
use Rattle.sw_limits.specs.Boundary.{IsBoundary}
use Rattle.sw_limits.specs.Params.{IsValid}
use Rattle.lab_run.specs.Stage.{Setup}

-- what was chosen for so many channels: so many channels, no more than the card has, and a buffer within the ring
pub record IsConfigInRange (config : Config) (channels most ring : ℕ) : Type 0 where
  pub channels_are : config.channels ≡ channels
  pub few : config.channels ≤ most
  pub period_least : 16 ≤ config.period_size
  pub buffer_least : 32 ≤ config.buffer_size
  pub buffer_most : config.buffer_size ≤ ring

-- a stream can be set up so at a card with so many channels and a ring of so many frames
pub record IsUsable (channels ring : ℕ) (setup : Setup) : Type 0 where
  pub channels_are : length setup.bindings ≡ setup.config.channels
  pub on_card : All (λ channel. channel < channels) setup.bindings
  pub buffer_least : 1 ≤ setup.config.buffer_size
  pub buffer_most : setup.config.buffer_size ≤ 16384
  pub params : (b : ℕ) → IsBoundary setup.config.buffer_size b → IsValid setup.params b
  pub lead : setup.lead < ring
