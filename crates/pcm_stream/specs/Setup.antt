-- What a stream is set up with, and which configurations it can run with.
use Rattle.std.specs.Prelude.{◌≡◌, ℕ, ◌<◌, ◌≤◌, true, false, if◌then◌else◌, List, All, length, Option, Some, None, Result, Ok, Err}
use Rattle.snd_base.specs.declared.errors.PcmError.{PcmError}
use Rattle.snd_base.specs.declared.errors.PcmError.TheVariants.{Invalid}
use Rattle.snd_base.specs.declared.geometry.Geometry.{Geometry}
use Rattle.bindings.specs.Bound.{AreBindings, identity}
use Rattle.hw_space.specs.declared.config.Config.{Config}
use Rattle.sw_limits.specs.declared.params.SwParams.{SwParams}
use Rattle.sw_limits.specs.Params.{IsVerdict}
use Rattle.pcm_stream.specs.declared.setup.Setup.{Setup}

-- the setup of a stream that isn't configured
abbrev pub no_setup : Setup
no_setup = record {
  configured = false;
  config = record { channels = 1; rate = 1; period_size = 1; buffer_size = 1; periods = 1 };
  bindings = identity 1;
  params = record { start_threshold = 1; stop_threshold = 1; avail_min = 1 };
}

-- the software parameters that a configuration begins with
abbrev pub default_params : Config → SwParams
default_params config = record { start_threshold = 1; stop_threshold = config.buffer_size; avail_min = config.period_size }

-- the setup with a configuration and bindings
abbrev pub setup_with : Config → List ℕ → Setup
setup_with config bindings = record { configured = true; config = config; bindings = bindings; params = default_params config }

-- the configuration, where there is one
abbrev pub config_of : Setup → Option Config
config_of setup = if setup.configured then Some setup.config else None

-- the setup without its configuration
abbrev pub without_config : Setup → Setup
without_config setup = record setup { configured = false }

-- the setup with other software parameters
abbrev pub with_params : Setup → SwParams → Setup
with_params setup params = record setup { params = params }

-- an answer says of software parameters that they are valid, or which of their defects is the first
abbrev pub Checks : Result (Unit {0}) PcmError → SwParams → ℕ → Type 0
Checks (Ok done) params boundary = IsVerdict (Ok done) params boundary
Checks (Err (Invalid why)) params boundary = IsVerdict (Err why) params boundary
Checks (Err other) params boundary = ⊥

-- a stream at a ring can run with a configuration and bindings
pub record CanRunWith (g : Geometry) (config : Config) (bindings : List ℕ) : Type 0 where
  pub channels : config.channels ≡ length bindings
  pub on_card : All (λ channel. channel < g.channels) bindings
  pub buffer_least : 1 ≤ config.buffer_size
  pub buffer_most : config.buffer_size ≤ 16384

-- a stream at a ring can run with what it is set up with, and its thresholds are at least one frame
pub record IsConfigured (g : Geometry) (setup : Setup) : Type 0 where
  pub bound : AreBindings setup.bindings
  pub runs : CanRunWith g setup.config setup.bindings
  pub starts : 1 ≤ setup.params.start_threshold
  pub stops : 1 ≤ setup.params.stop_threshold
