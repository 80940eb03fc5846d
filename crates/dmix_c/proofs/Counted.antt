-- A stream's channels are those of its configuration.
use Rattle.dmix_c.specs.Prelude.{ap, length, refl, ℕ, ◌∙◌, ◌≡◌, none-some, same_Some, Bool, false, if◌then◌else◌, None, Option, Some, true, Config, config_of}
use Rattle.dmix_c.specs.Prelude.{stream_channels}
use Rattle.pcm_stream.specs.declared.setup.Setup.{Setup}

-- of a stream with a configuration, which has as many channels as there are bindings
pub stream_channels-configured : (setup : Setup) (config : Config) → Some config ≡ config_of setup → (setup.configured ≡ true → setup.config.channels ≡ length setup.bindings)
    → config.channels ≡ stream_channels setup
stream_channels-configured setup config is same = by_test setup.configured is same
  where
    by_test : (test : Bool) → Some config ≡ (let found : Option Config = (if test then Some setup.config else None) in found)
        → (test ≡ true → setup.config.channels ≡ length setup.bindings) → config.channels ≡ (if test then length setup.bindings else 0)
    by_test true is same = ap (λ (c : Config). c.channels) (same_Some config setup.config is) ∙ same refl
    by_test false is same = absurd (cc)

-- and of one without
pub stream_channels-none : (setup : Setup) → None ≡ config_of setup → 0 ≡ stream_channels setup
stream_channels-none setup is = by_test setup.configured is
  where
    by_test : (test : Bool) → None ≡ (let found : Option Config = (if test then Some setup.config else None) in found) → (let n : ℕ = 0 in n) ≡ (if test then length setup.bindings else 0)
    by_test true is = absurd (none-some setup.config is)
    by_test false is = refl
