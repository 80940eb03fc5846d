-- The numbers and names of the states of a PCM stream, as alsa/pcm.h and alsa-lib have them.
use Rattle.std.specs.Prelude.{ℕ, List, codes}
use Rattle.pcm_states.specs.declared.states.State.{State}
use Rattle.pcm_states.specs.declared.states.State.TheVariants.{Open, Setup, Prepared, Running, Xrun, Draining, Paused, Suspended, Disconnected}

-- the number of a state in `snd_pcm_state_t`
abbrev pub state_number : State → ℕ
state_number Open = 0
state_number Setup = 1
state_number Prepared = 2
state_number Running = 3
state_number Xrun = 4
state_number Draining = 5
state_number Paused = 6
state_number Suspended = 7
state_number Disconnected = 8

-- the name of a state, as `snd_pcm_state_name` gives it
abbrev pub state_name : State → List ℕ
state_name Open = codes "OPEN"
state_name Setup = codes "SETUP"
state_name Prepared = codes "PREPARED"
state_name Running = codes "RUNNING"
state_name Xrun = codes "XRUN"
state_name Draining = codes "DRAINING"
state_name Paused = codes "PAUSED"
state_name Suspended = codes "SUSPENDED"
state_name Disconnected = codes "DISCONNECTED"
