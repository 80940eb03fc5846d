-- What an answer says of the gate: it stopped the call exactly where the answer is `Stopped`.
use Rattle.std.specs.Prelude.{◌≡◌, ℕ, Result, Ok, Err}
use Rattle.snd_base.specs.declared.errors.PcmError.{PcmError}
use Rattle.snd_base.specs.declared.errors.PcmError.TheVariants.{Stopped}
use Rattle.mix_core.specs.declared.gate.Pass.{Pass}
use Rattle.mix_core.specs.declared.gate.Pass.TheVariants.{Go, Stop}
use Rattle.mix_core.specs.Gate.{stops_after}

-- the answer to the last ask of a call that took its steps, by the call's own answer
abbrev pub pass_in : PcmError → Pass
pass_in Stopped = Stop
pass_in other = Go

abbrev pub pass_by : {X : Type 0} → Result X PcmError → Pass
pass_by (Ok x) = Go
pass_by (Err e) = pass_in e

-- the gate's count of stops rose by one where the answer is `Stopped`, and else it stayed
abbrev pub CountsStop : {X : Type 0} → Result X PcmError → ℕ → ℕ → Type 0
CountsStop answer before after = after ≡ stops_after (pass_by answer) before
