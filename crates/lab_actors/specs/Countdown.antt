-- A gate that counts a `die` down in front of an actor's own gate.
use Rattle.std.specs.Prelude.{◌≡◌, ℕ, ◌+◌, ◌⊎◌, List, [], ◌∷◌, Option}
use Rattle.mix_core.specs.declared.gate.Pass.{Pass}
use Rattle.mix_core.specs.declared.gate.Pass.TheVariants.{Go, Stop}
use Rattle.mix_core.specs.declared.gate.StepKind.{StepKind}
use Rattle.mix_core.specs.Laid.{without_last}
use Rattle.lab_run.specs.GateAsks.{HasAsked}
use Rattle.lab_run.specs.PortSteps.{IsAnswered, ask_count, with_gate}
use Rattle.lab_run.specs.Rules.{AtPort}
use Rattle.lab_actors.specs.declared.countdown.Countdown.{Countdown}

-- how many asks a `die` lets pass yet
abbrev pub left_of : {G L : Type 0} → Countdown G L → Option ℕ
left_of c = c.left

-- how often the actor's own gate stopped it
abbrev pub by_gate_of : {G L : Type 0} → (G → ℕ) → Countdown G L → ℕ
by_gate_of stops c = stops c.gate.now

-- all stops: those of the own gate, and those of a `die`
abbrev pub all_stops : {G L : Type 0} → (G → ℕ) → Countdown G L → ℕ
all_stops stops c = stops c.gate.now + c.tally.deaths

-- how many asks came to the own gate, but for those of kind Again
abbrev pub at_gate_of : {G L : Type 0} → Countdown G L → ℕ
at_gate_of c = c.tally.asks

-- the own gate is behind the same reference
abbrev pub IsSameGate : {G L : Type 0} → Countdown G L → Countdown G L → Type 0
IsSameGate c d = d.gate.ghost_name ≡ c.gate.ghost_name

-- asks are answered as a run has it; after none there is no stop
abbrev pub Answers : {T : Type 0} → (T → Option ℕ) → (T → ℕ) → (T → ℕ) → T → T
    → List StepKind → Pass → Type 0
Answers left by_gate at_gate g h [] Stop = ⊥
Answers left by_gate at_gate g h [] Go =
    (a : AtPort) → IsAnswered [] Go (with_gate left by_gate at_gate g a)
    (with_gate left by_gate at_gate h a)
Answers left by_gate at_gate g h (kind ∷ kinds) pass =
    (a : AtPort) → IsAnswered (kind ∷ kinds) pass (with_gate left by_gate at_gate g a)
    (with_gate left by_gate at_gate h a)

-- some asks came to the own gate, which answered the last of them so; they are counted but for those of kind Again
pub record CameOn {G L : Type 0} (asked : G → G → List StepKind → Pass → Type 0)
    (c d : Countdown G L) (kinds : List StepKind) (pass : Pass) : Type 0 where
  pub asked_it : asked c.gate.now d.gate.now kinds pass
  pub count_is : at_gate_of d ≡ at_gate_of c + ask_count kinds

-- which of some asks came to the own gate: all of them; or all but the last, which a `die` stopped
abbrev pub PassesOn : {G L : Type 0} → (G → G → List StepKind → Pass → Type 0)
    → Countdown G L → Countdown G L → List StepKind → Pass → Type 0
PassesOn asked c d kinds Go = CameOn asked c d kinds Go
PassesOn asked c d kinds Stop = CameOn asked c d kinds Stop ⊎ CameOn asked c d (without_last kinds) Go

-- what asks did: they were answered as a run has it, and came to the own gate
pub record CountsAsks {G L : Type 0} (stops : G → ℕ)
    (asked : G → G → List StepKind → Pass → Type 0) (c d : Countdown G L)
    (kinds : List StepKind) (pass : Pass) : Type 0 where
  pub same_gate : IsSameGate c d
  pub answers : Answers left_of (by_gate_of stops) at_gate_of c d kinds pass
  pub own : PassesOn asked c d kinds pass

-- the own gate is behind the same reference, and was asked as often as is counted
pub record KeepsGate {G L : Type 0} (asked : G → G → List StepKind → Pass → Type 0)
    (c d : Countdown G L) : Type 0 where
  pub same_gate : IsSameGate c d
  pub more : ℕ
  pub asked_it : HasAsked asked c.gate.now d.gate.now more
  pub count_is : at_gate_of d ≡ at_gate_of c + more
