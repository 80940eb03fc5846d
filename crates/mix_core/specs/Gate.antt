-- What a gate's answers mean for its count of stops, and how its asks follow each other.
use Rattle.std.specs.Prelude.{ℕ, zero, suc, ◌+◌, List, [], ◌∷◌, ◌++◌, replicate, Result, Ok, Err}
use Rattle.snd_base.specs.declared.errors.PcmError.{PcmError}
use Rattle.mix_core.specs.declared.gate.StepKind.{StepKind}
use Rattle.mix_core.specs.declared.gate.StepKind.TheVariants.{Look, Exchange, Again}
use Rattle.mix_core.specs.declared.gate.Pass.{Pass}
use Rattle.mix_core.specs.declared.gate.Pass.TheVariants.{Go, Stop}

-- the count of stops after an answer: it stays at each `Go` and rises by one at each `Stop`
abbrev pub stops_after : Pass → ℕ → ℕ
stops_after Go n = n
stops_after Stop n = n + 1

-- the answer that an ask got, by what it was made into
abbrev pub pass_of : {X : Type 0} → Result X PcmError → Pass
pass_of (Ok x) = Go
pass_of (Err e) = Stop

-- no ask between a state and itself, and asks after asks of which the last was passed
pub record AsksCompose {T : Type 0} (asked : T → T → List StepKind → Pass → Type 0) : Type 0 where
  pub none : (g : T) → asked g g [] Go
  pub joined : (g h k : T) (xs ys : List StepKind) (last : Pass) → asked g h xs Go → asked h k ys last → asked g k (xs ++ ys) last

-- the first n asks of a placement or withdrawal: a look, an exchange, and then one `Again` for each further exchange
abbrev pub placement_asks : ℕ → List StepKind
placement_asks zero = []
placement_asks (suc zero) = Look ∷ []
placement_asks (suc (suc n)) = Look ∷ Exchange ∷ replicate n Again
