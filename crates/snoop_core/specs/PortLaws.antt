-- Looks that follow each other.
use Rattle.std.specs.Prelude.{◌≡◌, ℕ, ◌+◌, List, [], ◌∷◌, ◌++◌, replicate}
use Rattle.std.proofs.Common.{subst}
use Rattle.std.proofs.lemmas.List.{replicate-append-replicate}
use Rattle.mix_core.specs.declared.gate.Pass.{Pass}
use Rattle.mix_core.specs.declared.gate.Pass.TheVariants.{Go}
use Rattle.mix_core.specs.declared.gate.StepKind.{StepKind}
use Rattle.mix_core.specs.declared.gate.StepKind.TheVariants.{Look}
use Rattle.mix_core.specs.Gate.{AsksCompose}

-- one more look
pub looks-more : (c : ℕ) → replicate c Look ++ Look ∷ [] ≡ replicate (c + 1) Look
looks-more c = replicate-append-replicate c 1 Look

pub asked-more : {T : Type 0} (asked : T → T → List StepKind → Pass → Type 0) → AsksCompose asked → (g h k : T) (c : ℕ) (last : Pass)
    → asked g h (replicate c Look) Go → asked h k (Look ∷ []) last → asked g k (replicate (c + 1) Look) last
asked-more asked composes g h k c last first then =
    subst (λ ks. asked g k ks last) (looks-more c) (composes.joined g h k (replicate c Look) (Look ∷ []) last first then)
