-- A write of a client or a read of a reader, by what was tested before it.
use Rattle.dmix_c.specs.Prelude.{ap, ℕ, ◌∙◌, ◌≡◌, Err, None, Option, Result, Some, PcmError, Invalid, not-both, same-refusal}
use Rattle.snd_base.specs.declared.errors.Why.TheVariants.{Config}
use Rattle.dmix_c.specs.Transfers.{Transfers}

module _ (refusal : Option PcmError) (Fits Same Moves : Type 0) (made : Result ℕ PcmError) where
  pub Transfers-refused : (e : PcmError) → refusal ≡ Some e → made ≡ Err e → Same → Transfers refusal Fits Same Moves made
  Transfers-refused e some is same = record {
    refused = λ f found. (is ∙ ap (λ (x : PcmError). let r : Result ℕ PcmError = Err x in r) (same-refusal refusal e f some found), same);
    defect = λ none unfit. absurd (not-both refusal e some none);
    moves = λ none fits. absurd (not-both refusal e some none);
  }

  pub Transfers-invalid : refusal ≡ None → (Fits → ⊥) → made ≡ Err (Invalid Config) → Same → Transfers refusal Fits Same Moves made
  Transfers-invalid none unfit is same = record {
    refused = λ e some. absurd (not-both refusal e some none);
    defect = λ admitted other. (is, same);
    moves = λ admitted fits. absurd (unfit fits);
  }

  pub Transfers-done : refusal ≡ None → Fits → Moves → Transfers refusal Fits Same Moves made
  Transfers-done none fits moved = record {
    refused = λ e some. absurd (not-both refusal e some none);
    defect = λ admitted unfit. absurd (unfit fits);
    moves = λ admitted other. moved;
  }
