-- A write of a client or a read of a reader, by the state table first, then by its samples.
use Rattle.std.specs.Prelude.{◌≡◌, ℕ, Option, None, Some, Result, Err}
use Rattle.snd_base.specs.declared.errors.PcmError.{PcmError}
use Rattle.snd_base.specs.declared.errors.PcmError.TheVariants.{Invalid}
use Rattle.snd_base.specs.declared.errors.Why.TheVariants.{Config}

-- a stream moved frames; or it refused to, with nothing changed: by its state, or since the samples are no whole frames, or too many
pub record Transfers (refusal : Option PcmError) (Fits Same Moves : Type 0) (made : Result ℕ PcmError) : Type 0 where
  pub refused : (e : PcmError) → refusal ≡ Some e → (made ≡ Err e) × Same
  pub defect : refusal ≡ None → (Fits → ⊥) → (made ≡ Err (Invalid Config)) × Same
  pub moves : refusal ≡ None → Fits → Moves
