-- How a stream, a client's or a reader's, is set up with hardware parameters.
use Rattle.std.specs.Prelude.{◌≡◌, ℕ, ◌⊎◌, List, length, Option, None, Some, Result, Ok, Err, OnErr, OnOk}
use Rattle.snd_base.specs.declared.errors.PcmError.{PcmError}
use Rattle.snd_base.specs.declared.errors.PcmError.TheVariants.{Invalid, Memory}
use Rattle.snd_base.specs.declared.errors.Why.{Why}
use Rattle.snd_base.specs.declared.geometry.Geometry.{Geometry}
use Rattle.bindings.specs.Answers.{answer_of}
use Rattle.dmix_c.specs.declared.params.StreamHwParams.{StreamHwParams}
use Rattle.dmix_c.specs.Params.{CanConfigure}

-- the bindings of a list are those of a stream that can be configured
pub record CanSetUp (g : Geometry) (rate : ℕ) (params : StreamHwParams) (list : List ℕ) : Type 0 where
  pub bindings : List ℕ
  pub bound : answer_of list g.channels ≡ Ok bindings
  pub runs : CanConfigure rate (length bindings) params

-- a stream was set up with parameters and bindings, after which it is as `after` says, and answers 0; or it refused them: by its state, as
-- invalid exactly where it can't be set up with them, or for memory
pub record SetsUp {X : Type 0} (refusal : Option PcmError) (after : List ℕ → X) (g : Geometry) (rate : ℕ)
    (params : StreamHwParams) (list : List ℕ) (c d : X) (made : Result ℕ PcmError) : Type 0 where
  pub refused : (e : PcmError) → refusal ≡ Some e → made ≡ Err e
  pub invalid : refusal ≡ None → (CanSetUp g rate params list → ⊥) → (why : Why) × (made ≡ Err (Invalid why))
  pub set : refusal ≡ None → CanSetUp g rate params list → (made ≡ Ok 0) ⊎ (made ≡ Err Memory)
  pub done : OnOk made ((made ≡ Ok 0) × ((can : CanSetUp g rate params list) × (d ≡ after can.bindings)))
  pub kept : OnErr made (d ≡ c)
