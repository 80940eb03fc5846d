-- Laws of software parameters: which answer they get is settled by the buffer size.
use Rattle.std.specs.Prelude.{◌≡◌, ℕ, Result, Ok, Err, refl}
use Rattle.std.proofs.Common.{arith, subst}
use Rattle.snd_base.specs.declared.errors.Why.{Why}
use Rattle.snd_base.specs.declared.errors.Why.TheVariants.{AvailMinZero, StartRange, StopRange}
use Rattle.sw_limits.specs.declared.params.SwParams.{SwParams}
use Rattle.sw_limits.specs.Boundary.{IsBoundary}
use Rattle.sw_limits.specs.BoundaryLaws.{IsBoundary-unique}
use Rattle.sw_limits.specs.Params.{IsVerdict}

-- no two answers are right for the same parameters and boundary
pub IsVerdict-unique : (r s : Result (Unit {0}) Why) (p : SwParams) (b : ℕ) → IsVerdict r p b → IsVerdict s p b → r ≡ s
IsVerdict-unique (Ok x) (Ok y) p b h g = refl
IsVerdict-unique (Ok x) (Err AvailMinZero) p b h g = absurd (omega (arith, h.avail_min, g))
IsVerdict-unique (Ok x) (Err StartRange) p b h g = absurd (g.1 h.start)
IsVerdict-unique (Ok x) (Err StopRange) p b h g = absurd (g.2 h.stop)
IsVerdict-unique (Ok x) (Err other) p b h g = absurd g
IsVerdict-unique (Err AvailMinZero) (Ok y) p b h g = absurd (omega (arith, h, g.avail_min))
IsVerdict-unique (Err AvailMinZero) (Err AvailMinZero) p b h g = refl
IsVerdict-unique (Err AvailMinZero) (Err StartRange) p b h g = absurd (omega (arith, h, g.0))
IsVerdict-unique (Err AvailMinZero) (Err StopRange) p b h g = absurd (omega (arith, h, g.0))
IsVerdict-unique (Err AvailMinZero) (Err other) p b h g = absurd g
IsVerdict-unique (Err StartRange) (Ok y) p b h g = absurd (h.1 g.start)
IsVerdict-unique (Err StartRange) (Err AvailMinZero) p b h g = absurd (omega (arith, h.0, g))
IsVerdict-unique (Err StartRange) (Err StartRange) p b h g = refl
IsVerdict-unique (Err StartRange) (Err StopRange) p b h g = absurd (h.1 g.1)
IsVerdict-unique (Err StartRange) (Err other) p b h g = absurd g
IsVerdict-unique (Err StopRange) (Ok y) p b h g = absurd (h.2 g.stop)
IsVerdict-unique (Err StopRange) (Err AvailMinZero) p b h g = absurd (omega (arith, h.0, g))
IsVerdict-unique (Err StopRange) (Err StartRange) p b h g = absurd (g.1 h.1)
IsVerdict-unique (Err StopRange) (Err StopRange) p b h g = refl
IsVerdict-unique (Err StopRange) (Err other) p b h g = absurd g
IsVerdict-unique (Err other) s p b h g = absurd h

-- what `check` says at some boundary of a buffer size holds at each
pub IsVerdict-at : (size b : ℕ) (r : Result (Unit {0}) Why) (p : SwParams)
    → ((c : ℕ) × IsBoundary size c × IsVerdict r p c) → IsBoundary size b → IsVerdict r p b
IsVerdict-at size b r p h boundary = let P : ℕ → Type 0 = IsVerdict r p in subst P (IsBoundary-unique size h.0 b h.1 boundary) h.2
