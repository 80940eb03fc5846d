-- Which software parameters are valid, and what each answer says of them.
use Rattle.std.specs.Prelude.{◌≡◌, ℕ, ◌<◌, ◌≤◌, Result, Ok, Err}
use Rattle.snd_base.specs.declared.errors.Why.{Why}
use Rattle.snd_base.specs.declared.errors.Why.TheVariants.{AvailMinZero, StartRange, StopRange}
use Rattle.sw_limits.specs.declared.params.SwParams.{SwParams}

-- a threshold is from 1 to the boundary
pub record IsInRange (threshold boundary : ℕ) : Type 0 where
  pub least : 1 ≤ threshold
  pub most : threshold ≤ boundary

-- the parameters have no defect
pub record IsValid (p : SwParams) (boundary : ℕ) : Type 0 where
  pub avail_min : 0 < p.avail_min
  pub start : IsInRange p.start_threshold boundary
  pub stop : IsInRange p.stop_threshold boundary

-- what an answer says of the parameters: `Ok` that they are valid, and an error that its defect is the first of three
abbrev pub IsVerdict : Result (Unit {0}) Why → SwParams → ℕ → Type 0
IsVerdict (Ok done) p b = IsValid p b
IsVerdict (Err AvailMinZero) p b = p.avail_min ≡ 0
IsVerdict (Err StartRange) p b = (0 < p.avail_min) × ¬ IsInRange p.start_threshold b
IsVerdict (Err StopRange) p b = (0 < p.avail_min) × IsInRange p.start_threshold b × ¬ IsInRange p.stop_threshold b
IsVerdict (Err other) p b = ⊥
