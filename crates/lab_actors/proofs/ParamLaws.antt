-- The software parameters of a line are valid.
use Rattle.lab_actors.specs.Prelude.{arith, ℕ, ◌≡◌, ◌≤◌, Err, None, Option, Some, Invalid, Config, Stop, IsIn, IsStopWhere, AreParams, IsStop}
use Rattle.snd_base.specs.declared.errors.PcmError.{PcmError}
use Rattle.snd_base.specs.declared.errors.Why.TheVariants.{AvailMinZero, StartRange, StopRange}
use Rattle.sw_limits.specs.declared.params.SwParams.{SwParams}
use Rattle.sw_limits.specs.Boundary.{IsBoundary}
use Rattle.sw_limits.specs.BoundaryLaws.{IsBoundary-last, IsBoundary-unique}
use Rattle.sw_limits.specs.Params.{IsInRange, IsValid}
use Rattle.pcm_stream.specs.Setup.{Checks}
use Rattle.lab_lines.specs.declared.script.Stop.TheVariants.{At, Never}

-- the boundary of a buffer of at most 16384 frames is past every threshold of a line
IsBoundary-far : (size b : ℕ) → 1 ≤ size → size ≤ 16384 → IsBoundary size b → 65536 ≤ b
IsBoundary-far size b some few is = omega (arith, IsBoundary-last size b some is)

IsStop-IsInRange : (config : Config) (o : Option Stop) (stop b : ℕ) → 1 ≤ config.buffer_size → config.buffer_size ≤ 16384
    → IsStopWhere o → IsStop config o stop → IsBoundary config.buffer_size b → IsInRange stop b
IsStop-IsInRange config None stop b some few ranged is boundary =
    let far = IsBoundary-far config.buffer_size b some few boundary in
    record { least = omega arith; most = omega arith }
IsStop-IsInRange config (Some (At frames)) stop b some few ranged is boundary =
    let far = IsBoundary-far config.buffer_size b some few boundary in
    record { least = omega arith; most = omega arith }
IsStop-IsInRange config (Some Never) stop b some few ranged is boundary =
    let far = IsBoundary-far config.buffer_size b some few boundary in
    let same : stop ≡ b = IsBoundary-unique config.buffer_size stop b is boundary in
    record { least = omega arith; most = omega arith }

pub AreParams-IsValid : (config : Config) (start : ℕ) (stop : Option Stop) (params : SwParams) → AreParams config start stop params
    → IsIn 1 65536 start → IsStopWhere stop → 1 ≤ config.period_size → 1 ≤ config.buffer_size → config.buffer_size ≤ 16384
    → (b : ℕ) → IsBoundary config.buffer_size b → IsValid params b
AreParams-IsValid config start stop params are starts stops period some few b boundary =
    let far = IsBoundary-far config.buffer_size b some few boundary in
    record {
      avail_min = omega (arith, are.avail_min);
      start = record { least = omega (arith, are.start, starts.low); most = omega (arith, are.start, starts.high) };
      stop = IsStop-IsInRange config stop params.stop_threshold b some few stops are.stop boundary;
    }

-- valid parameters have no defect
pub Checks-valid : (params : SwParams) (boundary : ℕ) (e : PcmError) → IsValid params boundary → Checks (Err e) params boundary → ⊥
Checks-valid params boundary (Invalid AvailMinZero) valid is = omega (arith, valid.avail_min, is)
Checks-valid params boundary (Invalid StartRange) valid is = is.1 valid.start
Checks-valid params boundary (Invalid StopRange) valid is = is.2 valid.stop
Checks-valid params boundary e valid is = is
