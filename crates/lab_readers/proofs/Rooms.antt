-- The room that reads take, and the room that there is.
use Rattle.lab_readers.specs.Prelude.{arith, length, vec_capacity, vec_len, zero-mul, ℕ, ◌≤◌, div-mul-le_self, mul-le-mul_right, Vec, min, ℤ, ◌-◌}
use Rattle.lab_readers.specs.Prelude.{CaptureStream, most_read, Op, HasSpace, fitting_op, samples_wanted, spare_frames}
use Rattle.lab_lines.specs.declared.line.Op.TheVariants as op

-- there is room for what a line names of no more frames than there is room for
pub fitting-fits : (r : CaptureStream) (samples : Vec ℤ) (asked : Op) → HasSpace (samples_wanted r (fitting_op (spare_frames r samples) asked)) samples
fitting-fits r samples (op.Read n) =
    let channels : ℕ = length r.setup.bindings in
    let spare : ℕ = spare_frames r samples in
    let left : ℕ = vec_capacity samples - vec_len samples in
    let few : min (min n spare) (most_read r) ≤ spare = omega arith in
    let fits = mul-le-mul_right channels few in
    let whole = div-mul-le_self left channels in
    let inside = samples.ok.1 in
    omega (arith, fits, whole, inside)
fitting-fits r samples other = let inside = samples.ok.1 in let none = zero-mul (length r.setup.bindings) in omega (arith, inside, none)
