-- The frames before the end of a ring are those whose lap a word can have.
use Rattle.std.proofs.Common.{◌≡◌, ℕ, zero, ◌<◌, ◌≤◌, arith}
use Rattle.std.proofs.Math.Nat.{div-lt_iff_lt-mul}
use Rattle.snd_base.specs.declared.geometry.Geometry.{Geometry}
use Rattle.snd_base.specs.Places.{end_frame, lap}

pub end_frame-above : (g : Geometry) (f : ℕ) → f ≤ end_frame g → (lap g f ≡ 4294967295 → ⊥) → f < end_frame g
end_frame-above g f most not_last =
    let some_frames : zero < g.frames = omega (arith, g.frames_least) in
    let below : lap g f < 4294967296 = (div-lt_iff_lt-mul {k = g.frames} {x = f} {y = 4294967296} some_frames).1 (omega (arith, most, some_frames)) in
    let lower : lap g f < 4294967295 = omega (arith, below, not_last) in
    (div-lt_iff_lt-mul {k = g.frames} {x = f} {y = 4294967295} some_frames).0 lower
