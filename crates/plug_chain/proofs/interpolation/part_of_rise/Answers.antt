use Rattle.plug_chain.specs.Prelude.{ap, arith, pos, refl, rules, ◌*◌, ◌+◌, ◌/◌, ◌∙◌, ◌≡◌, ◌≤◌, div-le_self, ints, to_z-of_z, div_ceil, w64, unsigned_abs, ◌-ℤ◌}
use Rattle.plug_chain.specs.Prelude.{◌<ℤ◌, ◌≤ℤ◌, of_z, to_z}
use Rattle.plug_chain.proofs.Lines.{div_euclid-fall, div_euclid-rise, size-most}
use Rattle.plug_chain.proofs.interpolation.part_of_rise.Goals as goal

-- a size that is rounded up, of the arguments
ceil_is : (c : goal.After-div_ceil) → c.div_ceil.result ≡ div_ceil (unsigned_abs c.args.rise * c.args.part) c.args.parts
ceil_is c = rw (c.div_ceil.ensures, c.unsigned_abs.ensures.value, to_z-of_z w64 c.args.rise c.ranges.rise, c.from.ensures, c.from-then-rise-lt0.ensures) refl

ceil_small : (c : goal.After-div_ceil) → c.div_ceil.result ≤ 65535 * 4294967296 + 1
ceil_small c =
    let most = size-most c.args.rise (unsigned_abs c.args.rise) c.args.part c.args.part c.requires.rise refl refl (let part = c.ranges.part.fits in omega (arith, part)) in
    omega (arith, ceil_is c, most, div-le_self (unsigned_abs c.args.rise * c.args.part) c.args.parts)

pub overflow_cast-result : goal.overflow_cast-result
overflow_cast-result c = record { sfits = omega (arith, ceil_small c) }

pub overflow_sub-result : goal.overflow_sub-result
overflow_sub-result c = let small = ceil_small c in omega (arith, ints)

pub returns-then-rise-lt0 : goal.returns-then-rise-lt0
returns-then-rise-lt0 c =
    let small = ceil_small c in
    let whole : to_z w64 (of_z w64 (pos 0 -ℤ to_z w64 c.div_ceil.result)) ≡ pos 0 -ℤ pos c.div_ceil.result = omega (arith, ints) in
    let falls : c.args.rise <ℤ pos 0 = first_of (grind (arith, ints), search rules, omega (arith, ints)) in
    whole ∙ div_euclid-fall c.args.rise c.args.part c.args.parts c.div_ceil.result falls c.requires.some (ceil_is c)

pub overflow_mul-size : goal.overflow_mul-size
overflow_mul-size c =
    let most = size-most c.args.rise c.unsigned_abs.result c.from.result c.args.part c.requires.rise (c.unsigned_abs.ensures.value ∙ ap unsigned_abs (to_z-of_z w64 c.args.rise c.ranges.rise)) c.from.ensures (let part = c.ranges.part.fits in omega (arith, part)) in
    record { fits = omega (arith, most) }

-- a size that is rounded down
floor_small : (c : goal.After-from-else-rise-lt0) → c.unsigned_abs.result * c.from.result / c.from-else-rise-lt0.result ≤ 65535 * 4294967296
floor_small c =
    let most = size-most c.args.rise c.unsigned_abs.result c.from.result c.args.part c.requires.rise (c.unsigned_abs.ensures.value ∙ ap unsigned_abs (to_z-of_z w64 c.args.rise c.ranges.rise)) c.from.ensures (let part = c.ranges.part.fits in omega (arith, part)) in
    omega (arith, most, div-le_self (c.unsigned_abs.result * c.from.result) c.from-else-rise-lt0.result)

pub overflow_cast-result-else-rise-lt0 : goal.overflow_cast-result-else-rise-lt0
overflow_cast-result-else-rise-lt0 c = record { sfits = omega (arith, floor_small c) }

pub returns-else-rise-lt0 : goal.returns-else-rise-lt0
returns-else-rise-lt0 c =
    let is : c.unsigned_abs.result * c.from.result / c.from-else-rise-lt0.result ≡ unsigned_abs c.args.rise * c.args.part / c.args.parts =
    rw (c.unsigned_abs.ensures.value, to_z-of_z w64 c.args.rise c.ranges.rise, c.from.ensures, c.from-else-rise-lt0.ensures) refl in
    let rises : pos 0 ≤ℤ c.args.rise = first_of (grind (arith, ints), search rules, omega (arith, ints)) in
    div_euclid-rise c.args.rise c.args.part c.args.parts (c.unsigned_abs.result * c.from.result / c.from-else-rise-lt0.result) rises (omega (arith, floor_small c)) is
