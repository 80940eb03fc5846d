-- A buffer size is doubled until the next double may not fit, and once less where a buffer more doesn't fit.
use Rattle.std.proofs.Common.{arith, ap, suc, ◌≡◌, ℕ, ◌+◌, ◌*◌, ◌/◌, ◌%◌, ◌^◌, ◌<◌, ◌≤◌, ◌∙◌}
use Rattle.std.proofs.Math.Nat.{mul-le-mul_right, pow-suc}
use Rattle.std.proofs.lemmas.Nat.{leading_top, pow-add, pow_pos}
use Rattle.std.specs.Int.Count.{count_leading_zeros}
use Rattle.sw_limits.specs.Boundary.{IsBoundary}
use Rattle.sw_limits.specs.BoundaryLaws.{IsBoundary-from, IsBoundary-mod, double-pow}
use Rattle.sw_limits.proofs.boundaries.boundary.Goals as goal

-- a size, doubled until it is from 2 ^ 62 on
record IsRaised (size doubled : ℕ) : Type 0 where
  half : (k : ℕ) × (doubled ≡ size * 2 ^ suc k) × (doubled / 2 ≡ size * 2 ^ k)
  least : 2 ^ 62 ≤ doubled
  below : doubled < 2 ^ 63

-- by so many doubles as its digits leave
IsRaised-shift : (size zeros j : ℕ) → zeros + suc j ≡ 32 → 2 ^ j ≤ size → size < 2 ^ suc j
    → IsRaised size (size * 2 ^ (31 + zeros) % 2 ^ 64)
IsRaised-shift size zeros j digits from below =
    let power = 2 ^ (31 + zeros) in
    let total : 31 + zeros + j ≡ 62 = omega (arith, digits) in
    let all : 2 ^ j * power ≡ 2 ^ 62 = omega (arith, pow-add 2 (31 + zeros) j, ap (λ (n : ℕ). 2 ^ n) total) in
    let least : 2 ^ j * power ≤ size * power = mul-le-mul_right power from in
    let double : 2 ^ suc j * power ≡ 2 * (2 ^ j * power) = omega (arith, pow-suc 2 j, ap (λ (n : ℕ). n * power) (pow-suc 2 j)) in
    let most : (size + 1) * power ≤ 2 ^ suc j * power = mul-le-mul_right power (omega (arith, below)) in
    let one : 1 ≤ power = pow_pos (31 + zeros) in
    let last : 31 + zeros ≡ suc (30 + zeros) = omega arith in
    let once_more : size * power ≡ size * 2 ^ suc (30 + zeros) = ap (λ (n : ℕ). size * 2 ^ n) last in
    let half : size * 2 ^ suc (30 + zeros) ≡ 2 * (size * 2 ^ (30 + zeros)) = double-pow size (30 + zeros) in
    let fits : size * power < 2 ^ 63 = omega (arith, all, double, most, one) in
    let whole : size * power % 2 ^ 64 ≡ size * power = omega (arith, fits) in
    record {
      half = (30 + zeros, whole ∙ once_more, omega (arith, whole, once_more, half));
      least = omega (arith, whole, least, all);
      below = omega (arith, whole, fits);
    }

raised : (size : ℕ) → 1 ≤ size → size < 2 ^ 32 → IsRaised size (size * 2 ^ (31 + count_leading_zeros 32 size) % 2 ^ 64)
raised size positive fits =
    let top = leading_top 32 size positive fits in
    IsRaised-shift size (count_leading_zeros 32 size) top.0 top.1 top.2 top.3

-- where a buffer more fits, that is the boundary
IsBoundary-whole : (size doubled : ℕ) → IsRaised size doubled → doubled + size < 2 ^ 63 → IsBoundary size doubled
IsBoundary-whole size doubled h room =
    IsBoundary-from size doubled (suc h.half.0) h.half.1 room (omega (arith, h.least))

-- and else its half is
IsBoundary-half : (size doubled : ℕ) → size < 2 ^ 32 → IsRaised size doubled → 2 ^ 63 ≤ doubled + size → IsBoundary size (doubled / 2)
IsBoundary-half size doubled fits h last =
    let even : doubled ≡ 2 * (doubled / 2) = omega (arith, h.half.1, h.half.2, double-pow size h.half.0) in
    IsBoundary-from size (doubled / 2) h.half.0 h.half.2 (omega (arith, h.below, even)) (omega (arith, even))

pub returns-then-doubled-size-clause-boundary : goal.returns-then-doubled-size-clause-boundary
returns-then-doubled-size-clause-boundary c =
    IsBoundary-whole c.args.buffer_size _ (raised c.args.buffer_size c.requires (omega arith)) (omega arith)

pub returns-then-doubled-size-clause-multiple : goal.returns-then-doubled-size-clause-multiple
returns-then-doubled-size-clause-multiple c =
    IsBoundary-mod c.args.buffer_size _ (returns-then-doubled-size-clause-boundary c)

pub returns-then-doubled-size-clause-least : goal.returns-then-doubled-size-clause-least
returns-then-doubled-size-clause-least c = omega (arith, (raised c.args.buffer_size c.requires (omega arith)).least)

pub returns-else-doubled-size-clause-boundary : goal.returns-else-doubled-size-clause-boundary
returns-else-doubled-size-clause-boundary c =
    IsBoundary-half c.args.buffer_size _ (omega arith) (raised c.args.buffer_size c.requires (omega arith)) (omega arith)

pub returns-else-doubled-size-clause-multiple : goal.returns-else-doubled-size-clause-multiple
returns-else-doubled-size-clause-multiple c =
    IsBoundary-mod c.args.buffer_size _ (returns-else-doubled-size-clause-boundary c)
