-- Laws of boundaries: there is one at most, and it is where the next double no longer fits.
use Rattle.std.specs.Prelude.{◌≡◌, ℕ, ◌+◌, ◌*◌, ◌%◌, ◌^◌, ◌<◌, ◌≤◌}
use Rattle.std.proofs.Common.{arith, ap, suc, inl, inr, ◌∙◌}
use Rattle.std.proofs.Math.Nat.{mul-le-mul_left, mul-mod_right, pow-suc, pow-le-pow_right, le-mul_of_pos_right}
use Rattle.std.proofs.lemmas.Bool.{cases_lt}
use Rattle.std.proofs.lemmas.Nat.{pow_pos}
use Rattle.sw_limits.specs.Boundary.{IsBoundary}

-- a boundary is at most each boundary of the same buffer size
IsBoundary-le : (size b c : ℕ) → IsBoundary size b → IsBoundary size c → b ≤ c
IsBoundary-le size b c h g =
    let fits : size * 2 ^ h.doubled.0 + size < 2 ^ 63 = omega (arith, h.doubled.1) in
    omega (arith, h.doubled.1, g.greatest h.doubled.0 fits)

-- a buffer size has one boundary at most
pub IsBoundary-unique : (size b c : ℕ) → IsBoundary size b → IsBoundary size c → b ≡ c
IsBoundary-unique size b c h g = omega (arith, IsBoundary-le size b c h g, IsBoundary-le size c b g h)

-- a boundary is a multiple of the buffer size
pub IsBoundary-mod : (size b : ℕ) → IsBoundary size b → b % size ≡ 0
IsBoundary-mod size b h = ap (λ x. x % size) h.doubled.1 ∙ mul-mod_right size (2 ^ h.doubled.0)

-- a boundary is at least the buffer size
pub le-IsBoundary : (size b : ℕ) → IsBoundary size b → size ≤ b
le-IsBoundary size b h = omega (arith, h.doubled.1, le-mul_of_pos_right size (pow_pos h.doubled.0))

-- to double once more is to double
pub double-pow : (size k : ℕ) → size * 2 ^ suc k ≡ 2 * (size * 2 ^ k)
double-pow size k = omega (arith, pow-suc 2 k, ap (λ x. size * x) (pow-suc 2 k))

-- the double of a boundary, with a buffer more, does not fit
pub IsBoundary-last : (size b : ℕ) → 1 ≤ size → IsBoundary size b → 2 ^ 63 ≤ 2 * b + size
IsBoundary-last size b positive h =
    elim (cases_lt (2 * b + size) (2 ^ 63)) [
      | inl low ↦
          let next : size * 2 ^ suc h.doubled.0 ≡ 2 * b = omega (arith, double-pow size h.doubled.0, h.doubled.1) in
          let fits : size * 2 ^ suc h.doubled.0 + size < 2 ^ 63 = omega arith in
          let above : size ≤ b = le-IsBoundary size b h in
          let below : size * 2 ^ suc h.doubled.0 ≤ b = h.greatest (suc h.doubled.0) fits in
          omega arith
      | inr high ↦ high
    ]

-- and the number of which that holds is the boundary
pub IsBoundary-from : (size b k : ℕ) → b ≡ size * 2 ^ k → b + size < 2 ^ 63 → 2 ^ 63 ≤ 2 * b + size → IsBoundary size b
IsBoundary-from size b k doubled room last = record {
  doubled = (k, doubled);
  room = room;
  greatest = λ j fits. elim (cases_lt k j) [
    | inl later ↦
        let power : 2 ^ suc k ≤ 2 ^ j = pow-le-pow_right (omega arith) (omega arith) in
        let more : size * 2 ^ suc k ≤ size * 2 ^ j = mul-le-mul_left size power in
        let next : size * 2 ^ suc k ≡ 2 * (size * 2 ^ k) = double-pow size k in
        omega arith
    | inr sooner ↦
        let power : 2 ^ j ≤ 2 ^ k = pow-le-pow_right (omega arith) sooner in
        let less : size * 2 ^ j ≤ size * 2 ^ k = mul-le-mul_left size power in
        omega arith
  ];
}
