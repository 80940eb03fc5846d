-- The boundary of a ring buffer, at which the positions of a stream start again at 0.
use Rattle.std.specs.Prelude.{◌≡◌, ℕ, ◌+◌, ◌*◌, ◌^◌, ◌<◌, ◌≤◌}

-- the boundary of a buffer size: of the numbers that come of doubling the size, the greatest that with a whole buffer
-- more is below 2 ^ 63
pub record IsBoundary (size boundary : ℕ) : Type 0 where
  pub doubled : (k : ℕ) × (boundary ≡ size * 2 ^ k)
  pub room : boundary + size < 2 ^ 63
  pub greatest : (k : ℕ) → size * 2 ^ k + size < 2 ^ 63 → size * 2 ^ k ≤ boundary
