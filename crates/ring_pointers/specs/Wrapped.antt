-- The two pointers of a ring buffer, and the counts of frames that they represent.
use Rattle.std.specs.Prelude.{◌≡◌, ℕ, ◌+◌, ◌-◌, ◌%◌, ◌^◌, ◌<◌, ◌≤◌}

-- the pointers as a caller sees them, all in frames
pub record WrappedPointers : Type 0 where
  pub size : ℕ
  pub boundary : ℕ
  pub hw : ℕ
  pub appl : ℕ

-- the size and the boundary go together, and both pointers are below the boundary
pub record IsWrapped (p : WrappedPointers) : Type 0 where
  pub size_least : 1 ≤ p.size
  pub size_most : p.size ≤ 65536
  pub boundary_least : 2 ^ 61 ≤ p.boundary
  pub boundary_most : p.boundary < 2 ^ 63
  pub multiple : p.boundary % p.size ≡ 0
  pub hw_below : p.hw < p.boundary
  pub appl_below : p.appl < p.boundary

-- the pointers are two counts of frames that never wrap, each less whole multiples of the boundary
pub record StandFor (p : WrappedPointers) (hw appl : ℕ) : Type 0 where
  pub hw_wraps : p.hw ≡ hw % p.boundary
  pub appl_wraps : p.appl ≡ appl % p.boundary

-- two counts differ by less than 2 ^ 48
pub record AreNear (m n : ℕ) : Type 0 where
  pub above : m < n + 2 ^ 48
  pub below : n < m + 2 ^ 48

-- how many frames lie between two pointers, going on at 0 past the boundary
abbrev pub distance : ℕ → ℕ → ℕ → ℕ
distance boundary from to = (to + (boundary - from)) % boundary
