-- What a countdown of asks counts.
use Rattle.std.specs.Prelude.{ℕ}

-- how often a `die` stopped an actor, and how many of its asks came to its own gate, but for those of kind Again
pub record Tallied : Type 0 where
  pub deaths : ℕ
  pub asks : ℕ
