-- How lists of samples grow.
use Rattle.std.specs.Prelude.{◌≡◌, ◌++◌, List, ℤ}

-- what a longer list has after a shorter one, as a list grows by
pub record Appends (shorter longer old new : List ℤ) : Type 0 where
  pub more : List ℤ
  pub longer_is : longer ≡ shorter ++ more
  pub new_is : new ≡ old ++ more

-- a list grew at its end, or not at all
pub record Extends (old new : List ℤ) : Type 0 where
  pub more : List ℤ
  pub new_is : new ≡ old ++ more
