-- The room for what an actor's lines leave.
use Rattle.std.specs.Prelude.{ℕ, ◌+◌, ◌≤◌, vec_capacity, vec_len}
use Rattle.std.specs.Global.{Vec}

-- there is room for so many items more
abbrev pub HasSpace : {X : Type 0} → ℕ → Vec X → Type 0
HasSpace count xs = vec_len xs + count ≤ vec_capacity xs

-- so many items at most were appended, and the room didn't shrink
pub record GrowsBy {X : Type 0} (most : ℕ) (before after : Vec X) : Type 0 where
  pub few : vec_len after ≤ vec_len before + most
  pub kept : vec_capacity before ≤ vec_capacity after
