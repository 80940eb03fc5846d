-- The frames that a reader read, as runs: each has a first frame and a count.
use Rattle.std.specs.Prelude.{◌≢◌, ℕ, ◌+◌, ◌≤◌, ⊤, List, [], ◌∷◌}
use Rattle.std.specs.List.{flat_map, range_with_len}

-- the frames of some runs, by their numbers
abbrev pub frames_of_runs : List (ℕ × ℕ) → List ℕ
frames_of_runs runs = flat_map (λ (run : ℕ × ℕ). range_with_len run.0 run.1) runs

-- each run has a frame, and none begins where the one before it ends
abbrev pub AreApart : List (ℕ × ℕ) → Type 0
AreApart [] = ⊤
AreApart (run ∷ []) = 1 ≤ run.1
AreApart (run ∷ next ∷ runs) = (1 ≤ run.1) × (run.0 + run.1 ≢ next.0) × AreApart (next ∷ runs)

-- runs, and for how many more of them there is room
pub record RunList : Type 0 where
  pub runs : List (ℕ × ℕ)
  pub room : ℕ
