-- What a reader's rows haven't read yet, as the code keeps it.
use Rattle.std.specs.Prelude.{ℕ, ◌+◌, ◌^◌, ◌<◌, List, [], ◌∷◌, Option, Some, None}
use Rattle.std.specs.List.{AllByRecursion}
use Rattle.lab_check.specs.declared.reads.RunsLeft.{RunsLeft}
use Rattle.lab_check.specs.Reads.{Unread}

-- what is left of the run that is being read, and the runs after it
abbrev pub with_head : Option (ℕ × ℕ × ℕ) → List (ℕ × ℕ × ℕ) → List (ℕ × ℕ × ℕ)
with_head None more = []
with_head (Some run) more = run ∷ more

-- the frame at which the stretch goes on, and the runs that are left
abbrev pub unread_of : RunsLeft → Unread
unread_of left = (left.next, with_head left.head left.more.now)

-- each run ends at a number of 64 bits
abbrev pub RunsFit : List (ℕ × ℕ × ℕ) → Type 0
RunsFit runs = AllByRecursion (λ (run : ℕ × ℕ × ℕ). run.1 + run.2 < 2 ^ 64) runs
