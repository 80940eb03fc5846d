-- A command that runs nothing asks no gate.
use Rattle.lab_commands.specs.Prelude.{arith, List, subst, ℕ, ◌≡◌, nat_tests, OnOk, Option, Result, Some, ⊤, Pass, StepKind, Files, Stops, AskedIn, Form, make}
use Rattle.lab_commands.specs.Prelude.{run}

-- a form that isn't one of a run
abbrev pub RunsNothing : Option Form → Type 0
RunsNothing (Some (run script out)) = ⊥
RunsNothing (Some (make workload)) = ⊥
RunsNothing other = ⊤

module _ {X E T : Type 0} (asked : T → T → List StepKind → Pass → Type 0) (gates : List T) (stops : Stops) (before after : Option Files) (taken taken_after : Option (List ℕ)) where
  asks-none : (own : Option Form) → RunsNothing own → (r : Result X E) → OnOk r (AskedIn asked gates gates own stops before after taken taken_after)
  asks-none other none r = grind (arith, nat_tests)

  -- whatever form the words have, it is one that runs nothing
  pub AskedIn-none : (r : Result X E) (own form : Option Form) → own ≡ form → RunsNothing own → OnOk r (AskedIn asked gates gates form stops before after taken taken_after)
  AskedIn-none r own form same none =
      subst (λ (any : Option Form). OnOk r (AskedIn asked gates gates any stops before after taken taken_after)) same (asks-none own none r)
