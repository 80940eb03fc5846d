-- Runs and recordings as the code has them.
use Rattle.std.specs.Prelude.{ℕ, ℤ, List, map}
use Rattle.std.specs.Global.{Vec}
use Rattle.lab_check.specs.declared.check.Checked.{Checked}
use Rattle.lab_check.specs.Samples.{RunSamples}

-- runs without their lines
abbrev pub unlined_runs : List (ℕ × ℕ × ℕ) → List (ℕ × ℕ)
unlined_runs runs = map (λ (run : ℕ × ℕ × ℕ). (run.1, run.2)) runs

-- the samples of each reader
abbrev pub recordings_of : List (Vec ℤ) → List (List ℤ)
recordings_of recorded = map (λ (samples : Vec ℤ). samples.items) recorded

-- the samples of a checked run
abbrev pub samples_of_checked : Checked → RunSamples
samples_of_checked checked =
    record { played = checked.played.items; recorded = recordings_of checked.recorded.items }
