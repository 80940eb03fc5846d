-- What a check answers.
use Rattle.std.specs.Prelude.{◌≡◌, ℕ, Result, Ok, Err, ⊤}
use Rattle.lab_check.specs.declared.error.CheckError.{CheckError}
use Rattle.lab_check.specs.declared.error.CheckError.TheVariants.{No, Memory}

-- a check's result, seen by view, is what is said: a value, or the line of the first test that fails; of want of memory nothing is said
abbrev pub ChecksAs : {X Y : Type 0} → (X → Y) → Result X CheckError → Result Y ℕ → Type 0
ChecksAs view (Ok x) said = said ≡ Ok (view x)
ChecksAs view (Err (No line)) said = said ≡ Err line
ChecksAs view (Err Memory) said = ⊤
