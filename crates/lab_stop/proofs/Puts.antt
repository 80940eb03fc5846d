-- What a put leaves, whether it is done or not.
use Rattle.std.specs.Prelude.{◌≡◌, ◌≤◌, ◌++◌, ℕ, List, Option, Result, Ok, Err, OnOk, OnErr}
use Rattle.std.specs.Option.{option_map}
use Rattle.std.proofs.Common.{arith}
use Rattle.lab_shelf.specs.declared.fault.ShelfFault.{ShelfFault}
use Rattle.lab_shelf.specs.declared.fault.ShelfFault.TheVariants.{Failed, Memory}
use Rattle.lab_shelf.specs.Changes.{TookPart-all}
use Rattle.lab_shelf.specs.Counts.{IsFaultCount}
use Rattle.lab_shelf.specs.Files.{TookPart}

-- all of the bytes were taken, or the first of them
pub TookPart-put : (result : Result (Unit {0}) ShelfFault) (before after : Option (List ℕ)) (bytes : List ℕ)
    → OnOk result (after ≡ option_map (λ taken. taken ++ bytes) before) → OnErr result (TookPart before after bytes) → TookPart before after bytes
TookPart-put (Ok done) before after bytes all part = TookPart-all before after bytes all
TookPart-put (Err fault) before after bytes all part = part

-- a count of faults never falls
pub Counted-most : (result : Result (Unit {0}) ShelfFault) (before after : ℕ) → IsFaultCount result before after → before ≤ after
Counted-most (Ok done) before after counted = omega (arith, counted)
Counted-most (Err Failed) before after counted = counted.0
Counted-most (Err Memory) before after counted = omega (arith, counted)
