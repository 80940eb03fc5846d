-- Calls whose answers are known beforehand.
use Rattle.std.specs.Prelude.{◌≡◌, Bool, true, Some, Result, Ok, Err, IfErr}
use Rattle.lab_shelf.specs.declared.fault.ShelfFault.{ShelfFault}
use Rattle.lab_shelf.specs.declared.fault.ShelfFault.TheVariants.{Failed, Memory}
use Rattle.lab_shelf.specs.Counts.{IsAsForeseen}

-- a call that works, and fails only for want of memory
pub IsAsForeseen-works : (result : Result (Unit {0}) ShelfFault) (works : Bool) → works ≡ true
    → IfErr result (λ fault. fault ≡ Memory) → IsAsForeseen result (Some works)
IsAsForeseen-works (Ok done) works is memory = is
IsAsForeseen-works (Err Failed) works is memory = absurd cc
IsAsForeseen-works (Err Memory) works is memory = is
