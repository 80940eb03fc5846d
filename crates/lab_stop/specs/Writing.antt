-- How a call that writes ends a command, and what is known of that end by what is known of the call.
--     written end      the end of a call of a shelf or a sink, as a command ends there
--     OnOk-written, OnErr-written      what such a call leaves where it is done, and where it stops
--     IfErr-written, WriteFaults-written, written-no_write      why it stops: by the count of faults, and over a reliable shelf
use Rattle.std.specs.Prelude.{◌≢◌, ℕ, Result, Ok, Err, IfErr, OnOk, OnErr}
use Rattle.std.proofs.Common.{refl}
use Rattle.lab_shelf.specs.declared.fault.ShelfFault.{ShelfFault}
use Rattle.lab_shelf.specs.declared.fault.ShelfFault.TheVariants as faults
use Rattle.lab_shelf.specs.Counts.{IsFaultCount}
use Rattle.lab_stop.specs.declared.stop.Stop.{Stop}
use Rattle.lab_stop.specs.declared.stop.Stop.TheVariants.{Write, Memory}
use Rattle.lab_stop.specs.Stops.{IsWriteStop, WriteFaults}

-- the end of a call of a shelf or a sink, as a command ends there
abbrev pub written : Result (Unit {0}) ShelfFault → Result (Unit {0}) Stop
written (Ok done) = Ok done
written (Err faults.Failed) = Err Write
written (Err faults.Memory) = Err Memory

-- what a call leaves that is done
pub OnOk-written : (P : Type 0) (end : Result (Unit {0}) ShelfFault) → OnOk end P → OnOk (written end) P
OnOk-written P (Ok done) left = left
OnOk-written P (Err faults.Failed) left = tt
OnOk-written P (Err faults.Memory) left = tt

-- what a call leaves that stops
pub OnErr-written : (P : Type 0) (end : Result (Unit {0}) ShelfFault) → OnErr end P → OnErr (written end) P
OnErr-written P (Ok done) left = tt
OnErr-written P (Err faults.Failed) left = left
OnErr-written P (Err faults.Memory) left = left

-- it stops for a write or for memory
pub IfErr-written : (end : Result (Unit {0}) ShelfFault) → IfErr (written end) IsWriteStop
IfErr-written (Ok done) = tt
IfErr-written (Err faults.Failed) = tt
IfErr-written (Err faults.Memory) = tt

-- it stops for a write only where the count of faults rose
pub WriteFaults-written : (end : Result (Unit {0}) ShelfFault) (before now : ℕ) → IsFaultCount end before now
    → WriteFaults (written end) before now
WriteFaults-written (Ok done) before now counted = counted
WriteFaults-written (Err faults.Failed) before now counted = counted
WriteFaults-written (Err faults.Memory) before now counted = counted

-- it stops for no write, where the call didn't fail
pub written-no_write : (end : Result (Unit {0}) ShelfFault) → end ≢ Err faults.Failed → written end ≢ Err Write
written-no_write (Ok done) works is = absurd cc
written-no_write (Err faults.Failed) works is = absurd (works refl)
written-no_write (Err faults.Memory) works is = absurd cc
