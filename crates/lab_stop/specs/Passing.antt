-- A call that stops at the cause of a part stops at the cause of the whole.
--     IsCauseOf-passed      the cause that a stop names is one of the whole, where each cause of the part is
--     Misses-passed      the same of the missing file that a stop at a read names
use Rattle.std.specs.Prelude.{◌≡◌, Option, Some, None, Result, Err}
use Rattle.lab_stop.specs.declared.stop.Stop.{Stop}
use Rattle.lab_stop.specs.Causes.{Cause}
use Rattle.lab_stop.specs.Stops.{StopKind, at_input, at_fetch, at_test, at_memory, stop_facts, IsCauseAt, IsCauseOf, IsMissingAt, IsRefusedFor, Misses}

-- a cause of a part is one of the whole
IsRefusedFor-passed : {X Y : Type 0} (own : Option Cause) (part : Result X Cause) (given : Result Y Cause)
    → ((e : Cause) → part ≡ Err e → given ≡ Err e) → IsRefusedFor own part → IsRefusedFor own given
IsRefusedFor-passed None part given passes is = tt
IsRefusedFor-passed (Some e) part given passes is = passes e is

cause_passed : {X Y : Type 0} (kind : StopKind) (own : Option Cause) (part : Result X Cause) (given : Result Y Cause)
    → ((e : Cause) → part ≡ Err e → given ≡ Err e) → IsCauseAt kind own part → IsCauseAt kind own given
cause_passed at_input own part given passes is = IsRefusedFor-passed own part given passes is
cause_passed at_fetch own part given passes is = tt
cause_passed at_test own part given passes is = IsRefusedFor-passed own part given passes is
cause_passed at_memory own part given passes is = tt
cause_passed other own part given passes is = absurd is

-- a stop at a part's cause is one at the cause of the whole
pub IsCauseOf-passed : {X Y : Type 0} (stop : Stop) (part : Result X Cause) (given : Result Y Cause)
    → ((e : Cause) → part ≡ Err e → given ≡ Err e) → IsCauseOf stop part → IsCauseOf stop given
IsCauseOf-passed stop part given passes is =
    cause_passed (stop_facts stop).kind (stop_facts stop).cause part given passes is

missing_passed : {X Y : Type 0} (kind : StopKind) (own : Option Cause) (part : Result X Cause) (given : Result Y Cause)
    → ((e : Cause) → part ≡ Err e → given ≡ Err e) → IsMissingAt kind own part → IsMissingAt kind own given
missing_passed at_fetch own part given passes is = IsRefusedFor-passed own part given passes is
missing_passed other own part given passes is = tt

-- a missing file of a part is one of the whole
pub Misses-passed : {X Y : Type 0} (stop : Stop) (part : Result X Cause) (given : Result Y Cause)
    → ((e : Cause) → part ≡ Err e → given ≡ Err e)
    → Misses {X = Unit {0}} (Err stop) part → Misses {X = Unit {0}} (Err stop) given
Misses-passed stop part given passes is =
    missing_passed (stop_facts stop).kind (stop_facts stop).cause part given passes is
