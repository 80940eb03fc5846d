-- How a command ends, by how its parts end.
--     EndsOf-read, EndsReliably-read, Refuses-read      it stops while it reads
--     EndsOf-answered, EndsReliably-answered, Refuses-tests      it reads and tests, and writes nothing
--     EndsOf-written, EndsReliably-written, Refuses-written      it has read all, and is done or stops while it writes
--     InputFaults-other, OutputFaults-other      which faults it didn't count, by its status
--     status_of-read, status_of-written, status_of-most      a command that makes no test ends with a status up to 6, each with one up to 7
--     OnOk-done      what holds of a command that is done holds with status 0
use Rattle.std.specs.Prelude.{◌≡◌, ◌≢◌, ◌≤◌, ℕ, Option, Some, None, Result, Ok, Err, IfErr, OnOk}
use Rattle.std.proofs.Common.{ap, arith, refl}
use Rattle.lab_stop.specs.declared.stop.Stop.{Stop}
use Rattle.lab_stop.specs.declared.stop.Stop.TheVariants.{Words, Read, No, Write, Memory}
use Rattle.lab_stop.specs.Causes.{Cause, cause}
use Rattle.lab_stop.specs.FaultLaws.{IsWriteKind-only}
use Rattle.lab_stop.specs.Stops.{StopKind, at_words, at_input, at_fetch, at_test, at_output, at_memory, stop_facts, status_of, AnswersOrStops, AreSameCounts, EndsOf, EndsReliably, FetchCount, FetchFaults, HasFormAt, InputFaults, IsCauseAt, IsCauseOf, IsEndAt, IsFirstCause, IsMissingAt, IsRefusedFor, IsReadStop, IsReliableEndAt, IsWriteStop, Misses, OutputFaults, Refuses, TestCount, TestFaults}

-- ---- a command that stops while it reads

-- what the files give as a result is refused for a cause, and then that is their first one
IsFirstCause-of : {Y : Type 0} (own : Option Cause) (given : Result Y Cause) → IsRefusedFor own given → IsFirstCause own (cause given)
IsFirstCause-of None given refused = tt
IsFirstCause-of (Some e) given refused = ap cause refused

ends_read : {Y : Type 0} (kind : StopKind) (own : Option Cause) (given : Result Y Cause) → IsCauseAt kind own given
    → IsEndAt kind own (cause given)
ends_read at_input own given is = IsFirstCause-of own given is
ends_read at_fetch own given is = tt
ends_read at_test own given is = IsFirstCause-of own given is
ends_read at_memory own given is = tt
ends_read other own given is = absurd is

pub EndsOf-read : {Y : Type 0} (stop : Stop) (given : Result Y Cause) → IsCauseOf stop given → EndsOf {X = Unit {0}} (Err stop) (cause given)
EndsOf-read stop given is = ends_read (stop_facts stop).kind (stop_facts stop).cause given is

reliably_read : {Y : Type 0} (kind : StopKind) (own : Option Cause) (given : Result Y Cause) → IsCauseAt kind own given
    → IsMissingAt kind own given → IsReliableEndAt kind own (cause given)
reliably_read at_words own given is misses = absurd is
reliably_read at_input own given is misses = tt
reliably_read at_fetch own given is misses = IsFirstCause-of own given misses
reliably_read at_test own given is misses = tt
reliably_read at_output own given is misses = absurd is
reliably_read at_memory own given is misses = tt

pub EndsReliably-read : {Y : Type 0} (stop : Stop) (given : Result Y Cause) → IsCauseOf stop given → Misses {X = Unit {0}} (Err stop) given
    → EndsReliably {X = Unit {0}} (Err stop) (cause given)
EndsReliably-read stop given is misses = reliably_read (stop_facts stop).kind (stop_facts stop).cause given is misses

has_form : {Y : Type 0} (form : Y) (kind : StopKind) (before now : ℕ) → FetchCount kind before now → HasFormAt kind (Some form)
has_form form at_words before now faults = absurd faults
has_form form other before now faults = refl

pub Refuses-read : {Y : Type 0} (stop : Stop) (form : Y) (before now : ℕ) → FetchFaults {X = Unit {0}} (Err stop) before now
    → Refuses {X = Unit {0}} (Err stop) (Some form)
Refuses-read stop form before now faults = has_form form (stop_facts stop).kind before now faults

-- ---- a command that reads and tests

pub EndsOf-answered : {X Y : Type 0} (view : X → Y) (end : Result X Stop) (given : Result Y Cause) → AnswersOrStops view end given → EndsOf end (cause given)
EndsOf-answered view (Ok x) given is = ap cause is
EndsOf-answered view (Err stop) given is = EndsOf-read stop given is

pub EndsReliably-answered : {X Y : Type 0} (view : X → Y) (end : Result X Stop) (given : Result Y Cause) → AnswersOrStops view end given → Misses end given
    → EndsReliably end (cause given)
EndsReliably-answered view (Ok x) given is misses = tt
EndsReliably-answered view (Err stop) given is misses = EndsReliably-read stop given is misses

test_has_form : {Y : Type 0} (form : Y) (kind : StopKind) (before now : ℕ) → TestCount kind before now → HasFormAt kind (Some form)
test_has_form form at_words before now faults = absurd faults
test_has_form form other before now faults = refl

pub Refuses-tests : {X Y : Type 0} (end : Result X Stop) (form : Y) (before now : ℕ) → TestFaults end before now → Refuses end (Some form)
Refuses-tests (Ok x) form before now faults = refl
Refuses-tests (Err stop) form before now faults = test_has_form form (stop_facts stop).kind before now faults

-- ---- a command that has read all

pub EndsOf-written : {X : Type 0} (r : Result X Stop) (first : Option Cause) → IfErr r IsWriteStop → first ≡ None → EndsOf r first
EndsOf-written (Ok x) first only none = none
EndsOf-written (Err stop) first only none =
    IsWriteKind-only (λ kind. IsEndAt kind (stop_facts stop).cause first) (stop_facts stop).kind only none tt

-- over reliable files and a reliable output
pub EndsReliably-written : {X : Type 0} (r : Result X Stop) (first : Option Cause) → IfErr r IsWriteStop → r ≢ Err Write → EndsReliably r first
EndsReliably-written (Ok x) first only never = tt
EndsReliably-written (Err Write) first only never = never refl
EndsReliably-written (Err Memory) first only never = tt
EndsReliably-written (Err other) first only never = absurd only

-- it refuses no words
pub Refuses-written : {X Y : Type 0} (r : Result X Stop) (form : Y) → IfErr r IsWriteStop → Refuses r (Some form)
Refuses-written (Ok x) form only = refl
Refuses-written (Err stop) form only =
    IsWriteKind-only (λ kind. HasFormAt kind (Some form)) (stop_facts stop).kind only refl refl

-- ---- exit statuses

-- a call that ends with another status than 4 counted no fetch that failed
pub InputFaults-other : {T : Type 0} (end : Result T Stop) (before now : ℕ) → InputFaults end before now → status_of end ≢ 4 → now ≡ before
InputFaults-other (Ok x) before now faults other = faults
InputFaults-other (Err (Read name)) before now faults other = absurd (other refl)
InputFaults-other (Err stop) before now faults other = faults

-- a call that ends with another status than 5 counted neither a write that failed nor a put
pub OutputFaults-other : {T : Type 0} (end : Result T Stop) (writes writes_now puts puts_now : ℕ) → OutputFaults end writes writes_now puts puts_now
    → status_of end ≢ 5 → AreSameCounts writes writes_now puts puts_now
OutputFaults-other (Ok x) writes writes_now puts puts_now faults other = faults
OutputFaults-other (Err Write) writes writes_now puts puts_now faults other = absurd (other refl)
OutputFaults-other (Err stop) writes writes_now puts puts_now faults other = faults

-- a call that only reads, or only writes, makes no test
pub status_of-read : {T : Type 0} (end : Result T Stop) → IfErr end IsReadStop → status_of end ≤ 6
status_of-read (Ok done) only = omega arith
status_of-read (Err (No line)) only = absurd only
status_of-read (Err other) only = omega arith

pub status_of-written : {T : Type 0} (end : Result T Stop) → IfErr end IsWriteStop → status_of end ≤ 6
status_of-written (Ok done) only = omega arith
status_of-written (Err (No line)) only = absurd only
status_of-written (Err other) only = omega arith

-- no other status is greater than that of a test
pub status_of-most : {T : Type 0} (end : Result T Stop) → status_of end ≤ 7
status_of-most (Ok done) = omega arith
status_of-most (Err Words) = omega arith
status_of-most (Err other) = omega arith

-- what holds of a call that is done holds with status 0
pub OnOk-done : (end : Result (Unit {0}) Stop) (P : Type 0) → OnOk end P → status_of end ≡ 0 → P
OnOk-done (Ok done) P holds zero = holds
OnOk-done (Err Words) P holds zero = absurd (omega arith)
OnOk-done (Err other) P holds zero = absurd (omega arith)
