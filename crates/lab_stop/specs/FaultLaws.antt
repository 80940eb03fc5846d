-- The counts of faults over a whole call, by those of its parts, and why a call stops.
--     IsWriteKind-only      what holds of a stop at an output and of one for memory holds of each stop of a call that only writes
--     InputFaults-reads, InputFaults-same      a call that only reads, and one that fetches nothing
--     OutputFaults-reads, OutputFaults-writes, OutputFaults-puts      a call that only reads, one that only stores, and one that only puts
--     OutputFaults-memory      a call that writes nothing, and stops for memory alone
--     OutputFaults-kept      a call that stores, beside an output on which nothing is put
--     OutputFaults-after      a call after others that counted no fault
--     FetchFaults-only      why a call that only reads stops
--     TestFaults-reads, InputFaults-tests, OutputFaults-tests      a call that only reads, as a part of one that reads and tests; and that one
use Rattle.std.specs.Prelude.{◌≡◌, ◌⊎◌, ℕ, Result, Ok, Err, IfErr}
use Rattle.std.proofs.Common.{arith, inl, inr, refl, sym, subst}
use Rattle.lab_shelf.specs.Counts.{Rose}
use Rattle.lab_stop.specs.declared.stop.Stop.{Stop}
use Rattle.lab_stop.specs.declared.stop.Stop.TheVariants.{Memory}
use Rattle.lab_stop.specs.Stops.{StopKind, at_input, at_fetch, at_test, at_output, at_memory, stop_facts, AreSameCounts, FetchCount, FetchFaults, InputCount, InputFaults, IsReadKind, IsReadStop, IsWriteKind, IsWriteStop, OutputCount, OutputFaults, TestCount, TestFaults, WriteCount, WriteFaults}

-- what holds of a stop at an output and of one for memory holds of each stop of a call that only writes
pub IsWriteKind-only : (holds : StopKind → Type 0) (kind : StopKind) → IsWriteKind kind → holds at_output → holds at_memory → holds kind
IsWriteKind-only holds at_output only output memory = output
IsWriteKind-only holds at_memory only output memory = memory
IsWriteKind-only holds other only output memory = absurd only

-- ---- fetches

reads_count : (kind : StopKind) (before now : ℕ) → FetchCount kind before now → InputCount kind before now
reads_count at_input before now faults = faults
reads_count at_fetch before now faults = faults.1
reads_count at_memory before now faults = faults
reads_count other before now faults = absurd faults

-- what a call counts that only reads
pub InputFaults-reads : {X : Type 0} (end : Result X Stop) (before now : ℕ) → FetchFaults end before now → InputFaults end before now
InputFaults-reads (Ok x) before now faults = faults
InputFaults-reads (Err stop) before now faults = reads_count (stop_facts stop).kind before now faults

-- a call that fetches nothing counts no fetch that failed, and stops for a write or for memory
pub InputFaults-same : {X : Type 0} (end : Result X Stop) (before now : ℕ) → IfErr end IsWriteStop → now ≡ before
    → InputFaults end before now
InputFaults-same (Ok x) before now only same = same
InputFaults-same (Err stop) before now only same =
    IsWriteKind-only (λ kind. InputCount kind before now) (stop_facts stop).kind only same same

reads_only : (kind : StopKind) (before now : ℕ) → FetchCount kind before now → IsReadKind kind
reads_only at_input before now faults = tt
reads_only at_fetch before now faults = tt
reads_only at_memory before now faults = tt
reads_only other before now faults = absurd faults

-- a call that only reads stops for the script, a client's file, a read or memory
pub FetchFaults-only : {X : Type 0} (end : Result X Stop) (before now : ℕ) → FetchFaults end before now → IfErr end IsReadStop
FetchFaults-only (Ok x) before now faults = tt
FetchFaults-only (Err stop) before now faults = reads_only (stop_facts stop).kind before now faults

test_count : (kind : StopKind) (before now : ℕ) → FetchCount kind before now → TestCount kind before now
test_count at_test before now faults = absurd faults
test_count other before now faults = faults

-- a call that only reads, as a part of one that reads and tests
pub TestFaults-reads : (stop : Stop) (before now : ℕ) → FetchFaults {X = Unit {0}} (Err stop) before now
    → TestFaults {X = Unit {0}} (Err stop) before now
TestFaults-reads stop before now faults = test_count (stop_facts stop).kind before now faults

tests_count : (kind : StopKind) (before now : ℕ) → TestCount kind before now → InputCount kind before now
tests_count at_test before now faults = faults
tests_count other before now faults = reads_count other before now faults

-- what a call counts that reads and tests
pub InputFaults-tests : {X : Type 0} (end : Result X Stop) (before now : ℕ) → TestFaults end before now → InputFaults end before now
InputFaults-tests (Ok x) before now faults = faults
InputFaults-tests (Err stop) before now faults = tests_count (stop_facts stop).kind before now faults

-- ---- writes and puts

reads_write : (kind : StopKind) (writes writes_now puts puts_now : ℕ) → IsReadKind kind → AreSameCounts writes writes_now puts puts_now
    → OutputCount kind writes writes_now puts puts_now
reads_write at_output writes writes_now puts puts_now only same = absurd only
reads_write other writes writes_now puts puts_now only same = same

-- a call that only reads
pub OutputFaults-reads : {X : Type 0} (end : Result X Stop) (writes writes_now puts puts_now : ℕ) → IfErr end IsReadStop
    → writes_now ≡ writes → puts_now ≡ puts → OutputFaults end writes writes_now puts puts_now
OutputFaults-reads (Ok x) writes writes_now puts puts_now only same same_puts = record { writes_same = same; puts_same = same_puts }
OutputFaults-reads (Err stop) writes writes_now puts puts_now only same same_puts =
    reads_write (stop_facts stop).kind writes writes_now puts puts_now only (record { writes_same = same; puts_same = same_puts })

tests_write : (kind : StopKind) (before now writes puts : ℕ) → TestCount kind before now → OutputCount kind writes writes puts puts
tests_write at_output before now writes puts faults = absurd faults
tests_write other before now writes puts faults = record { writes_same = refl; puts_same = refl }

-- a call that reads and tests
pub OutputFaults-tests : {X : Type 0} (end : Result X Stop) (before now writes writes_now puts : ℕ) → TestFaults end before now
    → writes_now ≡ writes → OutputFaults end writes writes_now puts puts
OutputFaults-tests {X} end before now writes writes_now puts faults same =
    subst (λ w. OutputFaults {X = X} end writes w puts puts) (sym same) (unwritten end faults)
  where
    unwritten : (r : Result X Stop) → TestFaults r before now → OutputFaults r writes writes puts puts
    unwritten (Ok x) faults = record { writes_same = refl; puts_same = refl }
    unwritten (Err stop) faults = tests_write (stop_facts stop).kind before now writes puts faults

-- a call that writes nothing, and stops for memory alone
pub OutputFaults-memory : {X : Type 0} (end : Result X Stop) (writes puts : ℕ) → IfErr end (λ stop. stop ≡ Memory)
    → OutputFaults end writes writes puts puts
OutputFaults-memory (Ok x) writes puts only = record { writes_same = refl; puts_same = refl }
OutputFaults-memory {X} (Err stop) writes puts only =
    subst (λ s. OutputFaults {X = X} (Err s) writes writes puts puts) (sym only) (record { writes_same = refl; puts_same = refl })

stores : (kind : StopKind) (writes writes_now puts puts_now : ℕ) → WriteCount kind writes writes_now → puts_now ≡ puts
    → OutputCount kind writes writes_now puts puts_now
stores at_output writes writes_now puts puts_now faults same = inl faults.1
stores other writes writes_now puts puts_now faults same = record { writes_same = faults; puts_same = same }

-- a call that only stores
pub OutputFaults-writes : {X : Type 0} (end : Result X Stop) (writes writes_now puts puts_now : ℕ) → WriteFaults end writes writes_now
    → puts_now ≡ puts → OutputFaults end writes writes_now puts puts_now
OutputFaults-writes (Ok x) writes writes_now puts puts_now faults same = record { writes_same = faults; puts_same = same }
OutputFaults-writes (Err stop) writes writes_now puts puts_now faults same =
    stores (stop_facts stop).kind writes writes_now puts puts_now faults same

puts_text : (kind : StopKind) (writes writes_now puts puts_now : ℕ) → writes_now ≡ writes → WriteCount kind puts puts_now
    → OutputCount kind writes writes_now puts puts_now
puts_text at_output writes writes_now puts puts_now same faults = inr faults.1
puts_text other writes writes_now puts puts_now same faults = record { writes_same = same; puts_same = faults }

-- a call that only puts
pub OutputFaults-puts : {X : Type 0} (end : Result X Stop) (writes writes_now puts puts_now : ℕ) → writes_now ≡ writes
    → WriteFaults end puts puts_now → OutputFaults end writes writes_now puts puts_now
OutputFaults-puts (Ok x) writes writes_now puts puts_now same faults = record { writes_same = same; puts_same = faults }
OutputFaults-puts (Err stop) writes writes_now puts puts_now same faults =
    puts_text (stop_facts stop).kind writes writes_now puts puts_now same faults

-- a count that is always 0 never rose
Rose-writes : (writes writes_now : ℕ) → Rose writes writes_now ⊎ Rose 0 0 → Rose writes writes_now
Rose-writes writes writes_now (inl rose) = rose
Rose-writes writes writes_now (inr never) = absurd (omega (arith, never))

kept : (kind : StopKind) (writes writes_now puts : ℕ) → OutputCount kind writes writes_now 0 0 → OutputCount kind writes writes_now puts puts
kept at_output writes writes_now puts faults = inl (Rose-writes writes writes_now faults)
kept other writes writes_now puts faults = record { writes_same = faults.writes_same; puts_same = refl }

-- a call that stores and keeps what it puts, beside an output on which nothing is put
pub OutputFaults-kept : {X : Type 0} (end : Result X Stop) (writes writes_now puts : ℕ) → OutputFaults end writes writes_now 0 0
    → OutputFaults end writes writes_now puts puts
OutputFaults-kept (Ok x) writes writes_now puts faults = record { writes_same = faults.writes_same; puts_same = refl }
OutputFaults-kept (Err stop) writes writes_now puts faults = kept (stop_facts stop).kind writes writes_now puts faults

-- a call after others that counted no fault
pub OutputFaults-after : {X : Type 0} (end : Result X Stop) (writes writes_then writes_now puts puts_then puts_now : ℕ)
    → AreSameCounts writes writes_then puts puts_then → OutputFaults end writes_then writes_now puts_then puts_now
    → OutputFaults end writes writes_now puts puts_now
OutputFaults-after end writes writes_then writes_now puts puts_then puts_now same faults =
    subst (λ w. OutputFaults end w writes_now puts puts_now) same.writes_same
    (subst (λ p. OutputFaults end writes_then writes_now p puts_now) same.puts_same faults)
