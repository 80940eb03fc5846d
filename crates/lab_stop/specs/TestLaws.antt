-- What a call that reads and tests does to its shelf, by what its parts do.
--     IsSameShelf-tests, OnlyTests-done      a call that is done
--     OnlyTests-reads, OnlyTests-passed, OnlyTests-memory      a call that stops where it only reads, where a part of it does, or for want of memory
--     OnlyTests-after      a call after others that were done
use Rattle.std.specs.Prelude.{◌≡◌, ℕ, Result, Ok, Err, IsErrAnd}
use Rattle.std.proofs.Common.{subst, sym, ◌∙◌}
use Rattle.lab_shelf.specs.declared.traits.Shelf as shelves
use Rattle.lab_stop.specs.declared.stop.Stop.{Stop}
use Rattle.lab_stop.specs.declared.stop.Stop.TheVariants.{Memory}
use Rattle.lab_stop.specs.Effects.{IsSameShelf, OnlyReads, OnlyTests}
use Rattle.lab_stop.specs.FaultLaws.{TestFaults-reads}
use Rattle.lab_stop.specs.ReadLaws.{IsSameShelf-then}
use Rattle.lab_stop.specs.Stops.{TestCount, stop_facts}

-- a call that reads and tests, and is done
pub IsSameShelf-tests : {S X : Type 0} (H : shelves.Ghosts S) (x : X) (old new : S) → OnlyTests H (Ok x) old new → IsSameShelf H old new
IsSameShelf-tests H x old new does = record {
  files = does.files;
  fetch_faults = does.faults;
  write_faults = does.write_faults;
  reliable = does.reliable;
}

-- a call that is done, and leaves the shelf as it was
pub OnlyTests-done : {S X : Type 0} (H : shelves.Ghosts S) (x : X) (old new : S) → IsSameShelf H old new → OnlyTests H (Ok x) old new
OnlyTests-done H x old new same = record {
  files = same.files;
  faults = same.fetch_faults;
  write_faults = same.write_faults;
  reliable = same.reliable;
}

-- a call that stops while it reads
pub OnlyTests-reads : {S X : Type 0} (H : shelves.Ghosts S) (stop : Stop) (old new : S) → OnlyReads {X = X} H (Err stop) old new
    → OnlyTests {X = X} H (Err stop) old new
OnlyTests-reads H stop old new does = record {
  files = does.files;
  faults = TestFaults-reads stop (H.fetch_faults old) (H.fetch_faults new) does.faults;
  write_faults = does.write_faults;
  reliable = does.reliable;
}

-- a call that stops where a part of it does
pub OnlyTests-passed : {S X Y : Type 0} (H : shelves.Ghosts S) (result : Result X Stop) (stop : Stop) (old new : S)
    → IsErrAnd result (λ e. e ≡ stop) → OnlyTests {X = Y} H (Err stop) old new → OnlyTests H result old new
OnlyTests-passed H (Ok x) stop old new passed does = absurd passed
OnlyTests-passed H (Err e) stop old new passed does = record {
  files = does.files;
  faults = subst (λ (s : Stop). TestCount (stop_facts s).kind (H.fetch_faults old) (H.fetch_faults new)) (sym passed) does.faults;
  write_faults = does.write_faults;
  reliable = does.reliable;
}

-- a call that stops for want of memory, where the shelf is as it was
pub OnlyTests-memory : {S X : Type 0} (H : shelves.Ghosts S) (result : Result X Stop) (old new : S)
    → IsErrAnd result (λ e. e ≡ Memory) → IsSameShelf H old new → OnlyTests H result old new
OnlyTests-memory H result old new passed same =
    OnlyTests-passed {Y = Unit {0}} H result Memory old new passed
    (record { files = same.files; faults = same.fetch_faults; write_faults = same.write_faults; reliable = same.reliable })

-- a call after others that left the shelf as it was
pub OnlyTests-after : {S X : Type 0} (H : shelves.Ghosts S) (result : Result X Stop) (old between new : S)
    → IsSameShelf H old between → OnlyTests H result between new → OnlyTests H result old new
OnlyTests-after H (Ok x) old between new first second =
    OnlyTests-done H x old new (IsSameShelf-then H old between new first (IsSameShelf-tests H x between new second))
OnlyTests-after H (Err stop) old between new first second = record {
  files = second.files ∙ first.files;
  faults = subst (λ (n : ℕ). TestCount (stop_facts stop).kind n (H.fetch_faults new)) first.fetch_faults second.faults;
  write_faults = second.write_faults ∙ first.write_faults;
  reliable = λ is. second.reliable (first.reliable is);
}
