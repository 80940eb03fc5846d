-- What a call that reads answers, and what it does to its shelf, by what its parts do.
--     IsSameShelf-same, IsSameShelf-then, IsSameShelf-reads      a call that does nothing, one after another, and one that only reads and is done
--     OnlyReads-done, OnlyReads-passed, OnlyReads-memory      a call that is done, stops where a part of it does, or stops for want of memory
--     OnlyReads-after      a call after others that were done
--     AnswersFrom-memory, AnswersFrom-passed      what a call answers that stops for want of memory, or where a part of it does
--     AnswersFrom-last      what a call answers that answers what its last part does
use Rattle.std.specs.Prelude.{◌≡◌, ℕ, Result, Ok, Err, Some, IsErrAnd, refl}
use Rattle.std.proofs.Common.{subst, sym, ◌∙◌}
use Rattle.lab_shelf.specs.declared.traits.Shelf as shelves
use Rattle.lab_shelf.specs.Files.{Files}
use Rattle.lab_stop.specs.declared.stop.Stop.{Stop}
use Rattle.lab_stop.specs.declared.stop.Stop.TheVariants.{Memory}
use Rattle.lab_stop.specs.Causes.{Cause}
use Rattle.lab_stop.specs.Effects.{AnswersFrom, IsSameShelf, OnlyReads}
use Rattle.lab_stop.specs.Passing.{IsCauseOf-passed, Misses-passed}
use Rattle.lab_stop.specs.Stops.{AnswersOrStops, FetchCount, IsCauseOf, Misses, stop_facts}

-- a call that does nothing
pub IsSameShelf-same : {S : Type 0} (H : shelves.Ghosts S) (shelf : S) → IsSameShelf H shelf shelf
IsSameShelf-same H shelf = record { files = refl; fetch_faults = refl; write_faults = refl; reliable = λ is. is }

-- two calls, one after the other
pub IsSameShelf-then : {S : Type 0} (H : shelves.Ghosts S) (old between new : S)
    → IsSameShelf H old between → IsSameShelf H between new → IsSameShelf H old new
IsSameShelf-then H old between new first second = record {
  files = second.files ∙ first.files;
  fetch_faults = second.fetch_faults ∙ first.fetch_faults;
  write_faults = second.write_faults ∙ first.write_faults;
  reliable = λ is. second.reliable (first.reliable is);
}

-- a call that only reads, and is done
pub IsSameShelf-reads : {S X : Type 0} (H : shelves.Ghosts S) (x : X) (old new : S) → OnlyReads H (Ok x) old new → IsSameShelf H old new
IsSameShelf-reads H x old new does = record {
  files = does.files;
  fetch_faults = does.faults;
  write_faults = does.write_faults;
  reliable = does.reliable;
}

-- a call that is done, and leaves the shelf as it was
pub OnlyReads-done : {S X : Type 0} (H : shelves.Ghosts S) (x : X) (old new : S) → IsSameShelf H old new → OnlyReads H (Ok x) old new
OnlyReads-done H x old new same = record {
  files = same.files;
  faults = same.fetch_faults;
  write_faults = same.write_faults;
  reliable = same.reliable;
}

-- a call that stops where a part of it does
pub OnlyReads-passed : {S X Y : Type 0} (H : shelves.Ghosts S) (result : Result X Stop) (stop : Stop) (old new : S)
    → IsErrAnd result (λ e. e ≡ stop) → OnlyReads {X = Y} H (Err stop) old new → OnlyReads H result old new
OnlyReads-passed H (Ok x) stop old new passed does = absurd passed
OnlyReads-passed H (Err e) stop old new passed does = record {
  files = does.files;
  faults = subst (λ (s : Stop). FetchCount (stop_facts s).kind (H.fetch_faults old) (H.fetch_faults new)) (sym passed) does.faults;
  write_faults = does.write_faults;
  reliable = does.reliable;
}

-- a call that stops for want of memory, where the shelf is as it was
pub OnlyReads-memory : {S X : Type 0} (H : shelves.Ghosts S) (result : Result X Stop) (old new : S)
    → IsErrAnd result (λ e. e ≡ Memory) → IsSameShelf H old new → OnlyReads H result old new
OnlyReads-memory H result old new passed same =
    OnlyReads-passed {Y = Unit {0}} H result Memory old new passed
    (record { files = same.files; faults = same.fetch_faults; write_faults = same.write_faults; reliable = same.reliable })

-- a call after others that left the shelf as it was
pub OnlyReads-after : {S X : Type 0} (H : shelves.Ghosts S) (result : Result X Stop) (old between new : S)
    → IsSameShelf H old between → OnlyReads H result between new → OnlyReads H result old new
OnlyReads-after H (Ok x) old between new first second =
    OnlyReads-done H x old new (IsSameShelf-then H old between new first (IsSameShelf-reads H x between new second))
OnlyReads-after H (Err stop) old between new first second = record {
  files = second.files ∙ first.files;
  faults = subst (λ (n : ℕ). FetchCount (stop_facts stop).kind n (H.fetch_faults new)) first.fetch_faults second.faults;
  write_faults = second.write_faults ∙ first.write_faults;
  reliable = λ is. second.reliable (first.reliable is);
}

-- a call that stops for want of memory
pub AnswersFrom-memory : {S X Y : Type 0} (H : shelves.Ghosts S) (view : X → Y) (result : Result X Stop) (shelf : S)
    (given : Files → Result Y Cause) → IsErrAnd result (λ e. e ≡ Memory) → AnswersFrom H view result shelf given
AnswersFrom-memory H view (Ok x) shelf given passed = absurd passed
AnswersFrom-memory H view (Err e) shelf given passed = record {
  answer = λ m told. subst (λ (s : Stop). IsCauseOf s (given m)) (sym passed) tt;
  missing = λ is m told. subst (λ (s : Stop). Misses {X = Unit {0}} (Err s) (given m)) (sym passed) tt;
}

-- a call that stops where a part of it does, after others that left the shelf as it was; each cause of the part is one of the whole
pub AnswersFrom-passed : {S X Y Z W : Type 0} (H : shelves.Ghosts S) (view : X → Y) (of_part : Z → W) (result : Result X Stop) (stop : Stop)
    (old now : S) (given : Files → Result Y Cause) (part : Files → Result W Cause)
    → IsErrAnd result (λ e. e ≡ stop) → IsSameShelf H old now → AnswersFrom H of_part (Err stop) now part
    → ((m : Files) → H.files old ≡ Some m → (e : Cause) → part m ≡ Err e → given m ≡ Err e)
    → AnswersFrom H view result old given
AnswersFrom-passed H view of_part (Ok x) stop old now given part passed same answers whole = absurd passed
AnswersFrom-passed H view of_part (Err e) stop old now given part passed same answers whole = record {
  answer = λ m told. subst (λ (s : Stop). IsCauseOf s (given m)) (sym passed)
      (IsCauseOf-passed stop (part m) (given m) (whole m told) (answers.answer m (same.files ∙ told)));
  missing = λ is m told. subst (λ (s : Stop). Misses {X = Unit {0}} (Err s) (given m)) (sym passed)
      (Misses-passed stop (part m) (given m) (whole m told) (answers.missing (same.reliable is) m (same.files ∙ told)));
}

-- a call that answers what its last part does, after others that left the shelf as it was; what the files give for the part they give for the whole
pub AnswersFrom-last : {S X Y : Type 0} (H : shelves.Ghosts S) (view : X → Y) (result : Result X Stop) (old now : S)
    (given part : Files → Result Y Cause) → IsSameShelf H old now → AnswersFrom H view result now part
    → ((m : Files) → H.files old ≡ Some m → part m ≡ given m) → AnswersFrom H view result old given
AnswersFrom-last {S = S} {X = X} {Y = Y} H view result old now given part same answers whole = record {
  answer = λ m told. subst (λ (r : Result Y Cause). AnswersOrStops view result r) (whole m told) (answers.answer m (same.files ∙ told));
  missing = λ is m told. subst (λ (r : Result Y Cause). Misses result r) (whole m told) (answers.missing (same.reliable is) m (same.files ∙ told));
}
