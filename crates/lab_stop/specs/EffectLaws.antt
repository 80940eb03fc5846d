-- What a call does to its shelf and its sink, by what its parts do.
--     CountsNoFault-same, CountsNoFault-then      a call that does nothing, and one after another
--     CountsNoFault-writes, OnlyWrites-done      a call that only writes and is done counts no fault, and the other way round
--     OnlyWrites-written, OnlyWrites-passed, OnlyWrites-after      one call of a shelf; a call that stops where a part of it does; one after others that
--         counted no fault
--     OnlyWrites-memory, PutsText-memory      a call that does nothing, for want of memory
--     OnlyWrites-nothing      a call that writes nothing
--     PutsText-written      one call of a sink
--     PutsText-named, PutsText-done, PutsText-passed      a text that is known by other words; a call that is done, or stops, as a part of it
--     PutsText-nothing      no call for a text without bytes
use Rattle.std.specs.Prelude.{◌≡◌, ◌≢◌, ◌++◌, ℕ, List, [], Option, Some, None, Result, Ok, Err, IfErr, IsErrAnd, OnErr, OnOk, refl}
use Rattle.std.specs.Option.{option_map}
use Rattle.std.proofs.Common.{append-nil, ap, subst, sym, ◌∙◌}
use Rattle.lab_shelf.specs.declared.fault.ShelfFault.{ShelfFault}
use Rattle.lab_shelf.specs.declared.fault.ShelfFault.TheVariants.{Failed}
use Rattle.lab_shelf.specs.declared.traits.Shelf as shelves
use Rattle.lab_shelf.specs.declared.traits.Sink as sinks
use Rattle.lab_shelf.specs.Changes.{TookPart-nothing}
use Rattle.lab_shelf.specs.Counts.{IsFaultCount}
use Rattle.lab_shelf.specs.Files.{TookPart}
use Rattle.lab_stop.specs.declared.stop.Stop.{Stop}
use Rattle.lab_stop.specs.declared.stop.Stop.TheVariants.{Memory, Write}
use Rattle.lab_stop.specs.Effects.{CountsNoFault, OnlyWrites, PutsText}
use Rattle.lab_stop.specs.Stops.{IsWriteStop, WriteCount, stop_facts}
use Rattle.lab_stop.specs.Writing.{written, IfErr-written, OnErr-written, OnOk-written, WriteFaults-written, written-no_write}

-- where a call stops, it stops for no write
abbrev pub IsNoWrite : (X : Type 0) → Stop → Type 0
IsNoWrite X stop = (let r : Result X Stop = Err stop in r) ≢ Err Write

memory_is_no_write : (X : Type 0) → IsNoWrite X Memory
memory_is_no_write X is = absurd cc

done_is_no_write : {X : Type 0} (x : X) → (let r : Result X Stop = Ok x in r) ≢ Err Write
done_is_no_write x is = absurd cc

stop_is_no_write : (X Y : Type 0) (stop : Stop) → IsNoWrite Y stop → IsNoWrite X stop
stop_is_no_write X Y stop other is = other (let write : stop ≡ Write = cc in ap Err write)

-- ---- shelves

-- a call that does nothing counts no fault
pub CountsNoFault-same : {S : Type 0} (H : shelves.Ghosts S) (shelf : S) → CountsNoFault H shelf shelf
CountsNoFault-same H shelf = record { fetch_faults = refl; write_faults = refl; reliable = λ is. is }

-- two calls that count no fault count none
pub CountsNoFault-then : {S : Type 0} (H : shelves.Ghosts S) (old between new : S)
    → CountsNoFault H old between → CountsNoFault H between new → CountsNoFault H old new
CountsNoFault-then H old between new first second = record {
  fetch_faults = second.fetch_faults ∙ first.fetch_faults;
  write_faults = second.write_faults ∙ first.write_faults;
  reliable = λ is. second.reliable (first.reliable is);
}

-- a call that only writes, and is done, counts no fault
pub CountsNoFault-writes : {S X : Type 0} (H : shelves.Ghosts S) (x : X) (old new : S)
    → OnlyWrites H (Ok x) old new → CountsNoFault H old new
CountsNoFault-writes H x old new does = record {
  fetch_faults = does.fetch_faults;
  write_faults = does.faults;
  reliable = does.reliable;
}

-- a call that is done, and counts no fault, only writes
pub OnlyWrites-done : {S X : Type 0} (H : shelves.Ghosts S) (x : X) (old new : S)
    → CountsNoFault H old new → OnlyWrites H (Ok x) old new
OnlyWrites-done H x old new counts = record {
  only = tt;
  fetch_faults = counts.fetch_faults;
  faults = counts.write_faults;
  reliable = counts.reliable;
}

-- one call of a shelf that writes, as a command ends there
pub OnlyWrites-written : {S : Type 0} (H : shelves.Ghosts S) (end : Result (Unit {0}) ShelfFault) (old new : S)
    → H.fetch_faults new ≡ H.fetch_faults old → IsFaultCount end (H.write_faults old) (H.write_faults new)
    → (H.is_reliable old → H.is_reliable new) → OnlyWrites H (written end) old new
OnlyWrites-written H end old new fetches counted stays = record {
  only = IfErr-written end;
  fetch_faults = fetches;
  faults = WriteFaults-written end (H.write_faults old) (H.write_faults new) counted;
  reliable = stays;
}

-- a call that stops where a part of it does
pub OnlyWrites-passed : {S X Y : Type 0} (H : shelves.Ghosts S) (result : Result X Stop) (stop : Stop) (old new : S)
    → IsErrAnd result (λ e. e ≡ stop) → OnlyWrites {X = Y} H (Err stop) old new → OnlyWrites H result old new
OnlyWrites-passed H (Ok x) stop old new passed does = absurd passed
OnlyWrites-passed H (Err e) stop old new passed does = record {
  only = subst IsWriteStop (sym passed) does.only;
  fetch_faults = does.fetch_faults;
  faults = subst (λ (s : Stop). WriteCount (stop_facts s).kind (H.write_faults old) (H.write_faults new)) (sym passed) does.faults;
  reliable = does.reliable;
}

-- a call that does nothing, for want of memory
pub OnlyWrites-memory : {S X : Type 0} (H : shelves.Ghosts S) (result : Result X Stop) (shelf : S)
    → IsErrAnd result (λ e. e ≡ Memory) → OnlyWrites H result shelf shelf
OnlyWrites-memory H result shelf passed =
    OnlyWrites-passed {Y = Unit {0}} H result Memory shelf shelf passed
    (record { only = tt; fetch_faults = refl; faults = refl; reliable = λ is. is })

-- a call that writes nothing, and stops for memory alone
pub OnlyWrites-nothing : {S X : Type 0} (H : shelves.Ghosts S) (result : Result X Stop) (shelf : S)
    → IfErr result (λ stop. stop ≡ Memory) → OnlyWrites H result shelf shelf
OnlyWrites-nothing H (Ok x) shelf only = OnlyWrites-done H x shelf shelf (CountsNoFault-same H shelf)
OnlyWrites-nothing H (Err e) shelf only = OnlyWrites-memory H (Err e) shelf only

-- a call after others that counted no fault
pub OnlyWrites-after : {S X : Type 0} (H : shelves.Ghosts S) (result : Result X Stop) (old between new : S)
    → CountsNoFault H old between → OnlyWrites H result between new → OnlyWrites H result old new
OnlyWrites-after H (Ok x) old between new first second =
    OnlyWrites-done H x old new (CountsNoFault-then H old between new first (CountsNoFault-writes H x between new second))
OnlyWrites-after H (Err stop) old between new first second = record {
  only = second.only;
  fetch_faults = second.fetch_faults ∙ first.fetch_faults;
  faults = subst (λ (n : ℕ). WriteCount (stop_facts stop).kind n (H.write_faults new)) first.write_faults second.faults;
  reliable = λ is. second.reliable (first.reliable is);
}

-- ---- sinks

-- one call of a sink, as a command ends there
pub PutsText-written : {S : Type 0} (H : sinks.Ghosts S) (bytes : List ℕ) (end : Result (Unit {0}) ShelfFault) (old new : S)
    → OnOk end (H.taken new ≡ option_map (λ before. before ++ bytes) (H.taken old)) → OnErr end (TookPart (H.taken old) (H.taken new) bytes)
    → IsFaultCount end (H.faults old) (H.faults new) → (H.is_reliable old → H.is_reliable new) → (H.is_reliable old → end ≢ Err Failed)
    → PutsText H bytes (written end) old new
PutsText-written H bytes end old new ok err counted stays works = record {
  taken = OnOk-written (H.taken new ≡ option_map (λ before. before ++ bytes) (H.taken old)) end ok;
  text = OnErr-written (TookPart (H.taken old) (H.taken new) bytes) end err;
  only = IfErr-written end;
  faults = WriteFaults-written end (H.faults old) (H.faults new) counted;
  still = stays;
  reliable = λ is. written-no_write end (works is);
}

-- a text that is known by other words
pub PutsText-named : {S X : Type 0} (H : sinks.Ghosts S) (bytes text : List ℕ) (result : Result X Stop) (old new : S)
    → bytes ≡ text → PutsText H bytes result old new → PutsText H text result old new
PutsText-named H bytes text result old new is puts = subst (λ (b : List ℕ). PutsText H b result old new) is puts

-- a call that is done as a part of it is
pub PutsText-done : {S X Y : Type 0} (H : sinks.Ghosts S) (bytes : List ℕ) (x : X) (y : Y) (old new : S)
    → PutsText H bytes (Ok y) old new → PutsText H bytes (Ok x) old new
PutsText-done H bytes x y old new puts = record {
  taken = puts.taken;
  text = tt;
  only = tt;
  faults = puts.faults;
  still = puts.still;
  reliable = λ is. done_is_no_write x;
}

-- a call that stops where a part of it does
pub PutsText-passed : {S X Y : Type 0} (H : sinks.Ghosts S) (bytes : List ℕ) (result : Result X Stop) (stop : Stop) (old new : S)
    → IsErrAnd result (λ e. e ≡ stop) → PutsText {X = Y} H bytes (Err stop) old new → PutsText H bytes result old new
PutsText-passed H bytes (Ok x) stop old new passed puts = absurd passed
PutsText-passed {S = S} {X = X} {Y = Y} H bytes (Err e) stop old new passed puts = record {
  taken = tt;
  text = puts.text;
  only = subst IsWriteStop (sym passed) puts.only;
  faults = subst (λ (s : Stop). WriteCount (stop_facts s).kind (H.faults old) (H.faults new)) (sym passed) puts.faults;
  still = puts.still;
  reliable = λ is. subst (IsNoWrite X) (sym passed) (stop_is_no_write X Y stop (puts.reliable is));
}

-- a call that puts nothing, for want of memory
pub PutsText-memory : {S X : Type 0} (H : sinks.Ghosts S) (bytes : List ℕ) (result : Result X Stop) (stop : Stop) (sink : S)
    → IsErrAnd result (λ e. e ≡ stop) → stop ≡ Memory → PutsText H bytes result sink sink
PutsText-memory H bytes result stop sink passed is =
    PutsText-passed {Y = Unit {0}} H bytes result stop sink sink passed
    (subst (λ (s : Stop). PutsText {X = Unit {0}} H bytes (Err s) sink sink) (sym is)
    (record {
      taken = tt;
      text = TookPart-nothing (H.taken sink) bytes;
      only = tt;
      faults = refl;
      still = λ r. r;
      reliable = λ r. memory_is_no_write (Unit {0});
    }))

-- nothing more is taken of a text without bytes
same_taken : (taken : Option (List ℕ)) (bytes : List ℕ) → bytes ≡ [] → taken ≡ option_map (λ before. before ++ bytes) taken
same_taken None bytes none = refl
same_taken (Some before) bytes none = ap Some (sym (append-nil before) ∙ ap (λ (b : List ℕ). before ++ b) (sym none))

-- a text without bytes needs no call
pub PutsText-nothing : {S X : Type 0} (H : sinks.Ghosts S) (bytes : List ℕ) (x : X) (sink : S)
    → bytes ≡ [] → PutsText H bytes (Ok x) sink sink
PutsText-nothing H bytes x sink none = record {
  taken = same_taken (H.taken sink) bytes none;
  text = tt;
  only = tt;
  faults = refl;
  still = λ r. r;
  reliable = λ r. done_is_no_write x;
}
