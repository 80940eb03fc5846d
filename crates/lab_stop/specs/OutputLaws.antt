-- What a call does that writes to a shelf and puts on a sink, by what its parts do.
--     BothCountNoFault-same, BothCountNoFault-then, BothCountNoFault-done      a call that does nothing, one after another, and one that is done
--     StoresAndPuts-writes, StoresAndPuts-puts      a call that only writes, and one that puts after writes that were done
--     StoresAndPuts-done, StoresAndPuts-passed, StoresAndPuts-memory      a call that is done, stops where a part of it does, or stops for want of memory
--     StoresAndPuts-nothing      a call that writes and puts nothing
--     StoresAndPuts-after      a call after others that counted no fault
use Rattle.std.specs.Prelude.{◌≡◌, ℕ, List, Result, Ok, Err, IfErr, IsErrAnd, refl}
use Rattle.std.proofs.Common.{subst, sym, ◌∙◌}
use Rattle.lab_shelf.specs.declared.traits.Shelf as shelves
use Rattle.lab_shelf.specs.declared.traits.Sink as sinks
use Rattle.lab_stop.specs.declared.stop.Stop.{Stop}
use Rattle.lab_stop.specs.declared.stop.Stop.TheVariants.{Memory}
use Rattle.lab_stop.specs.Effects.{BothCountNoFault, CountsNoFault, OnlyWrites, PutsText, StoresAndPuts}
use Rattle.lab_stop.specs.FaultLaws.{OutputFaults-after, OutputFaults-puts, OutputFaults-writes}
use Rattle.lab_stop.specs.Stops.{IsWriteStop, OutputCount, stop_facts}

-- a call that does nothing
pub BothCountNoFault-same : {S K : Type 0} (H : shelves.Ghosts S) (J : sinks.Ghosts K) (at : S × K) → BothCountNoFault H J at at
BothCountNoFault-same H J at = record {
  fetch_faults = refl;
  faults = record { writes_same = refl; puts_same = refl };
  reliable = λ is. is;
  reliable_out = λ is. is;
}

-- two calls, one after the other
pub BothCountNoFault-then : {S K : Type 0} (H : shelves.Ghosts S) (J : sinks.Ghosts K) (old between new : S × K)
    → BothCountNoFault H J old between → BothCountNoFault H J between new → BothCountNoFault H J old new
BothCountNoFault-then H J old between new first second = record {
  fetch_faults = second.fetch_faults ∙ first.fetch_faults;
  faults = record {
    writes_same = second.faults.writes_same ∙ first.faults.writes_same;
    puts_same = second.faults.puts_same ∙ first.faults.puts_same;
  };
  reliable = λ is. second.reliable (first.reliable is);
  reliable_out = λ is. second.reliable_out (first.reliable_out is);
}

-- a call that is done
pub BothCountNoFault-done : {S K X : Type 0} (H : shelves.Ghosts S) (J : sinks.Ghosts K) (x : X) (old new : S × K)
    → StoresAndPuts H J (Ok x) old new → BothCountNoFault H J old new
BothCountNoFault-done H J x old new does = record {
  fetch_faults = does.fetch_faults;
  faults = does.faults;
  reliable = does.reliable;
  reliable_out = does.reliable_out;
}

-- a call that only writes
pub StoresAndPuts-writes : {S K X : Type 0} (H : shelves.Ghosts S) (J : sinks.Ghosts K) (result : Result X Stop) (old new : S) (out : K)
    → OnlyWrites H result old new → StoresAndPuts H J result (old, out) (new, out)
StoresAndPuts-writes H J result old new out does = record {
  only = does.only;
  fetch_faults = does.fetch_faults;
  faults = OutputFaults-writes result (H.write_faults old) (H.write_faults new) (J.faults out) (J.faults out) does.faults refl;
  reliable = does.reliable;
  reliable_out = λ is. is;
}

-- a call that puts a text, after writes that were done
pub StoresAndPuts-puts : {S K X : Type 0} (H : shelves.Ghosts S) (J : sinks.Ghosts K) (bytes : List ℕ) (result : Result X Stop)
    (old new : S) (out put : K) → CountsNoFault H old new → PutsText J bytes result out put → StoresAndPuts H J result (old, out) (new, put)
StoresAndPuts-puts H J bytes result old new out put counts puts = record {
  only = puts.only;
  fetch_faults = counts.fetch_faults;
  faults = OutputFaults-puts result (H.write_faults old) (H.write_faults new) (J.faults out) (J.faults put) counts.write_faults puts.faults;
  reliable = counts.reliable;
  reliable_out = puts.still;
}

-- a call that is done, and counts no fault
pub StoresAndPuts-done : {S K X : Type 0} (H : shelves.Ghosts S) (J : sinks.Ghosts K) (x : X) (old new : S × K)
    → BothCountNoFault H J old new → StoresAndPuts H J (Ok x) old new
StoresAndPuts-done H J x old new counts = record {
  only = tt;
  fetch_faults = counts.fetch_faults;
  faults = counts.faults;
  reliable = counts.reliable;
  reliable_out = counts.reliable_out;
}

-- a call that stops where a part of it does
pub StoresAndPuts-passed : {S K X Y : Type 0} (H : shelves.Ghosts S) (J : sinks.Ghosts K) (result : Result X Stop) (stop : Stop) (old new : S × K)
    → IsErrAnd result (λ e. e ≡ stop) → StoresAndPuts {X = Y} H J (Err stop) old new → StoresAndPuts H J result old new
StoresAndPuts-passed H J (Ok x) stop old new passed does = absurd passed
StoresAndPuts-passed H J (Err e) stop old new passed does = record {
  only = subst IsWriteStop (sym passed) does.only;
  fetch_faults = does.fetch_faults;
  faults = subst (λ (s : Stop). OutputCount (stop_facts s).kind (H.write_faults old.0) (H.write_faults new.0) (J.faults old.1) (J.faults new.1))
      (sym passed) does.faults;
  reliable = does.reliable;
  reliable_out = does.reliable_out;
}

-- a call that stops for want of memory, and counts no fault
pub StoresAndPuts-memory : {S K X : Type 0} (H : shelves.Ghosts S) (J : sinks.Ghosts K) (result : Result X Stop) (old new : S × K)
    → IsErrAnd result (λ e. e ≡ Memory) → BothCountNoFault H J old new → StoresAndPuts H J result old new
StoresAndPuts-memory H J result old new passed counts =
    StoresAndPuts-passed {Y = Unit {0}} H J result Memory old new passed
    (record {
      only = tt;
      fetch_faults = counts.fetch_faults;
      faults = counts.faults;
      reliable = counts.reliable;
      reliable_out = counts.reliable_out;
    })

-- a call that writes and puts nothing, and stops for memory alone
pub StoresAndPuts-nothing : {S K X : Type 0} (H : shelves.Ghosts S) (J : sinks.Ghosts K) (result : Result X Stop) (at : S × K)
    → IfErr result (λ stop. stop ≡ Memory) → StoresAndPuts H J result at at
StoresAndPuts-nothing H J (Ok x) at only = StoresAndPuts-done H J x at at (BothCountNoFault-same H J at)
StoresAndPuts-nothing H J (Err e) at only = StoresAndPuts-memory H J (Err e) at at only (BothCountNoFault-same H J at)

-- a call after others that counted no fault
pub StoresAndPuts-after : {S K X : Type 0} (H : shelves.Ghosts S) (J : sinks.Ghosts K) (result : Result X Stop) (old between new : S × K)
    → BothCountNoFault H J old between → StoresAndPuts H J result between new → StoresAndPuts H J result old new
StoresAndPuts-after H J result old between new first second = record {
  only = second.only;
  fetch_faults = second.fetch_faults ∙ first.fetch_faults;
  faults = OutputFaults-after result (H.write_faults old.0) (H.write_faults between.0) (H.write_faults new.0)
      (J.faults old.1) (J.faults between.1) (J.faults new.1) first.faults second.faults;
  reliable = λ is. second.reliable (first.reliable is);
  reliable_out = λ is. second.reliable_out (first.reliable_out is);
}
