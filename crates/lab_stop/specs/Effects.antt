-- What a call of a command answers by the files of its shelf, what it leaves of its shelf and its sink, and which faults it counts. A
-- shelf and a sink are seen by their ghost members.
--     CountsNoFault H old new      no fault of a shelf was counted
--     IsSameShelf H old new      no file of a shelf changed, and no fault of it was counted
--     AnswersFrom H view result shelf given      what a call that reads answers, by what the files give
--     OnlyReads H result old new      what a call that reads leaves of a shelf
--     OnlyTests H result old new      what a call that reads and tests leaves of a shelf
--     OnlyWrites H result old new      how a call that writes to a shelf stops, and what it counts
--     PutsText H bytes result old new      a call that puts a text of these bytes on a sink
--     BothCountNoFault H J old new      no fault of a shelf or a sink was counted
--     StoresAndPuts H J result old new      how a call that writes to a shelf and puts on a sink stops, and what it counts
use Rattle.std.specs.Prelude.{◌≡◌, ◌≢◌, ◌++◌, ℕ, List, Result, Err, IfErr, OnErr, OnOk}
use Rattle.std.specs.Option.{ForSome, option_map}
use Rattle.lab_shelf.specs.declared.traits.Shelf as shelves
use Rattle.lab_shelf.specs.declared.traits.Sink as sinks
use Rattle.lab_shelf.specs.Files.{Files, TookPart}
use Rattle.lab_stop.specs.declared.stop.Stop.{Stop}
use Rattle.lab_stop.specs.declared.stop.Stop.TheVariants.{Write}
use Rattle.lab_stop.specs.Causes.{Cause}
use Rattle.lab_stop.specs.Stops.{AnswersOrStops, AreSameCounts, FetchFaults, IsWriteStop, Misses, OutputFaults, TestFaults, WriteFaults}

-- no fault of a shelf was counted, and a reliable shelf stays so
pub record CountsNoFault {S : Type 0} (H : shelves.Ghosts S) (old new : S) : Type 0 where
  -- no fetch failed
  pub fetch_faults : H.fetch_faults new ≡ H.fetch_faults old
  -- no write failed
  pub write_faults : H.write_faults new ≡ H.write_faults old
  -- a reliable shelf stays so
  pub reliable : H.is_reliable old → H.is_reliable new

-- no file of a shelf changed, and no fault of it was counted (`CountsNoFault`)
pub record IsSameShelf {S : Type 0} (H : shelves.Ghosts S) (old new : S) : Type 0 where
  -- no file changed
  pub files : H.files new ≡ H.files old
  -- no fetch failed
  pub fetch_faults : H.fetch_faults new ≡ H.fetch_faults old
  -- no write failed
  pub write_faults : H.write_faults new ≡ H.write_faults old
  -- a reliable shelf stays so
  pub reliable : H.is_reliable old → H.is_reliable new

-- what a call that reads from a shelf answers, by what the files of the shelf give: it answers that, seen by a view, or stops at the cause
-- that they give; only a failed fetch, or want of memory, may stop it at another place
pub record AnswersFrom {S X Y : Type 0} (H : shelves.Ghosts S) (view : X → Y)
    (result : Result X Stop) (shelf : S) (given : Files → Result Y Cause) : Type 0 where
  -- where the files are known, it answers what they give, or stops at their cause, for a failed fetch or for memory
  pub answer : ForSome (H.files shelf) (λ files. AnswersOrStops view result (given files))
  -- over a reliable shelf, where the files are known, it stops for a read only where the file is missing that the stop names
  pub missing : H.is_reliable shelf → ForSome (H.files shelf) (λ files. Misses result (given files))

-- what a call that reads from a shelf leaves of it
pub record OnlyReads {S X : Type 0} (H : shelves.Ghosts S) (result : Result X Stop)
    (old new : S) : Type 0 where
  -- no file changes
  pub files : H.files new ≡ H.files old
  -- where the call stops for a read, the count of failed fetches rises, or is at its greatest value already; else it stays; it never
  -- stops for the words of the command line, at a test or for a write
  pub faults : FetchFaults result (H.fetch_faults old) (H.fetch_faults new)
  -- it counts no failed write
  pub write_faults : H.write_faults new ≡ H.write_faults old
  -- a reliable shelf stays so
  pub reliable : H.is_reliable old → H.is_reliable new

-- what a call that reads from a shelf and tests what it reads leaves of it: as `OnlyReads`, but that it may stop at a test
pub record OnlyTests {S X : Type 0} (H : shelves.Ghosts S) (result : Result X Stop)
    (old new : S) : Type 0 where
  -- no file changes
  pub files : H.files new ≡ H.files old
  -- where the call stops for a read, the count of failed fetches rises, or is at its greatest value already; else it stays; it never
  -- stops for the words of the command line or for a write
  pub faults : TestFaults result (H.fetch_faults old) (H.fetch_faults new)
  -- it counts no failed write
  pub write_faults : H.write_faults new ≡ H.write_faults old
  -- a reliable shelf stays so
  pub reliable : H.is_reliable old → H.is_reliable new

-- how a call that writes to a shelf stops, and what it counts; what becomes of the files is told by other clauses
pub record OnlyWrites {S X : Type 0} (H : shelves.Ghosts S) (result : Result X Stop)
    (old new : S) : Type 0 where
  -- it stops for a write or for memory
  pub only : IfErr result IsWriteStop
  -- it counts no failed fetch
  pub fetch_faults : H.fetch_faults new ≡ H.fetch_faults old
  -- where it stops for a write, the count of failed writes rises, or is at its greatest value already; else it stays
  pub faults : WriteFaults result (H.write_faults old) (H.write_faults new)
  -- a reliable shelf stays so
  pub reliable : H.is_reliable old → H.is_reliable new

-- a call puts a text of these bytes on a sink
pub record PutsText {S X : Type 0} (H : sinks.Ghosts S) (bytes : List ℕ)
    (result : Result X Stop) (old new : S) : Type 0 where
  -- the sink took the text after what it had
  pub taken : OnOk result (H.taken new ≡ option_map (λ before. before ++ bytes) (H.taken old))
  -- where the call stops, the sink took the first bytes of the text
  pub text : OnErr result (TookPart (H.taken old) (H.taken new) bytes)
  -- it stops for a write or for memory
  pub only : IfErr result IsWriteStop
  -- where it stops for a write, the count of failed puts rises, or is at its greatest value already; else it stays
  pub faults : WriteFaults result (H.faults old) (H.faults new)
  -- a reliable sink stays so, as `reliable` says of a shelf
  pub still : H.is_reliable old → H.is_reliable new
  -- on a reliable sink the call doesn't stop for a write
  pub reliable : H.is_reliable old → result ≢ Err Write

-- no fault of a shelf, the first of each pair, or of a sink, the second, was counted, and where they were reliable they stay so
pub record BothCountNoFault {S K : Type 0} (H : shelves.Ghosts S) (J : sinks.Ghosts K)
    (old new : S × K) : Type 0 where
  -- no fetch failed
  pub fetch_faults : H.fetch_faults new.0 ≡ H.fetch_faults old.0
  -- neither a write nor a put failed
  pub faults : AreSameCounts (H.write_faults old.0) (H.write_faults new.0) (J.faults old.1)
      (J.faults new.1)
  -- a reliable shelf stays so
  pub reliable : H.is_reliable old.0 → H.is_reliable new.0
  -- and so does a reliable sink
  pub reliable_out : J.is_reliable old.1 → J.is_reliable new.1

-- how a call that writes to a shelf, the first of each pair, and puts on a sink, the second, stops, and what it counts; what becomes of
-- the files and the text is told by other clauses
pub record StoresAndPuts {S K X : Type 0} (H : shelves.Ghosts S) (J : sinks.Ghosts K)
    (result : Result X Stop) (old new : S × K) : Type 0 where
  -- it stops for a write or for memory
  pub only : IfErr result IsWriteStop
  -- it counts no failed fetch
  pub fetch_faults : H.fetch_faults new.0 ≡ H.fetch_faults old.0
  -- where it stops for a write, the count of failed writes or that of failed puts rises, or is at its greatest value already; else both
  -- stay
  pub faults : OutputFaults result (H.write_faults old.0) (H.write_faults new.0)
      (J.faults old.1) (J.faults new.1)
  -- a reliable shelf stays so
  pub reliable : H.is_reliable old.0 → H.is_reliable new.0
  -- and so does a reliable sink
  pub reliable_out : J.is_reliable old.1 → J.is_reliable new.1
