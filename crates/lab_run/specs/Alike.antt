-- A client's calls at a port, with its samples and with the words that it found, are the courses of a run: these have no samples and no words,
-- they are those of a client with its own number as member, and of a port that was never used before.
use Rattle.std.specs.Prelude.{◌≡◌, ℕ, ◌≤◌, Bool, max, ℤ, List, [], Option, None, Some, Result, Ok, ⊤}
use Rattle.snd_base.specs.declared.errors.PcmError.{PcmError}
use Rattle.snd_base.specs.declared.places.Cursor.{Cursor}
use Rattle.snd_base.specs.Places.{first_free}
use Rattle.mix_core.specs.declared.port.Ended.TheVariants.{Whole, Late, Stopped}
use Rattle.mix_core.specs.declared.port.Entry.{Entry}
use Rattle.mix_core.specs.declared.port.Position.{Position}
use Rattle.pcm_states.specs.declared.calls.Call.TheVariants as call
use Rattle.snoop_core.specs.declared.port.Got.TheVariants as got
use Rattle.course.specs.Course.{Course, ends, gets, lays, loads}
use Rattle.dmix_client.specs.declared.stream.PlaybackStream.{PlaybackStream}
use Rattle.dmix_client.specs.Calls.{Answered, avail_answer, delay_answer, after_drop, after_prepare}
use Rattle.dmix_client.specs.Course.{if_admitted, drain_course, number_course, pause_call, pause_course, start_course, sync_course}
use Rattle.dmix_client.specs.Course as client_calls
use Rattle.dmix_client.specs.Rewind.{rewind_course, rewindable_course}
use Rattle.dmix_client.specs.Writes.{frames_in}
use Rattle.dsnoop_client.specs.declared.stream.CaptureStream as reading
use Rattle.dsnoop_client.specs.Course.{avail_course, read_course}
use Rattle.dsnoop_client.specs.Course as reading_course
use Rattle.lab_lines.specs.declared.row.Answer.{Answer}
use Rattle.lab_run.specs.Client.{count_answer, done_answer, write_course}
use Rattle.lab_run.specs.Members.{with_member}

-- two entries differ in their samples and members alone
pub record IsSamePlace (e d : Entry) : Type 0 where
  pub frame : e.frame ≡ d.frame
  pub channel : e.channel ≡ d.channel
  pub kind : e.kind ≡ d.kind

-- a position that was loaded isn't below a frame
abbrev pub IsFromOn : ℕ → Option Position → Type 0
IsFromOn from None = ⊤
IsFromOn from (Some position) = from ≤ position.frame

-- two courses take the same steps, whatever positions from a frame on are loaded, but for samples, members, and words, which are 0 in the
-- second; a relation holds between their results
abbrev pub Alike : {X Y : Type 0} → ℕ → (X → Y → Type 0) → Course X → Course Y → Type 0
Alike from R (ends x) (ends y) = R x y
Alike from R (loads m) (loads n) =
    (load : Option Position) → IsFromOn from load → Alike from R (m load) (n load)
Alike from R (lays e m) (lays d n) =
    IsSamePlace e d × Alike from R (m Whole) (n Whole)
    × ((word : ℕ) → Alike from R (m (Late word)) (n (Late 0)))
    × Alike from R (m Stopped) (n Stopped)
Alike from R (gets frame m) (gets other n) =
    (frame ≡ other) × Alike from R (m got.Whole) (n got.Whole)
    × ((channel word : ℕ)
    → Alike from R (m (got.Overtaken channel word)) (n (got.Overtaken channel 0)))
    × Alike from R (m got.Stopped) (n got.Stopped)
Alike from R m n = ⊥

-- two marks of a port are one to a client that loads no position below a frame
abbrev pub SameFrom : ℕ → Cursor → Cursor → Type 0
SameFrom from one other =
    (position : ℕ) → from ≤ position
    → max position (first_free one 0) ≡ max position (first_free other 0)

-- two results of calls leave the same client, and are answered alike in a report
pub record SameAnswer {X S : Type 0} (answer : Result X PcmError → Answer)
    (a b : S × Result X PcmError) : Type 0 where
  pub client : a.0 ≡ b.0
  pub answer_is : answer a.1 ≡ answer b.1

-- two results of a client's calls leave the same client but for its member, which is given in the second, and are answered alike in a report
pub record SameButMember {X : Type 0} (member : ℕ) (answer : Result X PcmError → Answer)
    (a b : Answered X) : Type 0 where
  pub client : with_member member a.0 ≡ b.0
  pub answer_is : answer a.1 ≡ answer b.1

-- each call of a client, whatever its ring holds and whatever it is given, is like the call without them of the client with another member, at a
-- port whose cursor and floor are the same from a frame on
pub record CallsAreAlike (from member : ℕ) (c : PlaybackStream) (ring : List ℤ)
    (cursor other floor lower : Cursor) : Type 0 where
  pub write : (samples : List ℤ) → Alike from (SameButMember member count_answer)
      (if_admitted c call.Transfer (client_calls.write_course c ring samples cursor))
      (if_admitted (with_member member c) call.Transfer
      (write_course (with_member member c) other (frames_in c samples)))
  pub start : Alike from (SameButMember member done_answer)
      (if_admitted c call.Start (start_course c ring cursor))
      (if_admitted (with_member member c) call.Start (start_course (with_member member c) [] other))
  pub sync : Alike from (SameButMember member done_answer)
      (if_admitted c call.Sync (sync_course c ring))
      (if_admitted (with_member member c) call.Sync (sync_course (with_member member c) []))
  pub drain : Alike from (SameButMember member done_answer)
      (if_admitted c call.Drain (drain_course c ring cursor))
      (if_admitted (with_member member c) call.Drain (drain_course (with_member member c) [] other))
  pub pause : (on : Bool)
      → Alike from (SameButMember member done_answer)
      (if_admitted c (pause_call on) (pause_course on c ring cursor))
      (if_admitted (with_member member c) (pause_call on)
      (pause_course on (with_member member c) [] other))
  pub avail : Alike from (SameButMember member count_answer)
      (if_admitted c call.Sync (number_course avail_answer c ring))
      (if_admitted (with_member member c) call.Sync
      (number_course avail_answer (with_member member c) []))
  pub delay : Alike from (SameButMember member count_answer)
      (if_admitted c call.Sync (number_course delay_answer c ring))
      (if_admitted (with_member member c) call.Sync
      (number_course delay_answer (with_member member c) []))
  pub drop : Alike from (SameButMember member done_answer)
      (if_admitted c call.Drop (ends (after_drop c, Ok tt)))
      (if_admitted (with_member member c) call.Drop (ends (after_drop (with_member member c), Ok tt)))
  pub prepare : Alike from (SameButMember member done_answer)
      (if_admitted c call.Prepare (ends (after_prepare c, Ok tt)))
      (if_admitted (with_member member c) call.Prepare (ends (after_prepare (with_member member c), Ok tt)))
  pub rewind : (n : ℕ)
      → Alike from (SameButMember member count_answer)
      (if_admitted c call.Transfer (rewind_course c ring floor n))
      (if_admitted (with_member member c) call.Transfer
      (rewind_course (with_member member c) [] lower n))
  pub rewindable : Alike from (SameButMember member count_answer)
      (if_admitted c call.Transfer (rewindable_course c floor))
      (if_admitted (with_member member c) call.Transfer
      (rewindable_course (with_member member c) lower))

-- each call of a reader is like itself without its words
pub record ReadsAreAlike (r : reading.CaptureStream) : Type 0 where
  pub read : (n : ℕ) → Alike 0 (SameAnswer count_answer)
      (reading_course.if_admitted r call.Transfer (read_course r n))
      (reading_course.if_admitted r call.Transfer (read_course r n))
  pub start : Alike 0 (SameAnswer done_answer)
      (reading_course.if_admitted r call.Start (reading_course.starts r call.Start))
      (reading_course.if_admitted r call.Start (reading_course.starts r call.Start))
  pub sync : Alike 0 (SameAnswer done_answer)
      (reading_course.if_admitted r call.Sync (reading_course.sync_course r))
      (reading_course.if_admitted r call.Sync (reading_course.sync_course r))
  pub avail : Alike 0 (SameAnswer count_answer)
      (reading_course.if_admitted r call.Sync (avail_course r))
      (reading_course.if_admitted r call.Sync (avail_course r))
