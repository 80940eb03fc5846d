-- What each call of a reader leaves, where a fact may speak of what its steps did: by what the parts of a call leave.
--     Parts      what the parts of a reader's calls leave
use Rattle.lab_run.specs.Prelude.{None, Option, refl, Some, ℕ, ◌≡◌, Bool, Err, false, if◌then◌else◌, nat_le, Ok, true, PcmError, Call, Prepared, Setup, Capture}
use Rattle.lab_run.specs.Prelude.{refusal_of, Course, ends, CaptureStream, in_state, waits, with_avail, avail_course, counts, read_course, reads_first}
use Rattle.lab_run.specs.Prelude.{reads_on, transfer_on, Op, Answer, Failed, count_answer, done_answer}
use Rattle.dsnoop_client.specs.Calls.{Answered}
use Rattle.dsnoop_client.specs.Course.{admitted_by, if_admitted, starts, sync_course, syncs}
use Rattle.dsnoop_client.specs.View.{is_running}
use Rattle.lab_run.specs.Reader.{call_answer, call_of}
use Rattle.lab_run.proofs.CallParts.{IsSaying, Saying}
use Rattle.snd_base.specs.declared.errors.PcmError.TheVariants as error
use Rattle.pcm_states.specs.declared.calls.Call.TheVariants as call
use Rattle.lab_lines.specs.declared.line.Op.TheVariants as op

-- What is so of the parts of the calls of a reader, which begin in a world: `Looked` after the load of a read, `Read` after a read, `Counted` after a call that answers how
-- many frames are available, and `Done` after another.
pub record Parts {W : Type 0} (Says : Saying W) (r : CaptureStream) (w : W) (Looked Done : W → Answered (Unit {0}) → Type 0)
    (Counted Read : W → Answered ℕ → Type 0) : Type 0 where
  -- it is as it was
  pub same : Done w (r, Ok tt)
  pub none : Counted w (r, Ok 0)
  pub refused : (asked : Call) (e : PcmError) → refusal_of Capture r.status asked ≡ Some e → Done w (r, Err e)
  pub not_counted : (asked : Call) (e : PcmError) → refusal_of Capture r.status asked ≡ Some e → Counted w (r, Err e)
  pub not_read : (asked : Call) (e : PcmError) → refusal_of Capture r.status asked ≡ Some e → Read w (r, Err e)
  -- a start, and a sync of one that runs
  pub starts_so : Says (Answered (Unit {0})) Done w (starts r call.Start)
  pub syncs_so : is_running r.status.state ≡ true → Says (Answered (Unit {0})) Done w (syncs r call.Sync)
  pub available : (v : W) (done : Answered (Unit {0})) → Done v done → Counted v (with_avail done)
  -- a read
  pub goes_on : is_running r.status.state ≡ true → Says (Answered (Unit {0})) Looked w (syncs r call.Transfer)
  pub begins : is_running r.status.state ≡ false → Says (Answered (Unit {0})) Looked w (starts r call.Transfer)
  pub gets_on : (n : ℕ) (v : W) (done : Answered (Unit {0})) → Looked v done → Says (Answered ℕ) Read v (transfer_on n done)
  pub waiting : (n : ℕ) → Read w (r, waits n)
  -- a call that loads nothing
  pub dropped : Done w (in_state r Setup, Ok tt)
  pub prepared : Done w (in_state r Prepared, Ok tt)

module _ {W : Type 0} (Says : Saying W) (says : IsSaying Says) {r : CaptureStream} {w : W} {Looked Done : W → Answered (Unit {0}) → Type 0}
    {Counted Read : W → Answered ℕ → Type 0} (parts : Parts Says r w Looked Done Counted Read) where
  if_admitted-says : {X : Type 0} (Q : W → Answered X → Type 0) (asked : Call) (course : Course (Answered X))
      → ((e : PcmError) → refusal_of Capture r.status asked ≡ Some e → Q w (r, Err e)) → Says (Answered X) Q w course → Says (Answered X) Q w (if_admitted r asked course)
  if_admitted-says {X = X} Q asked course refused each = by_refusal (refusal_of Capture r.status asked) refl
    where
      by_refusal : (refusal : Option PcmError) → refusal_of Capture r.status asked ≡ refusal → Says (Answered X) Q w (admitted_by {X = X} refusal r course)
      by_refusal None is = each
      by_refusal (Some e) is = says.at_end (Answered X) Q w (r, Err e) (refused e is)

  sync-says : Says (Answered (Unit {0})) Done w (sync_course r)
  sync-says = by_test (is_running r.status.state) refl
    where
      by_test : (runs : Bool) → is_running r.status.state ≡ runs → Says (Answered (Unit {0})) Done w (if runs then syncs r call.Sync else ends (r, Ok tt))
      by_test true runs = parts.syncs_so runs
      by_test false runs = says.at_end (Answered (Unit {0})) Done w (r, Ok tt) parts.same

  avail-says : Says (Answered ℕ) Counted w (avail_course r)
  unfolding counts
  avail-says = by_test (is_running r.status.state) refl
    where
      by_test : (runs : Bool) → is_running r.status.state ≡ runs → Says (Answered ℕ) Counted w (if runs then counts (syncs r call.Sync) else ends (r, Ok 0))
      by_test true runs = says.after (Answered (Unit {0})) (Answered ℕ) Done Counted w (syncs r call.Sync) (λ done. ends (with_avail done)) (parts.syncs_so runs)
          (λ v done is. says.at_end (Answered ℕ) Counted v (with_avail done) (parts.available v done is))
      by_test false runs = says.at_end (Answered ℕ) Counted w (r, Ok 0) parts.none

  read-says : (n : ℕ) → Says (Answered ℕ) Read w (read_course r n)
  unfolding reads_on reads_first
  read-says n = by_test (is_running r.status.state) refl
    where
      by_start : (starts_now : Bool) → is_running r.status.state ≡ false → Says (Answered ℕ) Read w (if starts_now then reads_first r n else ends (r, waits n))
      by_start true still =
          says.after (Answered (Unit {0})) (Answered ℕ) Looked Read w (starts r call.Transfer) (transfer_on n) (parts.begins still) (parts.gets_on n)
      by_start false still = says.at_end (Answered ℕ) Read w (r, waits n) (parts.waiting n)

      by_test : (runs : Bool) → is_running r.status.state ≡ runs → Says (Answered ℕ) Read w (if runs then reads_on r n else
          (if nat_le r.setup.params.start_threshold n then reads_first r n else ends (r, waits n)))
      by_test true runs =
          says.after (Answered (Unit {0})) (Answered ℕ) Looked Read w (syncs r call.Transfer) (transfer_on n) (parts.goes_on runs) (parts.gets_on n)
      by_test false runs = by_start (nat_le r.setup.params.start_threshold n) runs

  -- the call that a line names
  pub call_of-says : (Named : Op → W → CaptureStream × Answer → Type 0)
      → ((o : Op) (v : W) (x : Answered (Unit {0})) → Done v x → Named o v (x.0, done_answer x.1))
      → ((v : W) (x : Answered ℕ) → Counted v x → Named op.Avail v (x.0, count_answer x.1))
      → ((n : ℕ) (v : W) (x : Answered ℕ) → Read v x → Named (op.Read n) v (x.0, count_answer x.1))
      → ((o : Op) → Named o w (r, Failed error.NotSupported)) → ((o : Op) → Named o w (r, Failed error.BadState))
      → (asked : Op) → Says (CaptureStream × Answer) (Named asked) w (call_of r asked)
  call_of-says Named done counted read not_supported bad_state = by_op
    where
      by_done : (o : Op) (asked : Call) (course : Course (Answered (Unit {0}))) → Says (Answered (Unit {0})) Done w course
          → Says (CaptureStream × Answer) (Named o) w (call_answer done_answer (if_admitted r asked course))
      by_done o asked course each = says.after (Answered (Unit {0})) (CaptureStream × Answer) Done (Named o) w (if_admitted r asked course)
          (λ x. ends (x.0, done_answer x.1)) (if_admitted-says Done asked course (parts.refused asked) each)
          (λ v x is. says.at_end (CaptureStream × Answer) (Named o) v (x.0, done_answer x.1) (done o v x is))

      by_op : (o : Op) → Says (CaptureStream × Answer) (Named o) w (call_of r o)
      by_op (op.Read n) = says.after (Answered ℕ) (CaptureStream × Answer) Read (Named (op.Read n)) w (if_admitted r call.Transfer (read_course r n))
          (λ x. ends (x.0, count_answer x.1)) (if_admitted-says Read call.Transfer (read_course r n) (parts.not_read call.Transfer) (read-says n))
          (λ v x is. says.at_end (CaptureStream × Answer) (Named (op.Read n)) v (x.0, count_answer x.1) (read n v x is))
      by_op op.Avail = says.after (Answered ℕ) (CaptureStream × Answer) Counted (Named op.Avail) w (if_admitted r call.Sync (avail_course r))
          (λ x. ends (x.0, count_answer x.1)) (if_admitted-says Counted call.Sync (avail_course r) (parts.not_counted call.Sync) avail-says)
          (λ v x is. says.at_end (CaptureStream × Answer) (Named op.Avail) v (x.0, count_answer x.1) (counted v x is))
      by_op op.Start = by_done op.Start call.Start (starts r call.Start) parts.starts_so
      by_op op.Sync = by_done op.Sync call.Sync (sync_course r) sync-says
      by_op op.Drop = by_done op.Drop call.Drop (ends (in_state r Setup, Ok tt)) (says.at_end (Answered (Unit {0})) Done w (in_state r Setup, Ok tt) parts.dropped)
      by_op op.Prepare =
          by_done op.Prepare call.Prepare (ends (in_state r Prepared, Ok tt)) (says.at_end (Answered (Unit {0})) Done w (in_state r Prepared, Ok tt) parts.prepared)
      by_op op.Pause = says.at_end (CaptureStream × Answer) (Named op.Pause) w (r, Failed error.NotSupported) (not_supported op.Pause)
      by_op other = says.at_end (CaptureStream × Answer) (Named other) w (r, Failed error.BadState) (bad_state other)
