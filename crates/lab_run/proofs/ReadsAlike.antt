-- Each call of a reader is like itself without its words.
use Rattle.lab_run.specs.Prelude.{ap, None, Option, refl, Some, ℕ, ◌+◌, ◌≡◌, Bool, Err, false, nat_eq, nat_le, nat_lt, Ok, Result, suc, true, zero, ◌&&◌}
use Rattle.lab_run.specs.Prelude.{PcmError, Call, Capture, refusal_of, Got, Overtaken, Course, ends, CaptureStream, read_after, with_avail, avail_course}
use Rattle.lab_run.specs.Prelude.{counts, gets_frames, read_course, reads_first, reads_on, transfer_on, transfers, Answer, Alike, ReadsAreAlike, SameAnswer}
use Rattle.lab_run.specs.Prelude.{count_answer, done_answer}
use Rattle.snoop_core.specs.declared.port.Got.TheVariants.{Whole, Stopped}
use Rattle.dsnoop_client.specs.Calls.{Answered, after_start, after_sync, taken_of}
use Rattle.dsnoop_client.specs.Course.{if_admitted, admitted_by, one_more, starts, sync_course, syncs}
use Rattle.dsnoop_client.specs.View.{avail_of, is_running}
use Rattle.lab_run.proofs.AlikeLaws.{Alike-if, Alike-then, got_without_word}
use Rattle.pcm_states.specs.declared.calls.Call.TheVariants as call

-- how far frames were got, but for the word
abbrev SameEnd : ℕ × Got → ℕ × Got → Type 0
SameEnd x y = y ≡ (x.0, got_without_word x.1)

one_more-alike : (x y : ℕ × Got) → SameEnd x y → SameEnd (one_more x) (one_more y)
one_more-alike (n, g) y is = ap one_more is

gets_frames-alike : (count first : ℕ) → Alike 0 SameEnd (gets_frames count first) (gets_frames count first)
unfolding gets_frames
gets_frames-alike zero first = refl
gets_frames-alike (suc count) first = (
  refl,
  Alike-then 0 SameEnd SameEnd (gets_frames count (first + 1)) (gets_frames count (first + 1)) (λ end. ends (one_more end)) (λ end. ends (one_more end))
      (gets_frames-alike count (first + 1)) one_more-alike,
  λ channel word. refl,
  refl,
)

pub at-once : {X : Type 0} (answer : Result X PcmError → Answer) (done : Answered X) → SameAnswer answer done done
at-once answer done = record { client = refl; answer_is = refl }

starts-alike : (c : CaptureStream) (call : Call) → Alike 0 (SameAnswer done_answer) (starts c call) (starts c call)
unfolding starts
starts-alike c call = λ load after. at-once done_answer (after_start c call load)

syncs-alike : (c : CaptureStream) (call : Call) → Alike 0 (SameAnswer done_answer) (syncs c call) (syncs c call)
unfolding syncs
syncs-alike c call = λ load after. at-once done_answer (after_sync c call load)

read_after-word : (c : CaptureStream) (n done : ℕ) (g : Got) → SameAnswer count_answer (read_after c n done g) (read_after c n done (got_without_word g))
read_after-word c n done g = by_again (nat_lt 0 n && nat_eq (avail_of c) 0) refl g
  where
    by_again : (again : Bool) → (nat_lt 0 n && nat_eq (avail_of c) 0) ≡ again → (g : Got)
        → SameAnswer count_answer (read_after c n done g) (read_after c n done (got_without_word g))
    by_again true is g = rw is (record { client = refl; answer_is = refl })
    by_again false is Whole = record { client = refl; answer_is = refl }
    by_again false is (Overtaken channel word) = rw is (record { client = refl; answer_is = refl })
    by_again false is Stopped = record { client = refl; answer_is = refl }

transfers-alike : (c : CaptureStream) (n : ℕ) → Alike 0 (SameAnswer count_answer) (transfers c n) (transfers c n)
unfolding transfers
transfers-alike c n = Alike-then 0 SameEnd (SameAnswer count_answer) (gets_frames (taken_of c n) c.next) (gets_frames (taken_of c n) c.next)
    (λ end. ends (read_after c n end.0 end.1)) (λ end. ends (read_after c n end.0 end.1)) (gets_frames-alike (taken_of c n) c.next) (λ x y is. rw is (read_after-word c n x.0 x.1))

transfer_on-alike : (n : ℕ) (x y : Answered (Unit {0})) → SameAnswer done_answer x y → Alike 0 (SameAnswer count_answer) (transfer_on n x) (transfer_on n y)
transfer_on-alike n (c, Ok a) (d, Ok b) is = rw (is.client) (transfers-alike d n)
transfer_on-alike n (c, Err e) (d, Err f) is = record { client = is.client; answer_is = is.answer_is }
transfer_on-alike n (c, Ok a) (d, Err f) is = let wrong = is.answer_is in absurd (cc)
transfer_on-alike n (c, Err e) (d, Ok b) is = let wrong = is.answer_is in absurd (cc)

reads_on-alike : (c : CaptureStream) (n : ℕ) → Alike 0 (SameAnswer count_answer) (reads_on c n) (reads_on c n)
unfolding reads_on
reads_on-alike c n = Alike-then 0 (SameAnswer done_answer) (SameAnswer count_answer) (syncs c call.Transfer) (syncs c call.Transfer) (transfer_on n) (transfer_on n) (syncs-alike c call.Transfer) (transfer_on-alike n)

reads_first-alike : (c : CaptureStream) (n : ℕ) → Alike 0 (SameAnswer count_answer) (reads_first c n) (reads_first c n)
unfolding reads_first
reads_first-alike c n = Alike-then 0 (SameAnswer done_answer) (SameAnswer count_answer) (starts c call.Transfer) (starts c call.Transfer) (transfer_on n) (transfer_on n) (starts-alike c call.Transfer) (transfer_on-alike n)

read-alike : (c : CaptureStream) (n : ℕ) → Alike 0 (SameAnswer count_answer) (read_course c n) (read_course c n)
read-alike c n = Alike-if 0 (SameAnswer count_answer) (is_running c.status.state) (reads_on c n) _ (reads_on c n) _ (reads_on-alike c n)
    (Alike-if 0 (SameAnswer count_answer) (nat_le c.setup.params.start_threshold n) (reads_first c n) (ends _) (reads_first c n) (ends _) (reads_first-alike c n) (at-once count_answer _))

sync-alike : (c : CaptureStream) → Alike 0 (SameAnswer done_answer) (sync_course c) (sync_course c)
sync-alike c = Alike-if 0 (SameAnswer done_answer) (is_running c.status.state) (syncs c call.Sync) (ends _) (syncs c call.Sync) (ends _) (syncs-alike c call.Sync) (at-once done_answer _)

with_avail-alike : (x y : Answered (Unit {0})) → SameAnswer done_answer x y → SameAnswer count_answer (with_avail x) (with_avail y)
with_avail-alike (c, Ok a) (d, Ok b) is = record { client = is.client; answer_is = ap (λ e. count_answer (Ok (avail_of e))) is.client }
with_avail-alike (c, Err e) (d, Err f) is = record { client = is.client; answer_is = is.answer_is }
with_avail-alike (c, Ok a) (d, Err f) is = let wrong = is.answer_is in absurd (cc)
with_avail-alike (c, Err e) (d, Ok b) is = let wrong = is.answer_is in absurd (cc)

counts-alike : (m n : Course (Answered (Unit {0}))) → Alike 0 (SameAnswer done_answer) m n → Alike 0 (SameAnswer count_answer) (counts m) (counts n)
unfolding counts
counts-alike m n alike = Alike-then 0 (SameAnswer done_answer) (SameAnswer count_answer) m n (λ done. ends (with_avail done)) (λ done. ends (with_avail done)) alike with_avail-alike

avail-alike : (c : CaptureStream) → Alike 0 (SameAnswer count_answer) (avail_course c) (avail_course c)
avail-alike c = Alike-if 0 (SameAnswer count_answer) (is_running c.status.state) (counts (syncs c call.Sync)) (ends _) (counts (syncs c call.Sync)) (ends _)
    (counts-alike (syncs c call.Sync) (syncs c call.Sync) (syncs-alike c call.Sync)) (at-once count_answer _)

pub admitted-alike : {X : Type 0} (answer : Result X PcmError → Answer) (c : CaptureStream) (call : Call) (m n : Course (Answered X)) → Alike 0 (SameAnswer answer) m n
    → Alike 0 (SameAnswer answer) (if_admitted c call m) (if_admitted c call n)
admitted-alike answer c call m n alike = by_refusal (refusal_of Capture c.status call)
  where
    by_refusal : (refusal : Option PcmError) → Alike 0 (SameAnswer answer) (admitted_by refusal c m) (admitted_by refusal c n)
    by_refusal None = alike
    by_refusal (Some e) = at-once answer (c, Err e)

pub reads-alike : (r : CaptureStream) → ReadsAreAlike r
reads-alike r = record {
  read = λ n. admitted-alike count_answer r call.Transfer _ _ (read-alike r n);
  start = admitted-alike done_answer r call.Start _ _ (starts-alike r call.Start);
  sync = admitted-alike done_answer r call.Sync _ _ (sync-alike r);
  avail = admitted-alike count_answer r call.Sync _ _ (avail-alike r);
}
