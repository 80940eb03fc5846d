-- What a line of a reader is answered has a text in a report, and its state afterwards.
use Rattle.run_laws.specs.Prelude.{arith, None, Option, Some, subst, ℕ, ◌≡◌, nat_tests, Err, IfSome, Ok, ⊤, PcmError, Call, Capture, refusal_of, Position, Got}
use Rattle.run_laws.specs.Prelude.{ends, Gives, Gives-behind, Gives-map, CaptureStream, facts_with, over_of, read_after, seen_at, taken_of, waits, with_answer}
use Rattle.run_laws.specs.Prelude.{with_avail, gets_frames, starts, transfer_on, transfers, Op, Answer, HasStateText, HasText, Reader, gives-so, GivesSo}
use Rattle.run_laws.specs.Prelude.{reader_line-gives}
use Rattle.dsnoop_client.specs.Calls.{Answered, after_start, after_sync}
use Rattle.dsnoop_client.specs.Course.{syncs}
use Rattle.lab_run.specs.Reader.{after_call, call_of, line_by}
use Rattle.lab_run.proofs.ReadParts.{Parts, call_of-says}
use Rattle.run_laws.proofs.TableLaws.{CanReport, CanReportIn, next-reports, refusal-reports, count-text, done-text}
use Rattle.pcm_states.specs.declared.calls.Call.TheVariants as call

-- a reader's state has a text
abbrev pub HasState : CaptureStream → Type 0
HasState r = HasStateText r.status.state

-- a report can have a call's error, and the state of its reader afterwards
abbrev Reports : {T : Type 0} → Answered T → Type 0
Reports (d, r) = CanReportIn r × HasState d

-- ---- the parts of a call

after_start-reports : (r : CaptureStream) (asked : Call) (load : Option Position) → HasState r → Reports (after_start r asked load)
after_start-reports r asked None is = (tt, is)
after_start-reports r asked (Some p) is = next-reports r.status.state asked (facts_with p.gone None None) is

after_sync-reports : (r : CaptureStream) (asked : Call) (load : Option Position) → HasState r → Reports (after_sync r asked load)
after_sync-reports r asked None is = (tt, is)
after_sync-reports r asked (Some p) is = next-reports r.status.state asked (facts_with p.gone (over_of (seen_at r p)) None) is

avail-reports : (done : Answered (Unit {0})) → Reports done → Reports (with_avail done)
avail-reports (r, Ok done) reports = (tt, reports.1)
avail-reports (r, Err e) reports = reports

number-reports : (n : ℕ) (done : Answered (Unit {0})) → Reports done → Reports (with_answer n done)
number-reports n (r, Ok done) reports = (tt, reports.1)
number-reports n (r, Err e) reports = reports

read-reports : (r : CaptureStream) (n done : ℕ) (ended : Got) → HasState r → Reports (read_after r n done ended)
read-reports r n done ended is = grind (arith, nat_tests)

waits-reports : (r : CaptureStream) (n : ℕ) → HasState r → Reports {T = ℕ} (r, waits n)
waits-reports r n is = grind (arith, nat_tests)

-- ---- the calls

starts-reports : (r : CaptureStream) (asked : Call) → HasState r → Gives Reports (starts r asked)
unfolding starts
starts-reports r asked is = λ load. after_start-reports r asked load is

syncs-reports : (r : CaptureStream) (asked : Call) → HasState r → Gives Reports (syncs r asked)
unfolding syncs
syncs-reports r asked is = λ load. after_sync-reports r asked load is

transfer_on-reports : (n : ℕ) (done : Answered (Unit {0})) → Reports done → Gives Reports (transfer_on n done)
unfolding transfers
transfer_on-reports n (r, Err e) reports = reports
transfer_on-reports n (r, Ok done) reports =
    Gives-behind Reports (gets_frames (taken_of r n) r.next) (λ end. ends (read_after r n end.0 end.1)) (λ end. read-reports r n end.0 end.1 reports.1)

reads-report : (r : CaptureStream) → HasState r
    → Parts GivesSo r tt (λ w. Reports) (λ w. Reports) (λ w. Reports) (λ w. Reports)
reads-report r is = record {
  same = (tt, is);
  none = (tt, is);
  refused = λ asked e refusal. (can-report asked e refusal, is);
  not_counted = λ asked e refusal. (can-report asked e refusal, is);
  not_read = λ asked e refusal. (can-report asked e refusal, is);
  starts_so = starts-reports r call.Start is;
  syncs_so = λ runs. syncs-reports r call.Sync is;
  available = λ w done reports. avail-reports done reports;
  goes_on = λ runs. syncs-reports r call.Transfer is;
  begins = λ still. starts-reports r call.Transfer is;
  gets_on = λ n w done reports. transfer_on-reports n done reports;
  waiting = λ n. waits-reports r n is;
  dropped = (tt, tt);
  prepared = (tt, tt);
}
  where
    can-report : (asked : Call) (e : PcmError) → refusal_of Capture r.status asked ≡ Some e → CanReport e
    can-report asked e refusal = subst (λ (o : Option PcmError). IfSome o CanReport) refusal (refusal-reports Capture r.status asked is)

-- ---- the lines

-- an answer of a report has a text, and the state of its reader
abbrev IsSaid : CaptureStream × Answer → Type 0
IsSaid (d, answer) = HasText answer × HasState d

call-said : (r : CaptureStream) (asked : Op) → HasState r → Gives IsSaid (call_of r asked)
call-said r asked is = call_of-says GivesSo gives-so (reads-report r is) (λ o w. IsSaid) (λ o w x reports. (done-text x.1 reports.0, reports.1)) (λ w x reports. (count-text x.1 reports.0, reports.1))
    (λ n w x reports. (count-text x.1 reports.0, reports.1)) (λ o. (tt, is)) (λ o. (tt, is)) asked

-- a reader that is open has a state with a text
abbrev pub IsReportable : Option CaptureStream → Type 0
IsReportable None = ⊤
IsReportable (Some r) = HasState r

-- a line's answer has a text, and the reader's state after it
abbrev pub LineReports : Reader × Answer → Type 0
LineReports (reader, answer) = IsReportable reader.own × HasText answer

pub reader_line-reports : (reader : Reader) (own : Option CaptureStream) (asked : Op) → IsReportable own → IsReportable reader.own → Gives LineReports (line_by reader own asked)
reader_line-reports reader own asked is there =
    reader_line-gives LineReports reader own asked (λ none. (there, tt)) (λ r same. (there, tt)) (λ r same. (there, tt))
    (λ r same. Gives-map IsSaid (λ x. LineReports (after_call reader asked x)) (call_of r asked) (call-said r asked (subst IsReportable same is)) (λ x said. (said.1, said.0)))
