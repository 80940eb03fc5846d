-- What a line of a client is answered has a text in a report, and its state afterwards.
use Rattle.run_laws.specs.Prelude.{arith, None, Option, Some, subst, ℕ, [], ◌≡◌, nat_tests, Err, IfSome, Ok, ⊤, PcmError, Call, Facts, State, Prepared, Running}
use Rattle.run_laws.specs.Prelude.{next_of, Playback, refusal_of, Marks, Gives, Gives-any, Gives-map, PlaybackStream, Answered, committed_by, going_on}
use Rattle.run_laws.specs.Prelude.{with_number, with_outcome, commits, CallLeaves, checks-done, CountLeaves, IsStart, rewind-counted, RewindLeaves, WriteLeaves}
use Rattle.run_laws.specs.Prelude.{take_frames, taken_back, ring_sample, Sound, Op, Answer, HasStateText, HasText, after_call, call_of, Client, line_by}
use Rattle.run_laws.specs.Prelude.{client_line-gives}
use Rattle.run_laws.proofs.EachCall.{call_of-gives, count_answer-gives}
use Rattle.run_laws.proofs.TableLaws.{CanReport, CanReportIn, next-reports, refusal-reports, count-text, done-text}
use Rattle.pcm_states.specs.declared.calls.Call.TheVariants as call

-- a client's state has a text
abbrev pub HasState : PlaybackStream → Type 0
HasState c = HasStateText c.status.state

-- a report can have a call's error, and the state of its client afterwards
abbrev Reports : {T : Type 0} → Answered T → Type 0
Reports (d, r) = CanReportIn r × HasState d

-- ---- the parts of a call

begun-reports : (c : PlaybackStream) (s : State) (f : Facts) → HasStateText s → Reports (going_on c s (next_of Prepared call.Start f))
begun-reports c s f is = grind (arith, nat_tests)

number-reports : (number : PlaybackStream → ℕ) (done : Answered (Unit {0})) → Reports done → Reports (with_number number done)
number-reports number (c, Ok done) reports = (tt, reports.1)
number-reports number (c, Err e) reports = reports

-- a state that a start leads to has a text
start-text : (s : State) → IsStart s → HasStateText s
start-text other start = grind (arith, nat_tests)

refused-reports : (c : PlaybackStream) (asked : Call) (e : PcmError) → HasState c → refusal_of Playback c.status asked ≡ Some e → CanReport e
refused-reports c asked e is refusal = subst (λ (o : Option PcmError). IfSome o CanReport) refusal (refusal-reports Playback c.status asked is)

leaves-reports : CallLeaves HasState (λ x. ⊤) Reports
leaves-reports = record {
  goes = λ c done reports. reports.1;
  same = λ c is. (tt, is);
  seen = λ c p is. is;
  started = λ c s p cursor start is. start-text s start;
  based = λ c is. tt;
  committed = λ c x is any. is;
  drains = λ c is. tt;
  paused = λ c is. tt;
  dropped = λ c is. tt;
  prepared = λ c is. tt;
  placed = λ c ring count is. Gives-any (λ x. ⊤) (commits c ring count) (λ x. tt);
  placed_none = tt;
  stopped = λ c is. (tt, is);
  refused = λ c asked e is refusal. (refused-reports c asked e is refusal, is);
  outcome = λ c x asked f is any same. next-reports c.status.state asked f is;
  begun = λ c x s f start is any same. begun-reports (committed_by c x) s f (start-text s start);
  gone = λ c s f start is none. begun-reports c s f (start-text s start);
  empty = λ c f is none. next-reports c.status.state call.Start f is;
}

counts-reports : CountLeaves HasState Reports Reports
counts-reports = record { fails = λ c e reports. reports; numbered = λ c n is. (tt, is) }

writes-reports : (n : ℕ) → WriteLeaves HasState (λ x. ⊤) Reports Reports n
writes-reports n = grind (arith, nat_tests)

rewinds-reports : RewindLeaves HasState (λ x. ⊤) Reports Reports
rewinds-reports = record {
  checked = λ c is. checks-done leaves-reports c is;
  goes = λ c done reports. reports.1;
  fails = λ c e reports. reports;
  refused = λ c e is refusal. (refused-reports c call.Transfer e is refusal, is);
  left = λ c ring first n. Gives-any (λ x. ⊤) (take_frames c.identity.member c.stretch.card c.setup.bindings (ring_sample c ring) first n) (λ x. tt);
  stopped = λ c n left is. (tt, is);
  outcome = λ c n left f is any same. number-reports (λ d. n) (with_outcome (taken_back c n left) (next_of Running call.Transfer f)) (next-reports Running call.Transfer f tt);
  fewer = λ c n is. (tt, is);
}

-- ---- the lines

-- an answer of a report has a text, and the state of its client
abbrev IsSaid : PlaybackStream × Answer → Type 0
IsSaid (d, answer) = HasText answer × HasState d

call-said : (wav : Sound) (marks : Marks) (c : PlaybackStream) (asked : Op) → HasState c → Gives IsSaid (call_of wav marks c asked)
call-said wav marks c asked is = call_of-gives leaves-reports counts-reports writes-reports IsSaid (λ x reports. (done-text x.1 reports.0, reports.1)) (λ x reports. (count-text x.1 reports.0, reports.1)) (λ d text. (tt, text)) wav marks c asked is
    (λ n same. count_answer-gives Reports IsSaid _ (λ x reports. (count-text x.1 reports.0, reports.1)) (rewind-counted rewinds-reports c [] marks.floor n is))

-- a client that is open has a state with a text
abbrev pub IsReportable : Option PlaybackStream → Type 0
IsReportable None = ⊤
IsReportable (Some c) = HasState c

-- a line's answer has a text, and the client's state after it
abbrev pub LineReports : Client × Answer → Type 0
LineReports (client, answer) = IsReportable client.own × HasText answer

pub client_line-reports : (wav : Sound) (marks : Marks) (client : Client) (own : Option PlaybackStream) (asked : Op) → IsReportable own → IsReportable client.own
    → Gives LineReports (line_by wav marks client own asked)
client_line-reports wav marks client own asked is there =
    client_line-gives LineReports wav marks client own asked (λ none. (there, tt)) (λ c same. (there, tt)) (λ c same. (there, tt))
    (λ c same at. Gives-map IsSaid (λ x. LineReports (after_call client c asked x)) (call_of wav at c asked)
    (call-said wav at c asked (subst IsReportable same is)) (λ x said. (said.1, said.0)))
