-- What a call of a client leaves where it is late: the place that it names, and XRUN; of a rewind the last sample that it couldn't take back,
-- and else the first sample that isn't placed, which is of a frame that isn't placed whole. Each call keeps its client's bindings.
use Rattle.run_laws.specs.Prelude.{ap, arith, length, List, None, Some, subst, sym, ℕ, [], ◌+◌, ◌<◌, ◌≡◌, false≢true, nat_tests, Err, false, IfSome, Ok, Result}
use Rattle.run_laws.specs.Prelude.{ℤ, ⊤, PcmError, rising, Call, Facts, State, Prepared, Running, Xrun, next_of, Marks, Ended, ends, Gives, Commit}
use Rattle.run_laws.specs.Prelude.{PlaybackStream, Answered, committed_by, going_on_by, late_at, late_of, with_number, with_outcome, commits, CallLeaves}
use Rattle.run_laws.specs.Prelude.{CountLeaves, rewind-counted, RewindLeaves, WriteLeaves, checks, last_channel, last_laid, take_frames, taken_back}
use Rattle.run_laws.specs.Prelude.{ring_sample, Sound, Op, Answer, Done, Failed, call_of, Client, client_kind, count_answer, done_answer, LineMay, AtPort}
use Rattle.run_laws.specs.Prelude.{Rules, open_client-line, is_rewind, IsLastSample, IsNextSample}
use Rattle.run_laws.proofs.EachCall.{call_of-gives, count_answer-gives}
use Rattle.run_laws.proofs.LateLaws.{LateAnswer, LateIn, LateWhy, facts-late, refused-late, reported-late}
use Rattle.run_laws.proofs.OnwardLines.{InOpen}
use Rattle.run_laws.proofs.PlayedCourses.{CommitEnd, From-gives, RewindEnd, frames-back, frames-keep}
use Rattle.run_laws.proofs.Withdrawn.{ByEnd}
use Rattle.snd_base.specs.declared.errors.PcmError.TheVariants as error
use Rattle.mix_core.specs.declared.port.Ended.TheVariants as ended
use Rattle.pcm_states.specs.declared.calls.Call.TheVariants as call
use Rattle.lab_lines.specs.declared.line.Op.TheVariants as op

-- ---- what a commit placed of a frame

-- a fact where a commit ended late
abbrev WhereLate : Type 0 → Ended → Type 0
WhereLate P ended.Whole = ⊤
WhereLate P (ended.Late word) = P
WhereLate P ended.Stopped = ⊤

-- of a fact of steps that ended before
where-late : (P Q : Type 0) (e : Ended) → ByEnd e P Q → WhereLate Q e
where-late P Q ended.Whole is = tt
where-late P Q (ended.Late word) is = is
where-late P Q ended.Stopped is = tt

-- a commit of a client with these bindings
abbrev Short : List ℕ → Commit → Type 0
Short b x = WhereLate (x.part < length (rising b)) x.ended

commits-short : (b : List ℕ) (c : PlaybackStream) (ring : List ℤ) (count : ℕ) → c.setup.bindings ≡ b → Gives (Short b) (commits c ring count)
commits-short b c ring count is = subst (λ (l : List ℕ). Gives (Short l) (commits c ring count)) is
    (From-gives (λ t x. (t ≡ 0) × CommitEnd count (length (rising c.setup.bindings)) (c.stretch.card + c.stretch.committed) 0 x) (Short c.setup.bindings) (commits c ring count)
    (frames-keep 0 0 c.identity.member c.stretch.card c.setup.bindings (ring_sample c ring) count c.stretch.committed (λ none. omega arith))
    (λ t x end. where-late (x.part ≡ 0) (x.part < length (rising c.setup.bindings)) x.ended end.1.0.ends))

-- ---- what a rewind leaves of a frame

-- where a rewind was late, a sample is left
abbrev HasLeft : Commit → Type 0
HasLeft left = WhereLate (0 < left.frames + left.part) left.ended

frames-left : (member card : ℕ) (bindings : List ℕ) (samples : ℕ → ℕ → ℤ) (first n : ℕ) → Gives HasLeft (take_frames member card bindings samples first n)
frames-left member card bindings samples first n =
    From-gives (λ t left. (t ≡ 0) × RewindEnd n (length bindings) (card + first) 0 left) HasLeft (take_frames member card bindings samples first n)
    (frames-back 0 0 member card bindings (λ none. omega arith) samples first n) (λ t left end. where-late ⊤ (0 < left.frames + left.part) left.ended end.1.2)

-- the place of a sample that wasn't taken back is the last one
last-left : (c : PlaybackStream) (n : ℕ) (left : Commit) → HasLeft left
    → IfSome (late_at left.ended (last_laid (taken_back c n left)) (last_channel (taken_back c n left))) (LateWhy (IsLastSample (taken_back c n left)))
last-left c n left some = grind (arith, nat_tests)

-- ---- a call's parts

-- a call left a client with these bindings, and where it is late a fact holds of the place that it names, and the client is in XRUN
abbrev Kept : {T : Type 0} → (PlaybackStream → ℕ → ℕ → Type 0) → List ℕ → Answered T → Type 0
Kept Q b (d, r) = (d.setup.bindings ≡ b) × LateIn (λ frame channel. Q d frame channel × (d.status.state ≡ Xrun)) r

-- the first sample that isn't placed, of a frame that isn't placed whole
abbrev pub IsMissed : List ℕ → PlaybackStream → ℕ → ℕ → Type 0
IsMissed b d frame channel = IsNextSample d frame channel × (d.stretch.part < length (rising b))

-- the place that is late in a commit
commit-missed : (b : List ℕ) (c : PlaybackStream) (x : Commit) → Short b x → IfSome (late_of c x) (LateWhy (IsMissed b (committed_by c x)))
commit-missed b c x = grind (arith, nat_tests)

outcome-missed : (b : List ℕ) (c : PlaybackStream) (x : Commit) (s : State) (asked : Call) (f : Facts) → Short b x → f.late ≡ late_of c x
    → LateIn (λ frame channel. IsMissed b (committed_by c x) frame channel × ((next_of s asked f).state ≡ Xrun)) (next_of s asked f).answer
outcome-missed b c x s asked f short same = facts-late (IsMissed b (committed_by c x)) s asked f (late_of c x) same (commit-missed b c x short)

going_on-kept : (b : List ℕ) (c : PlaybackStream) (state refused : State) (r : Result (Unit {0}) PcmError) → c.setup.bindings ≡ b
    → LateIn (λ frame channel. IsMissed b c frame channel × (refused ≡ Xrun)) r → Kept (IsMissed b) b (going_on_by r c state refused)
going_on-kept b c state refused (Ok done) is late = (is, tt)
going_on-kept b c state refused (Err e) is late = (is, late)

leaves-kept : (b : List ℕ) → CallLeaves (λ c. c.setup.bindings ≡ b) (Short b) (Kept (IsMissed b) b)
leaves-kept b = record {
  goes = λ c done is. is.0;
  same = λ c is. (is, tt);
  seen = λ c p is. is;
  started = λ c state p cursor start is. is;
  based = λ c is. is;
  committed = λ c x is short. is;
  drains = λ c is. is;
  paused = λ c is. is;
  dropped = λ c is. is;
  prepared = λ c is. is;
  placed = λ c ring count is. commits-short b c ring count is;
  placed_none = tt;
  stopped = λ c is. (is, tt);
  refused = λ c asked e is refusal. (is, refused-late (λ frame channel. IsMissed b c frame channel × (c.status.state ≡ Xrun)) c asked e refusal);
  outcome = λ c x asked f is short same. (is, outcome-missed b c x c.status.state asked f short same);
  begun = λ c x state f start is short same.
      going_on-kept b (committed_by c x) state _ (next_of Prepared call.Start f).answer is (outcome-missed b c x Prepared call.Start f short same);
  gone = λ c state f start is none. going_on-kept b c state _ (next_of Prepared call.Start f).answer is (facts-late (IsMissed b c) Prepared call.Start f None none tt);
  empty = λ c f is none. (is, facts-late (IsMissed b c) c.status.state call.Start f None none tt);
}

counts-kept : (b : List ℕ) → CountLeaves (λ c. c.setup.bindings ≡ b) (Kept (IsMissed b) b) (Kept (IsMissed b) b)
counts-kept b = record { fails = λ c e is. is; numbered = λ c n is. (is, tt) }

writes-kept : (b : List ℕ) (n : ℕ) → WriteLeaves (λ c. c.setup.bindings ≡ b) (Short b) (Kept (IsMissed b) b) (Kept (IsMissed b) b) n
writes-kept b n = grind (arith, nat_tests)

-- ---- the parts of a rewind

number-kept : (b : List ℕ) (number : PlaybackStream → ℕ) (done : Answered (Unit {0})) → Kept IsLastSample b done → Kept IsLastSample b (with_number number done)
number-kept b number (c, Ok done) is = (is.0, tt)
number-kept b number (c, Err e) is = is

-- the load before it finds nothing late
checks-kept : (b : List ℕ) (c : PlaybackStream) → c.setup.bindings ≡ b → Gives (Kept IsLastSample b) (checks c)
unfolding checks
checks-kept b c is = grind (arith, nat_tests)

rewinds-kept : (b : List ℕ) → RewindLeaves (λ c. c.setup.bindings ≡ b) HasLeft (Kept IsLastSample b) (Kept IsLastSample b)
rewinds-kept b = record {
  checked = λ c is. checks-kept b c is;
  goes = λ c done is. is.0;
  fails = λ c e is. is;
  refused = λ c e is refusal. (is, refused-late (λ frame channel. IsLastSample c frame channel × (c.status.state ≡ Xrun)) c call.Transfer e refusal);
  left = λ c ring first n. frames-left c.identity.member c.stretch.card c.setup.bindings (ring_sample c ring) first n;
  stopped = λ c n left is. (is, tt);
  outcome = λ c n left f is some same. number-kept b (λ d. n) (with_outcome (taken_back c n left) (next_of Running call.Transfer f))
      (is, facts-late (IsLastSample (taken_back c n left)) Running call.Transfer f _ same (last-left c n left some));
  fewer = λ c n is. (is, tt);
}

-- ---- the calls of lines

-- a call's answer, as a report has it
abbrev pub NamedBy : (PlaybackStream → ℕ → ℕ → Type 0) → List ℕ → PlaybackStream × Answer → Type 0
NamedBy Q b (d, answer) = (d.setup.bindings ≡ b) × LateAnswer (λ frame channel. Q d frame channel × (d.status.state ≡ Xrun)) answer

done-named : (Q : PlaybackStream → ℕ → ℕ → Type 0) (b : List ℕ) (x : Answered (Unit {0})) → Kept Q b x → NamedBy Q b (x.0, done_answer x.1)
done-named Q b (d, Ok done) is = (is.0, tt)
done-named Q b (d, Err e) is = (is.0, reported-late (λ frame channel. Q d frame channel × (d.status.state ≡ Xrun)) e is.1)

count-named : (Q : PlaybackStream → ℕ → ℕ → Type 0) (b : List ℕ) (x : Answered ℕ) → Kept Q b x → NamedBy Q b (x.0, count_answer x.1)
count-named Q b (d, Ok n) is = (is.0, tt)
count-named Q b (d, Err e) is = (is.0, reported-late (λ frame channel. Q d frame channel × (d.status.state ≡ Xrun)) e is.1)

-- the place that a call names where it is late
abbrev pub Place : List ℕ → Op → PlaybackStream → ℕ → ℕ → Type 0
Place b (op.Rewind n) c frame channel = IsLastSample c frame channel
Place b other c frame channel = IsMissed b c frame channel

call-late : (b : List ℕ) (wav : Sound) (marks : Marks) (c : PlaybackStream) (asked : Op) → c.setup.bindings ≡ b → Gives (NamedBy (Place b asked) b) (call_of wav marks c asked)
call-late b wav marks c (op.Rewind n) is =
    count_answer-gives (Kept IsLastSample b) (NamedBy IsLastSample b) _ (count-named IsLastSample b) (rewind-counted (rewinds-kept b) c [] marks.floor n is)
call-late b wav marks c asked is = call_of-gives (leaves-kept b) (counts-kept b) (writes-kept b) (NamedBy (IsMissed b) b) (done-named (IsMissed b) b) (count-named (IsMissed b) b)
    (λ d same. (same, tt)) wav marks c asked is (λ n rewind. absurd (false≢true (ap is_rewind rewind)))

pub missed-of : (b : List ℕ) (asked : Op) (x : PlaybackStream × Answer) → is_rewind asked ≡ false → NamedBy (Place b asked) b x → NamedBy (IsMissed b) b x
missed-of b (op.Rewind n) x not named = absurd (false≢true (sym not))
missed-of b other x not named = named

-- a line of an open client leaves it open, bound as it was; and where it was late, it names the place, and the client is in XRUN
pub line-late : (rules : Rules) (phase : ℕ) (wav : Sound) (number : ℕ) (bindings : List ℕ) (a b : AtPort) (client after : Client) (c : PlaybackStream) (asked : Op) (answer : Answer)
    → client.own ≡ Some c → c.setup.bindings ≡ bindings → LineMay (client_kind phase wav number) rules (a, client) asked (b, after) answer
    → InOpen after.own (λ d. NamedBy (Place bindings asked) bindings (d, answer))
line-late rules phase wav number bindings a b client after c asked answer is same may =
    open_client-line (λ x. InOpen x.0.own (λ d. NamedBy (Place bindings asked) bindings (d, x.1))) rules phase wav number a b client after c asked answer is
    (stays (Failed error.Stopped) tt) (stays Done tt) (λ going marks. call-late bindings wav marks c asked same) may
  where
    stays : (given : Answer) → LateAnswer (λ frame channel. Place bindings asked c frame channel × (c.status.state ≡ Xrun)) given
        → InOpen client.own (λ d. NamedBy (Place bindings asked) bindings (d, given))
    stays given late = subst (λ own. InOpen own (λ d. NamedBy (Place bindings asked) bindings (d, given))) (sym is) (same, late)
