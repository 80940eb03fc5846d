-- Whatever a call of a stream answers, a report can have its error and the stream's state.
use Rattle.run_laws.specs.Prelude.{arith, subst, ℕ, nat_tests, Bool, Err, IfSome, Ok, Result, ⊤, PcmError, Call, Facts, State, call_row, Cell, next_of, to}
use Rattle.run_laws.specs.Prelude.{Cases, next_of-holds, Status, refusal_of, HasErrorText, HasStateText, HasText, count_answer, done_answer, reported_error}
use Rattle.pcm_states.specs.declared.calls.Outcome.{Outcome}
use Rattle.pcm_stream.specs.declared.direction.Direction.{Direction}
use Rattle.snd_base.specs.declared.errors.PcmError.TheVariants as error

-- an error of a call that a report can have, once what it doesn't print is left out
abbrev pub CanReport : PcmError → Type 0
CanReport error.LapEnd = ⊥
CanReport error.Memory = ⊥
CanReport other = ⊤

abbrev pub CanReportIn : {T : Type 0} → Result T PcmError → Type 0
CanReportIn (Ok x) = ⊤
CanReportIn (Err e) = CanReport e

-- a report has a text for it
reported-reports : (e : PcmError) → CanReport e → HasErrorText (reported_error e)
reported-reports other reports = grind (arith, nat_tests)

-- and for its answer, with or without a number
pub done-text : (r : Result (Unit {0}) PcmError) → CanReportIn r → HasText (done_answer r)
done-text (Ok done) reports = tt
done-text (Err e) reports = reported-reports e reports

pub count-text : (r : Result ℕ PcmError) → CanReportIn r → HasText (count_answer r)
count-text (Ok n) reports = tt
count-text (Err e) reports = reported-reports e reports

-- ---- the state table

abbrev pub IsOutcome : Outcome → Type 0
IsOutcome o = CanReportIn o.answer × HasStateText o.state

cases-report : (s : State) (f : Facts) → HasStateText s → Cases IsOutcome s f
cases-report s f is = grind (arith, nat_tests)

-- what a cell leads to
abbrev LeadsTo : Cell → Type 0
LeadsTo (to s) = HasStateText s
LeadsTo other = ⊤

-- each call under each state
leads : (capture : Bool) (c : Call) (s : State) → HasStateText s → LeadsTo (call_row capture c s)
leads capture c s is = grind (arith, nat_tests)

pub next-reports : (s : State) (c : Call) (f : Facts) → HasStateText s → IsOutcome (next_of s c f)
next-reports s c f is = next_of-holds IsOutcome s c f (cases-report s f is) (λ t to_it. (tt, subst LeadsTo to_it (leads f.capture c s is)))

-- ---- what a call is refused by before it does anything

pub refusal-reports : (direction : Direction) (status : Status) (asked : Call) → HasStateText status.state → IfSome (refusal_of direction status asked) CanReport
refusal-reports direction status asked is = grind (arith, nat_tests)
