-- What a course gives where a phase leaves no choice is something that it may give.
use Rattle.lab_run.specs.Prelude.{ap, arith, inl, inr, None, Option, refl, Some, sym, ℕ, ◌+◌, ◌-◌, ◌<◌, ◌∙◌, ◌≡◌, ◌≤◌, nat_tests, Bool, Contains, false, nat_le}
use Rattle.lab_run.specs.Prelude.{true, Entry, Course, ends, gets, lays, loads, asks_left, course_text, get_by, get_text, lay_by, lay_text, load_by, load_text}
use Rattle.lab_run.specs.Prelude.{out_of_asks, AtPort, lets_pass, May, MayGet, MayLay, MayLoad, Rules, with_asks, with_stop}
use Rattle.snoop_core.specs.declared.port.Got.TheVariants as got

-- nothing is left after the last ask that passes
pub last-ask : (asks : ℕ) (left : Option ℕ) → lets_pass asks left ≡ true → lets_pass (asks + 1) left ≡ false → left ≡ Some asks
last-ask asks None passes out = absurd (cc)
last-ask asks (Some left) passes out = ap Some (grind (arith, nat_tests))

pub stop-at : (asks : ℕ) (a : AtPort) → a.left ≡ Some asks → with_stop (with_asks asks a) ≡ out_of_asks a
stop-at asks a is = rw is (rw (none asks) refl)
  where
    none : (asks : ℕ) → asks - asks ≡ 0
    none asks = omega arith

-- where no more than so many asks pass, the next one is stopped by the `die`
pub stop-after : (asks : ℕ) (a : AtPort) → lets_pass asks a.left ≡ true → lets_pass (asks + 1) a.left ≡ false
    → with_stop (with_asks asks a) ≡ out_of_asks a
stop-after asks a passes runs_out = stop-at asks a (last-ask asks a.left passes runs_out)

pub stop-at_once : (a : AtPort) → lets_pass 1 a.left ≡ false → with_stop a ≡ out_of_asks a
stop-at_once a is = rw is (by_left a.left refl is)
  where
    same : a.left ≡ Some 0 → a ≡ out_of_asks a
    same at =
        let none : asks_left a.left ≡ 0 = ap asks_left at in
        let count : a.at_gate ≡ a.at_gate + asks_left a.left = omega (arith, none) in
        λ i. record { seen = a.seen; marks = a.marks; left = at i; by_gate = a.by_gate; at_gate = count i }

    by_left : (left : Option ℕ) → a.left ≡ left → lets_pass 1 left ≡ false → a ≡ out_of_asks a
    by_left None at runs_out = absurd (cc)
    by_left (Some left) at runs_out = same (at ∙ ap Some (grind (arith, nat_tests)))

-- a step that is allowed, and that sees no position past the phase's
pub record IsStep (rules : Rules) (before : AtPort) (allowed : Type 0) (after : AtPort) : Type 0 where
  pub may : allowed
  pub seen : after.seen ≤ rules.at.position
  pub unstopped : after.by_gate ≡ before.by_gate

load-step : (rules : Rules) (a : AtPort) → Contains rules.published rules.at.position → a.seen ≤ rules.at.position
    → IsStep rules a (MayLoad rules a (load_text rules.at a).0 (load_text rules.at a).1) (load_text rules.at a).1
load-step rules a there low = by_test (lets_pass 1 a.left) refl
  where
    by_test : (one : Bool) → lets_pass 1 a.left ≡ one
        → IsStep rules a (MayLoad rules a (load_by one rules.at a).0 (load_by one rules.at a).1) (load_by one rules.at a).1
    by_test true is = record { may = (is, there, low, refl, refl); seen = omega arith; unstopped = refl }
    by_test false is = record { may = sym (stop-at_once a is); seen = low; unstopped = refl }

none-pass : (left : Option ℕ) → lets_pass 0 left ≡ true
none-pass None = refl
none-pass (Some left) = grind (arith, nat_tests)

lay-step : (rules : Rules) (a : AtPort) (e : Entry) → a.seen ≤ rules.at.position
    → IsStep rules a (MayLay rules a e (lay_text rules.at a e).0 (lay_text rules.at a e).1) (lay_text rules.at a e).1
lay-step rules a e low = by_test (nat_le rules.at.position e.frame) (lets_pass 2 a.left) (lets_pass 1 a.left) refl refl refl
  where
    by_test : (in_time two one : Bool) → nat_le rules.at.position e.frame ≡ in_time → lets_pass 2 a.left ≡ two → lets_pass 1 a.left ≡ one
        → IsStep rules a (MayLay rules a e (lay_by in_time two one rules.at e a).0 (lay_by in_time two one rules.at e a).1) (lay_by in_time two one rules.at e a).1
    by_test true true one time all some = record { may = (grind (arith, nat_tests), all, refl); seen = low; unstopped = refl }
    by_test true false true time all some =
        record { may = inl (1, inr (refl, grind (arith, nat_tests)), some, sym (stop-after 1 a some all)); seen = low; unstopped = refl }
    by_test true false false time all some =
        record { may = inl (0, inl refl, none-pass a.left, sym (stop-after 0 a (none-pass a.left) some)); seen = low; unstopped = refl }
    by_test false two true time all some = record { may = (0, refl, grind (arith, nat_tests), inl refl, some, refl); seen = low; unstopped = refl }
    by_test false two false time all some =
        record { may = inl (0, inl refl, none-pass a.left, sym (stop-after 0 a (none-pass a.left) some)); seen = low; unstopped = refl }

-- how many asks a `die` lets pass, where it doesn't let all of them pass
pub few-pass : (asks : ℕ) (left : Option ℕ) → lets_pass asks left ≡ false → (n : ℕ) × (left ≡ Some n) × (n < asks)
few-pass asks None is = absurd (cc)
few-pass asks (Some n) is = (n, refl, grind (arith, nat_tests))

get-step : (rules : Rules) (a : AtPort) (frame : ℕ) → 1 ≤ rules.at.ring.channels → a.seen ≤ rules.at.position
    → IsStep rules a (MayGet rules a frame (get_text rules.at a frame).0 (get_text rules.at a frame).1) (get_text rules.at a frame).1
get-step rules a frame some_channel low =
    by_test (nat_le rules.at.position (frame + rules.at.ring.frames)) (lets_pass rules.at.ring.channels a.left) (lets_pass 1 a.left) refl refl refl
  where
    stops : (n : ℕ) → a.left ≡ Some n → n < rules.at.ring.channels → nat_le rules.at.position (frame + rules.at.ring.frames) ≡ true
        → MayGet rules a frame got.Stopped (out_of_asks a)
    stops n is low_n time = (n, low_n, inr (grind (arith, nat_tests)), rw is (grind (arith, nat_tests)), sym (stop-at n a is))

    few : lets_pass rules.at.ring.channels a.left ≡ false → nat_le rules.at.position (frame + rules.at.ring.frames) ≡ true
        → MayGet rules a frame got.Stopped (out_of_asks a)
    few every time = let left = few-pass rules.at.ring.channels a.left every in stops left.0 left.1 left.2 time

    by_test : (in_time all one : Bool) → nat_le rules.at.position (frame + rules.at.ring.frames) ≡ in_time → lets_pass rules.at.ring.channels a.left ≡ all → lets_pass 1 a.left ≡ one
        → IsStep rules a (MayGet rules a frame (get_by in_time all one rules.at a).0 (get_by in_time all one rules.at a).1) (get_by in_time all one rules.at a).1
    by_test true true one time every some = record { may = (grind (arith, nat_tests), every, refl); seen = low; unstopped = refl }
    by_test true false true time every some = record { may = few every time; seen = low; unstopped = refl }
    by_test true false false time every some = record { may = few every time; seen = low; unstopped = refl }
    by_test false all true time every some =
        record { may = (refl, grind (arith, nat_tests), omega (arith, some_channel), inl refl, some, refl); seen = low; unstopped = refl }
    by_test false all false time every some =
        record { may = (0, omega (arith, some_channel), inl refl, none-pass a.left, sym (stop-after 0 a (none-pass a.left) some)); seen = low; unstopped = refl }

-- what a phase is to an actor: its last position is published, and the actor saw none past it
pub record IsAhead (rules : Rules) (a : AtPort) : Type 0 where
  pub published : Contains rules.published rules.at.position
  pub seen : a.seen ≤ rules.at.position

pub May-text : {X : Type 0} (rules : Rules) (a : AtPort) (course : Course X) → IsAhead rules a
    → IsStep rules a (May rules a course (course_text rules.at a course).0 (course_text rules.at a course).1) (course_text rules.at a course).0
unfolding course_text
May-text rules a (ends x) ahead = record { may = record { there = refl; result = refl }; seen = ahead.seen; unstopped = refl }
May-text rules a (loads next) ahead =
    let step = load-step rules a ahead.published ahead.seen in
    let rest = May-text rules (load_text rules.at a).1 (next (load_text rules.at a).0) (record { published = ahead.published; seen = step.seen }) in
    record { may = ((load_text rules.at a).0, (load_text rules.at a).1, step.may, rest.may); seen = rest.seen; unstopped = rest.unstopped ∙ step.unstopped }
May-text rules a (lays e next) ahead =
    let step = lay-step rules a e ahead.seen in
    let rest = May-text rules (lay_text rules.at a e).1 (next (lay_text rules.at a e).0) (record { published = ahead.published; seen = step.seen }) in
    record { may = ((lay_text rules.at a e).0, (lay_text rules.at a e).1, step.may, rest.may); seen = rest.seen; unstopped = rest.unstopped ∙ step.unstopped }
May-text rules a (gets frame next) ahead =
    let step = get-step rules a frame rules.at.ring.channels_least ahead.seen in
    let rest = May-text rules (get_text rules.at a frame).1 (next (get_text rules.at a frame).0) (record { published = ahead.published; seen = step.seen }) in
    record { may = ((get_text rules.at a frame).0, (get_text rules.at a frame).1, step.may, rest.may); seen = rest.seen; unstopped = rest.unstopped ∙ step.unstopped }
