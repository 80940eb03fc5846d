-- Where a phase leaves no choice a course gives one thing alone.
use Rattle.lab_run.specs.Prelude.{ap, arith, inl, inr, None, Option, refl, Some, sym, ℕ, ◌+◌, ◌∙◌, ◌≡◌, ◌≤◌, ◌⊎◌, nat_tests, Bool, false, nat_le, true, Ended}
use Rattle.lab_run.specs.Prelude.{Late, Stopped, Whole, Entry, Position, Got, Course, ends, gets, lays, loads, course_text, get_by, get_text, IsStill, lay_by}
use Rattle.lab_run.specs.Prelude.{lay_text, load_by, load_text, out_of_asks, AtPort, left_after, lets_pass, May, MayGet, MayLay, MayLoad, Rules, with_asks}
use Rattle.lab_run.specs.Prelude.{with_load, with_stop, with_stop_by}
use Rattle.lab_run.proofs.CourseExists.{stop-at, stop-at_once}
use Rattle.lab_run.proofs.Leads.{LoadsFirst, is_loaded}
use Rattle.snoop_core.specs.declared.port.Got.TheVariants as got

-- stops by an actor's own gate are never taken back
stop-more : (a : AtPort) → a.by_gate ≤ (with_stop a).by_gate
stop-more a = by_test (lets_pass 1 a.left)
  where
    by_test : (one : Bool) → a.by_gate ≤ (with_stop_by one a).by_gate
    by_test true = omega arith
    by_test false = omega arith

load-more : (rules : Rules) (a b : AtPort) (load : Option Position) → MayLoad rules a load b → a.by_gate ≤ b.by_gate
load-more rules a b None may = rw may (stop-more a)
load-more rules a b (Some position) (some, there, low, gone, is) = rw is (omega arith)

lay-more : (rules : Rules) (a b : AtPort) (e : Entry) (ended : Ended) → MayLay rules a e ended b → a.by_gate ≤ b.by_gate
lay-more rules a b e Whole (low, all, is) = rw is (omega arith)
lay-more rules a b e (Late word) (asks, none, high, which, all, is) = rw is (omega arith)
lay-more rules a b e Stopped (inl (asks, which, all, is)) = rw is (stop-more (with_asks asks a))
lay-more rules a b e Stopped (inr (low, all, is)) = rw is (omega arith)

get-more : (rules : Rules) (a b : AtPort) (frame : ℕ) (g : Got) → MayGet rules a frame g b → a.by_gate ≤ b.by_gate
get-more rules a b frame got.Whole (low, all, is) = rw is (omega arith)
get-more rules a b frame (got.Overtaken channel word) (none, high, few_channels, which, all, is) = rw is (omega arith)
get-more rules a b frame got.Stopped (asks, few_channels, which, all, is) = rw is (stop-more (with_asks asks a))

pub May-more : {X : Type 0} (rules : Rules) (a b : AtPort) (course : Course X) (x : X) → May rules a course b x → a.by_gate ≤ b.by_gate
May-more rules a b (ends y) x may = rw may.there (omega arith)
May-more rules a b (loads next) x (load, m, step, rest) =
    let one = load-more rules a m load step in let two = May-more rules m b (next load) x rest in omega (arith, one, two)
May-more rules a b (lays e next) x (ended, m, step, rest) =
    let one = lay-more rules a m e ended step in let two = May-more rules m b (next ended) x rest in omega (arith, one, two)
May-more rules a b (gets frame next) x (g, m, step, rest) =
    let one = get-more rules a m frame g step in let two = May-more rules m b (next g) x rest in omega (arith, one, two)

-- a step gave what it gives where the phase leaves no choice
record IsText {X : Type 0} (answer : X) (after : AtPort) (text : X × AtPort) : Type 0 where
  pub answer_is : answer ≡ text.0
  pub after_is : after ≡ text.1

-- a stop that wasn't the gate's is the `die`'s
not-by_gate : (a b : AtPort) → b ≡ with_stop a → b.by_gate ≡ a.by_gate → lets_pass 1 a.left ≡ false
not-by_gate a b is same = by_test (lets_pass 1 a.left) refl (ap (λ (x : AtPort). x.by_gate) (sym is) ∙ same)
  where
    by_test : (one : Bool) → lets_pass 1 a.left ≡ one → (with_stop_by one a).by_gate ≡ a.by_gate → lets_pass 1 a.left ≡ false
    by_test true some same_count = absurd (omega (arith, same_count))
    by_test false some same_count = some

load-only : (rules : Rules) (a b : AtPort) (load : Option Position) → IsStill rules → b.by_gate ≡ a.by_gate → MayLoad rules a load b
    → IsText load b (load_text rules.at a)
load-only rules a b None still same may =
    let none = not-by_gate a b may same in rw none (record { answer_is = refl; after_is = may ∙ stop-at_once a none })
load-only rules a b (Some position) still same (some, there, low, gone, is) = rw some (record {
  answer_is = ap Some (here (still position.frame there));
  after_is = is ∙ ap (λ (f : ℕ). with_load f a) (still position.frame there);
})
  where
    here : position.frame ≡ rules.at.position → position ≡ record { frame = rules.at.position; gone = rules.at.gone }
    here at = ap (λ (f : ℕ). let p : Position = record { frame = f; gone = position.gone } in p) at
        ∙ ap (λ (g : Bool). let p : Position = record { frame = rules.at.position; gone = g } in p) gone

-- a stop that wasn't the gate's comes at the end of the countdown
record RunsOut (asks : ℕ) (a b : AtPort) : Type 0 where
  pub left : a.left ≡ Some asks
  pub after : b ≡ out_of_asks a

runs_out : (asks : ℕ) (a b : AtPort) → lets_pass asks a.left ≡ true → b ≡ with_stop (with_asks asks a) → b.by_gate ≡ a.by_gate → RunsOut asks a b
runs_out asks a b passes is same = record { left = at; after = is ∙ stop-at asks a at }
  where
    by_left : (left : Option ℕ) → lets_pass asks left ≡ true → lets_pass 1 (left_after asks left) ≡ false → left ≡ Some asks
    by_left None one two = absurd (cc)
    by_left (Some n) one two = ap Some (grind (arith, nat_tests))

    at : a.left ≡ Some asks
    at = by_left a.left passes (not-by_gate (with_asks asks a) b is same)

lay-only : (rules : Rules) (a b : AtPort) (e : Entry) (ended : Ended) → a.seen ≡ rules.at.position → b.by_gate ≡ a.by_gate
    → MayLay rules a e ended b → IsText ended b (lay_text rules.at a e)
lay-only rules a b e Whole now same (low, all, is) =
    let time : nat_le rules.at.position e.frame ≡ true = grind (arith, nat_tests) in
    rw (time, all) (record { answer_is = refl; after_is = is })
lay-only rules a b e (Late word) now same (asks, none, high, inl zero, all, is) =
    let time : nat_le rules.at.position e.frame ≡ false = grind (arith, nat_tests) in
    let one : asks + 1 ≡ 1 = omega (arith, zero) in
    let some : lets_pass 1 a.left ≡ true = rw one at all in
    rw (time, some) (record { answer_is = ap Late none; after_is = rw one at is })
lay-only rules a b e (Late word) now same (asks, none, high, inr (one, low), all, is) = absurd (omega (arith, now, low, high))
lay-only rules a b e Stopped now same (inr (low, all, is)) = absurd (omega (arith, same, ap (λ (x : AtPort). x.by_gate) is))
lay-only rules a b e Stopped now same (inl (asks, inl none, all, is)) =
    let out : RunsOut 0 a b = runs_out 0 a b (rw none at all) (rw none at is) same in
    by_time (nat_le rules.at.position e.frame) out.left out.after
  where
    by_time : (time : Bool) → a.left ≡ Some 0 → b ≡ out_of_asks a → IsText Stopped b (lay_by time (lets_pass 2 a.left) (lets_pass 1 a.left) rules.at e a)
    by_time true left after =
        let none : lets_pass 2 a.left ≡ false = rw left (grind (arith, nat_tests)) in
        rw none (record { answer_is = refl; after_is = after })
    by_time false left after =
        let none : lets_pass 1 a.left ≡ false = rw left (grind (arith, nat_tests)) in
        rw none (record { answer_is = refl; after_is = after })
lay-only rules a b e Stopped now same (inl (asks, inr (one, low), all, is)) =
    let out : RunsOut 1 a b = runs_out 1 a b (rw one at all) (rw one at is) same in
    let time : nat_le rules.at.position e.frame ≡ true = grind (arith, nat_tests) in
    let none : lets_pass 2 a.left ≡ false = rw out.left (grind (arith, nat_tests)) in
    rw (time, none) (record { answer_is = refl; after_is = out.after })

get-only : (rules : Rules) (a b : AtPort) (frame : ℕ) (g : Got) → a.seen ≡ rules.at.position → b.by_gate ≡ a.by_gate
    → MayGet rules a frame g b → IsText g b (get_text rules.at a frame)
get-only rules a b frame got.Whole now same (low, all, is) =
    let time : nat_le rules.at.position (frame + rules.at.ring.frames) ≡ true = grind (arith, nat_tests) in
    rw (time, all) (record { answer_is = refl; after_is = is })
get-only rules a b frame (got.Overtaken channel word) now same (none, high, few_channels, inl first, all, is) =
    let time : nat_le rules.at.position (frame + rules.at.ring.frames) ≡ false = grind (arith, nat_tests) in
    let some : lets_pass 1 a.left ≡ true = rw first at all in
    rw (time, some) (record { answer_is = (λ i. got.Overtaken (first i) (none i)); after_is = rw first at is })
get-only rules a b frame (got.Overtaken channel word) now same (none, high, few_channels, inr low, all, is) = absurd (omega (arith, now, low, high))
get-only rules a b frame got.Stopped now same (asks, few_asks, which, all, is) =
    let out : RunsOut asks a b = runs_out asks a b all is same in
    let none : lets_pass rules.at.ring.channels a.left ≡ false = rw out.left (grind (arith, nat_tests)) in
    by_time (nat_le rules.at.position (frame + rules.at.ring.frames)) refl out.left none which out.after
  where
    by_time : (time : Bool) → nat_le rules.at.position (frame + rules.at.ring.frames) ≡ time → a.left ≡ Some asks → lets_pass rules.at.ring.channels a.left ≡ false
        → (asks ≡ 0) ⊎ (a.seen ≤ frame + rules.at.ring.frames) → b ≡ out_of_asks a
        → IsText got.Stopped b (get_by time (lets_pass rules.at.ring.channels a.left) (lets_pass 1 a.left) rules.at a)
    by_time true time left none which after = rw none (record { answer_is = refl; after_is = after })
    by_time false time left none (inl zero_asks) after =
        let one : lets_pass 1 a.left ≡ false = rw (left, zero_asks) (grind (arith, nat_tests)) in
        rw one (record { answer_is = refl; after_is = after })
    by_time false time left none (inr low) after = absurd (grind (arith, nat_tests))

-- the position that an actor saw is the phase's, once it loaded one
abbrev pub IsSeen : Bool → Rules → AtPort → Type 0
IsSeen loaded rules a = loaded ≡ true → a.seen ≡ rules.at.position

load-seen : (rules : Rules) (a : AtPort) (loaded : Bool) → IsSeen loaded rules a → IsSeen (is_loaded loaded (load_text rules.at a).0) rules (load_text rules.at a).1
load-seen rules a loaded seen = by_test (lets_pass 1 a.left)
  where
    by_test : (one : Bool) → is_loaded loaded (load_by one rules.at a).0 ≡ true → (load_by one rules.at a).1.seen ≡ rules.at.position
    by_test true is = refl
    by_test false is = seen is

lay-seen : (rules : Rules) (a : AtPort) (e : Entry) → (lay_text rules.at a e).1.seen ≡ a.seen
lay-seen rules a e = by_test (nat_le rules.at.position e.frame) (lets_pass 2 a.left) (lets_pass 1 a.left)
  where
    by_test : (time two one : Bool) → (lay_by time two one rules.at e a).1.seen ≡ a.seen
    by_test true true one = refl
    by_test true false one = refl
    by_test false two true = refl
    by_test false two false = refl

get-seen : (rules : Rules) (a : AtPort) (frame : ℕ) → (get_text rules.at a frame).1.seen ≡ a.seen
get-seen rules a frame = by_test (nat_le rules.at.position (frame + rules.at.ring.frames)) (lets_pass rules.at.ring.channels a.left) (lets_pass 1 a.left)
  where
    by_test : (time two one : Bool) → (get_by time two one rules.at a).1.seen ≡ a.seen
    by_test true true one = refl
    by_test true false one = refl
    by_test false two true = refl
    by_test false two false = refl

-- a step and the rest of a course, by what the step gives where the phase leaves no choice
go_on : {A X : Type 0} (rules : Rules) (next : A → Course X) (b : AtPort) (x : X) (answer : A) (m : AtPort) (text : A × AtPort)
    → IsText answer m text → (b, x) ≡ course_text rules.at m (next answer) → (b, x) ≡ course_text rules.at text.1 (next text.0)
go_on rules next b x answer m text is rest =
    rest ∙ ap (λ (n : AtPort). course_text rules.at n (next answer)) is.after_is ∙ ap (λ (y : _). course_text rules.at text.1 (next y)) is.answer_is

pub May-only : {X : Type 0} (rules : Rules) (loaded : Bool) (a b : AtPort) (course : Course X) (x : X) → IsStill rules → LoadsFirst loaded course
    → IsSeen loaded rules a → b.by_gate ≡ a.by_gate → May rules a course b x → (b, x) ≡ course_text rules.at a course
unfolding course_text
May-only rules loaded a b (ends y) x still first seen same may = λ i. (may.there i, may.result i)
May-only rules loaded a b (loads next) x still first seen same (load, m, step, rest) =
    let one = load-more rules a m load step in
    let two = May-more rules m b (next load) x rest in
    let is : IsText load m (load_text rules.at a) = load-only rules a m load still (omega (arith, one, two, same)) step in
    go_on rules next b x load m (load_text rules.at a) is
    (May-only rules (is_loaded loaded load) m b (next load) x still (first load)
    (λ now. ap (λ (y : AtPort). y.seen) is.after_is ∙ load-seen rules a loaded seen (ap (is_loaded loaded) (sym is.answer_is) ∙ now))
    (omega (arith, one, two, same)) rest)
May-only rules loaded a b (lays e next) x still first seen same (ended, m, step, rest) =
    let one = lay-more rules a m e ended step in
    let two = May-more rules m b (next ended) x rest in
    let is : IsText ended m (lay_text rules.at a e) = lay-only rules a m e ended (seen first.0) (omega (arith, one, two, same)) step in
    go_on rules next b x ended m (lay_text rules.at a e) is
    (May-only rules loaded m b (next ended) x still (first.1 ended)
    (λ now. ap (λ (y : AtPort). y.seen) is.after_is ∙ lay-seen rules a e ∙ seen now) (omega (arith, one, two, same)) rest)
May-only rules loaded a b (gets frame next) x still first seen same (g, m, step, rest) =
    let one = get-more rules a m frame g step in
    let two = May-more rules m b (next g) x rest in
    let is : IsText g m (get_text rules.at a frame) = get-only rules a m frame g (seen first.0) (omega (arith, one, two, same)) step in
    go_on rules next b x g m (get_text rules.at a frame) is
    (May-only rules loaded m b (next g) x still (first.1 g)
    (λ now. ap (λ (y : AtPort). y.seen) is.after_is ∙ get-seen rules a frame ∙ seen now) (omega (arith, one, two, same)) rest)
