-- An actor whose findings are known of did what the phase allows.
use Rattle.lab_run.specs.Prelude.{None, Option, Some, ℕ, ◌≡◌, List, [], ◌++◌, ◌∷◌, Ended, Late, Stopped, Whole, Entry, Position, Got, Course, ends, gets, lays}
use Rattle.lab_run.specs.Prelude.{loads, Takes, Op, Row, ActorPart, AreOf, DoesGet, DoesLay, DoesLoad, Each, Findings, nothing_found, PartsAreRuns, with_late}
use Rattle.lab_run.specs.Prelude.{with_overtaken, with_position, Kind, LinesMay, AtPort, May, MayGet, MayLay, MayLoad, Rules}
use Rattle.snoop_core.specs.declared.port.Got.TheVariants as got

Each-last : {X : Type 0} (P : X → Type 0) (xs : List X) (x : X) → Each P (xs ++ x ∷ []) → Each P xs × P x
Each-last P [] x each = (tt, each.0)
Each-last P (y ∷ ys) x each = let rest = Each-last P ys x each.1 in ((each.0, rest.0), rest.1)

-- what a step allows, and what is known of the findings before it
record Allowed (fact : Type 0) (rules : Rules) (found : Findings) : Type 0 where
  pub may : fact
  pub before : AreOf rules found

load-allowed : (rules : Rules) (a b : AtPort) (found after : Findings) (load : Option Position) → DoesLoad (a, found) load (b, after) → AreOf rules after
    → Allowed (MayLoad rules a load b) rules found
load-allowed rules a b found after None (is, same) known = record { may = is; before = rw same at known }
load-allowed rules a b found after (Some position) (some, newer, is, grown) known =
    let there : AreOf rules (with_position position found) = rw grown at known in
    let last = Each-last _ found.loads position there.loads in
    record { may = (some, last.1.0, newer, last.1.1, is); before = record { loads = last.0; late = there.late; overtaken = there.overtaken } }

lay-allowed : (rules : Rules) (a b : AtPort) (found after : Findings) (e : Entry) (ended : Ended) → DoesLay rules.at.ring (a, found) e ended (b, after) → AreOf rules after
    → Allowed (MayLay rules a e ended b) rules found
lay-allowed rules a b found after e Whole (low, all, is, same) known = record { may = (low, all, is); before = rw same at known }
lay-allowed rules a b found after e (Late word) (asks, none, which, all, is, grown) known =
    let there : AreOf rules (with_late e.frame e.channel found) = rw grown at known in
    let last = Each-last _ found.late (e.frame, e.channel) there.late in
    record { may = (asks, none, last.1, which, all, is); before = record { loads = there.loads; late = last.0; overtaken = there.overtaken } }
lay-allowed rules a b found after e Stopped (may, same) known = record { may = may; before = rw same at known }

get-allowed : (rules : Rules) (a b : AtPort) (found after : Findings) (frame : ℕ) (g : Got) → DoesGet rules.at.ring (a, found) frame g (b, after) → AreOf rules after
    → Allowed (MayGet rules a frame g b) rules found
get-allowed rules a b found after frame got.Whole (low, all, is, same) known = record { may = (low, all, is); before = rw same at known }
get-allowed rules a b found after frame (got.Overtaken channel word) (none, few, which, all, is, grown) known =
    let there : AreOf rules (with_overtaken frame channel found) = rw grown at known in
    let last = Each-last _ found.overtaken (frame, channel) there.overtaken in
    record { may = (none, last.1, few, which, all, is); before = record { loads = there.loads; late = there.late; overtaken = last.0 } }
get-allowed rules a b found after frame got.Stopped (asks, few, which, all, is, same) known = record { may = (asks, few, which, all, is); before = rw same at known }

known-same : (rules : Rules) (after found : Findings) → after ≡ found → AreOf rules after → AreOf rules found
known-same rules after found is known = rw is at known

course-allowed : {X : Type 0} (rules : Rules) (a b : AtPort) (found after : Findings) (course : Course X) (x : X)
    → Takes DoesLoad (DoesLay rules.at.ring) (DoesGet rules.at.ring) (a, found) course (b, after) x → AreOf rules after → Allowed (May rules a course b x) rules found
course-allowed rules a b found after (ends y) x takes known = record {
  may = record { there = (λ i. (takes.there i).0); result = takes.result };
  before = known-same rules after found (λ i. (takes.there i).1) known;
}
course-allowed rules a b found after (loads next) x (load, (m, middle), step, rest) known =
    let later = course-allowed rules m b middle after (next load) x rest known in
    let here = load-allowed rules a m found middle load step later.before in
    record { may = (load, m, here.may, later.may); before = here.before }
course-allowed rules a b found after (lays e next) x (ended, (m, middle), step, rest) known =
    let later = course-allowed rules m b middle after (next ended) x rest known in
    let here = lay-allowed rules a m found middle e ended step later.before in
    record { may = (ended, m, here.may, later.may); before = here.before }
course-allowed rules a b found after (gets frame next) x (g, (m, middle), step, rest) known =
    let later = course-allowed rules m b middle after (next g) x rest known in
    let here = get-allowed rules a m found middle frame g step later.before in
    record { may = (g, m, here.may, later.may); before = here.before }

lines-allowed : {S : Type 0} (kind : Kind S) (rules : Rules) (before after : AtPort × S) (found findings : Findings) (ops : List Op) (rows : List Row)
    → ActorPart kind rules.at.ring (before, found) ops (after, findings) rows → AreOf rules findings → Allowed (LinesMay kind rules before ops after rows) rules found
lines-allowed kind rules before after found findings [] rows (same, none) known = record {
  may = ((λ i. (same i).0), none);
  before = known-same rules findings found (λ i. (same i).1) known;
}
lines-allowed kind rules (a, s) after found findings (asked ∷ more) rows (((m, t), middle), answer, others, step, rest, all) known =
    let later = lines-allowed kind rules (m, t) after middle findings more others rest known in
    let here = course-allowed rules (kind.begins s asked a) m found middle (kind.course (kind.begins s asked a) s asked) (t, answer) step later.before in
    record { may = ((m, t), answer, others, here.may, later.may, all); before = here.before }

pub parts-are_runs : {S : Type 0} (kind : Kind S) (rules : Rules) → PartsAreRuns kind rules
parts-are_runs kind rules before after found ops rows part known = (lines-allowed kind rules before after nothing_found found ops rows part known).may
