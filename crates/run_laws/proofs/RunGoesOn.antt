-- Each stage that a run reaches is one from which it can go on.
use Rattle.run_laws.specs.Prelude.{arith, List, None, Option, Some, sym, ℕ, [], ◌++◌, ◌+◌, ◌∷◌, ◌≡◌, ◌≤◌, nat_tests, Contains, ⊤, Ended, Entry, Position, Got}
use Rattle.run_laws.specs.Prelude.{Course, ends, gets, lays, loads, Item, Line, Op, Row, client_kinds, items_text, ItemsMay, PhaseMay, reader_kinds, rules_of}
use Rattle.run_laws.specs.Prelude.{AreWithin, CanGoOn, EachMay, Kind, LinesMay, is_client, is_reader, ops_by, played_in, AtPort, May, MayGet, MayLay, MayLoad}
use Rattle.run_laws.specs.Prelude.{Rules, with_stop, first_stage, Session, Stage, client-IsKind, IsKind, reader-IsKind, items-more}
use Rattle.lab_run.proofs.EachLaws.{AreBehind}
use Rattle.lab_run.proofs.RunExists.{IsBehind, Within, behind-more, close-behind, first-behind, items-exist, open-behind, reaped-clients, reaped-readers, within}
use Rattle.run_laws.proofs.Published.{published-within}
use Rattle.run_laws.proofs.Stages.{lines-last}
use Rattle.lab_lines.specs.declared.line.Item.TheVariants as item

-- no position that is published in a phase is past its end
abbrev IsBounded : ℕ → Rules → Type 0
IsBounded end rules = (q : ℕ) → Contains rules.published q → q ≤ end

-- no stop changes the position that was seen
pub stop-seen : (a : AtPort) → (with_stop a).seen ≡ a.seen
stop-seen a = grind (arith, nat_tests)

load-low : (end : ℕ) (rules : Rules) (a b : AtPort) (load : Option Position) → IsBounded end rules → a.seen ≤ end → MayLoad rules a load b → b.seen ≤ end
load-low end rules a b None bounded low may = rw (may, stop-seen a) low
load-low end rules a b (Some position) bounded low (some, there, newer, gone, is) = rw is (bounded position.frame there)

pub lay-seen : (rules : Rules) (a b : AtPort) (e : Entry) (ended : Ended) → MayLay rules a e ended b → b.seen ≡ a.seen
lay-seen rules a b e ended is = grind (arith, nat_tests)

pub get-seen : (rules : Rules) (a b : AtPort) (frame : ℕ) (g : Got) → MayGet rules a frame g b → b.seen ≡ a.seen
get-seen rules a b frame g is = grind (arith, nat_tests)

pub May-low : {X : Type 0} (end : ℕ) (rules : Rules) (a b : AtPort) (course : Course X) (x : X) → IsBounded end rules → a.seen ≤ end → May rules a course b x → b.seen ≤ end
May-low end rules a b (ends y) x bounded low may = rw (may.there) low
May-low end rules a b (loads next) x bounded low (load, m, step, rest) = May-low end rules m b (next load) x bounded (load-low end rules a m load bounded low step) rest
May-low end rules a b (lays e next) x bounded low (ended, m, step, rest) = May-low end rules m b (next ended) x bounded (rw (lay-seen rules a m e ended step) low) rest
May-low end rules a b (gets frame next) x bounded low (g, m, step, rest) = May-low end rules m b (next g) x bounded (rw (get-seen rules a m frame g step) low) rest

lines-low : {S : Type 0} (kind : Kind S) → IsKind kind → (rules : Rules) (before after : AtPort × S) (ops : List Op) (rows : List Row) → IsBounded rules.at.position rules
    → before.0.seen ≤ rules.at.position → LinesMay kind rules before ops after rows → after.0.seen ≤ rules.at.position
lines-low kind is rules before after ops rows bounded low may = lines-last kind rules (λ x. x.0.seen ≤ rules.at.position)
    (λ x between asked answer step seen. May-low rules.at.position rules (kind.begins x.1 asked x.0) between.0 (kind.course (kind.begins x.1 asked x.0) x.1 asked) (between.1, answer) bounded
    (rw (is.seen x.1 asked x.0) seen) step) before after ops rows may low

-- nothing is said of stops
abbrev Any : ℕ → ℕ → Type 0
Any number stops = ⊤

any : (n : ℕ) → Any n 0
any n = tt

each-low : {S : Type 0} (kind : ℕ → Kind S) → ((n : ℕ) → IsKind (kind n)) → (rules : Rules) (ops : ℕ → List Op) (number : ℕ) (actors after : List (AtPort × S)) (rows : List Row)
    → IsBounded rules.at.position rules → AreBehind Any rules.at.position number actors → EachMay kind rules ops number actors after rows → AreBehind Any rules.at.position number after
each-low kind is rules ops number [] after rows bounded low (same, none) = rw same tt
each-low kind is rules ops number (x ∷ actors) after rows bounded low (own, others, own_rows, other_rows, may, rest, after_is, rows_are) =
    rw after_is (lines-low (kind number) (is number) rules x own (ops number) own_rows bounded low.0 may, tt, each-low kind is rules ops (number + 1) actors others other_rows bounded low.2 rest)

bounded : (session : Session) (stage : Stage) (lines : List Line) → IsBounded (stage.position + played_in lines) (rules_of session stage lines)
bounded session stage lines q there = (published-within session.card.period stage.position lines q there).1

phase-low : (session : Session) (stage after : Stage) (lines : List Line) → IsBehind Any Any stage → PhaseMay session stage lines after → IsBehind Any Any after
phase-low session stage after lines behind may = rw (may.is) (record {
  clients = reaped-clients Any session.ring end 0 may.clients (each-low (client_kinds session stage) (λ n. client-IsKind _ _ n) rules (λ n. ops_by (is_client n) lines) 0 stage.clients may.clients may.client_rows
      (bounded session stage lines) (behind-more Any stage.position end 0 stage.clients (omega arith) behind.clients) may.clients_may);
  readers = reaped-readers Any session.ring end 0 may.readers (each-low (reader_kinds stage) (λ n. reader-IsKind _ n) rules (λ n. ops_by (is_reader n) lines) 0 stage.readers may.readers may.reader_rows
      (bounded session stage lines) (behind-more Any stage.position end 0 stage.readers (omega arith) behind.readers) may.readers_may);
})
  where
    rules : Rules
    rules = rules_of session stage lines

    end : ℕ
    end = stage.position + played_in lines

items-low : (session : Session) (stage after : Stage) (items : List Item) → IsBehind Any Any stage → ItemsMay session stage items after → IsBehind Any Any after
items-low session stage after [] behind is = rw is behind
items-low session stage after (item.Opens number who ∷ items) behind (between, is, rest) =
    items-low session between after items (rw is (open-behind Any Any any any session stage who behind)) rest
items-low session stage after (item.Closes number who ∷ items) behind (between, is, rest) =
    items-low session between after items (rw is (close-behind Any Any any any session stage who behind)) rest
items-low session stage after (item.Phase lines ∷ items) behind (between, may, rest) = items-low session between after items (phase-low session stage between lines behind may) rest

-- with another fact of the stops
behind-within : {S : Type 0} (p : ℕ) (most : ℕ → ℕ) (number : ℕ) (actors : List (AtPort × S)) → AreBehind Any p number actors → AreWithin most number actors → AreBehind (Within most) p number actors
behind-within p most number [] low few = tt
behind-within p most number (x ∷ actors) low few = (low.0, few.0, behind-within p most (number + 1) actors low.2 few.1)

pub items-append : (session : Session) (first between after : Stage) (items more : List Item) → ItemsMay session first items between → ItemsMay session between more after
    → ItemsMay session first (items ++ more) after
items-append session first between after [] more is rest = rw (sym is) rest
items-append session first between after (one ∷ items) more (next, may, others) rest = (next, may, items-append session next between after items more others rest)

pub goes-on : (session : Session) (done others : List Item) (stage : Stage) → ItemsMay session (first_stage session) done stage → CanGoOn session done others stage
goes-on session done others stage may = record {
  may = items-append session (first_stage session) stage (items_text session stage others) done others may more;
  more = (items-more session stage (items_text session stage others) others more).more;
  rows = (items-more session stage (items_text session stage others) others more).rows;
  clients = λ most few. within _ most 0 _ ((items-exist (Within most) Any (λ n. omega arith) any session stage others
      (record { clients = behind-within stage.position most 0 stage.clients behind.clients few; readers = behind.readers })).behind.clients);
  readers = λ most few. within _ most 0 _ ((items-exist Any (Within most) any (λ n. omega arith) session stage others
      (record { clients = behind.clients; readers = behind-within stage.position most 0 stage.readers behind.readers few })).behind.readers);
}
  where
    behind : IsBehind Any Any stage
    behind = items-low session (first_stage session) stage done (first-behind Any Any any any session) may

    more : ItemsMay session stage others (items_text session stage others)
    more = (items-exist Any Any any any session stage others behind).may
