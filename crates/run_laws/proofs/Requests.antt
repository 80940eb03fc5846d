-- The rows of a phase are those of its lines in the order of a report: the card's, then those of each client and of each reader.
use Rattle.run_laws.specs.Prelude.{ap, arith, List, refl, sym, ℕ, [], ◌++◌, ◌+◌, ◌-◌, ◌<◌, ◌∙◌, ◌∷◌, ◌≡◌, ◌≢◌, ◌≤◌, eqb-true, nat_tests, append-nil}
use Rattle.run_laws.specs.Prelude.{append_assoc, All-head, All-tail, All, Bool, false, map, suc, true, zero, ◌==◌, Actor, Card, Line, Op, Request, IsActor}
use Rattle.run_laws.specs.Prelude.{request_of_row, is_of_card, played_by, before_place, in_order, of_place, place_of_actor, request_of, card_row, card_rows}
use Rattle.run_laws.specs.Prelude.{is_client, is_reader, ops_by}
use Rattle.lab_lines.specs.declared.line.Actor.TheVariants.{Client, Reader}
use Rattle.lab_lines.specs.declared.line.Op.TheVariants as op

-- an actor is asked for something in a phase
abbrev pub asks : ℕ → Actor → Op → Request
asks phase who asked = record { phase = phase; actor = who; op = asked }

-- the lines of so many places from one on
unfoldable pub from_place : List Line → ℕ → ℕ → List Line
from_place lines first zero = []
from_place lines first (suc count) = of_place lines first ++ from_place lines (suc first) count

-- those of the places up to one, in two parts
pub before_place-parts : (lines : List Line) (first count end : ℕ) → end ≡ first + count → before_place lines end ≡ before_place lines first ++ from_place lines first count
unfolding before_place from_place
before_place-parts lines first zero end is =
    let same : end ≡ first = omega (arith, is) in ap (before_place lines) same ∙ sym (append-nil (before_place lines first))
before_place-parts lines first (suc count) end is =
    before_place-parts lines (suc first) count end (omega (arith, is))
    ∙ append_assoc (before_place lines first) (of_place lines first) (from_place lines (suc first) count)

-- ---- the lines of one place are those of its actor

-- an actor is the other
abbrev is_theirs : Actor → Actor → Bool
is_theirs Card = is_of_card
is_theirs (Client n) = is_client n
is_theirs (Reader n) = is_reader n

theirs-there : (clients readers place : ℕ) (who other : Actor) → clients ≤ 64 → IsActor clients readers who → IsActor clients readers other → place ≡ place_of_actor who
    → is_theirs who other ≡ (place_of_actor other == place)
theirs-there clients readers place who other few is there at = grind (arith, nat_tests)

theirs-only : (who other : Actor) → is_theirs who other ≡ true → other ≡ who
theirs-only who other is = grind (arith, nat_tests)

pub ops-requests : (clients readers phase : ℕ) (who : Actor) (place : ℕ) (lines : List Line) → All (λ (line : Line). IsActor clients readers line.actor) lines
    → clients ≤ 64 → IsActor clients readers who → place ≡ place_of_actor who
    → map (asks phase who) (ops_by (is_theirs who) lines) ≡ map (request_of phase) (of_place lines place)
ops-requests clients readers phase who place [] are few is at = refl
ops-requests clients readers phase who place (line ∷ lines) are few is at = by_test (is_theirs who line.actor) refl
    (sym (theirs-there clients readers place who line.actor few is (All-head (λ (l : Line). IsActor clients readers l.actor) line lines are) at))
    (ops-requests clients readers phase who place lines (All-tail (λ (l : Line). IsActor clients readers l.actor) line lines are) few is at)
  where
    by_test : (b : Bool) → is_theirs who line.actor ≡ b → (place_of_actor line.actor == place) ≡ is_theirs who line.actor
        → map (asks phase who) (ops_by (is_theirs who) lines) ≡ map (request_of phase) (of_place lines place)
        → map (asks phase who) (ops_by (is_theirs who) (line ∷ lines)) ≡ map (request_of phase) (of_place (line ∷ lines) place)
    by_test true mine there rest = rw mine (rw (there ∙ mine) (λ i. record { phase = phase; actor = sym (theirs-only who line.actor mine) i; op = line.op } ∷ rest i))
    by_test false mine there rest = rw mine (rw (there ∙ mine) rest)

-- ---- the card's rows

card_row-request : (phase position : ℕ) (asked : Op) → request_of_row (card_row phase position asked) ≡ asks phase Card asked
card_row-request phase position op.Unplug = refl
card_row-request phase position other = refl

card_rows-asks : (phase position : ℕ) (ops : List Op) → map request_of_row (card_rows phase position ops) ≡ map (asks phase Card) ops
card_rows-asks phase position [] = refl
card_rows-asks phase position (asked ∷ more) = λ i. card_row-request phase position asked i ∷ card_rows-asks phase (position + played_by asked) more i

pub card_rows-requests : (clients readers phase position : ℕ) (lines : List Line) → All (λ (line : Line). IsActor clients readers line.actor) lines → clients ≤ 64
    → map request_of_row (card_rows phase position (ops_by is_of_card lines)) ≡ map (request_of phase) (of_place lines 0)
card_rows-requests clients readers phase position lines are few =
    card_rows-asks phase position (ops_by is_of_card lines) ∙ ops-requests clients readers phase Card 0 lines are few tt refl

-- ---- places that nobody has

none-there : (clients readers place : ℕ) → ((who : Actor) → IsActor clients readers who → place_of_actor who ≢ place)
    → (lines : List Line) → All (λ (line : Line). IsActor clients readers line.actor) lines → of_place lines place ≡ []
none-there clients readers place none [] are = refl
none-there clients readers place none (line ∷ lines) are =
    by_test (place_of_actor line.actor == place) refl (none-there clients readers place none lines (All-tail (λ (l : Line). IsActor clients readers l.actor) line lines are))
  where
    by_test : (b : Bool) → (place_of_actor line.actor == place) ≡ b → of_place lines place ≡ [] → of_place (line ∷ lines) place ≡ []
    by_test true is rest = absurd (none line.actor (All-head (λ (l : Line). IsActor clients readers l.actor) line lines are) (eqb-true (place_of_actor line.actor) place is))
    by_test false is rest = rw is rest

-- no client has a place after the others, and no reader
place-client : (clients readers place : ℕ) (who : Actor) → IsActor clients readers who → 1 + clients ≤ place → place < 65 → place_of_actor who ≢ place
place-client clients readers place who is low high = grind (arith, nat_tests)

place-reader : (clients readers place : ℕ) (who : Actor) → clients ≤ 64 → IsActor clients readers who → 65 + readers ≤ place → place_of_actor who ≢ place
place-reader clients readers place who few is low = grind (arith, nat_tests)

-- fewer places are enough where nobody has the others
from_place-few : (lines : List Line) (first count fewer : ℕ) → fewer ≤ count → ((k : ℕ) → first + fewer ≤ k → k < first + count → of_place lines k ≡ [])
    → from_place lines first count ≡ from_place lines first fewer
unfolding from_place
from_place-few lines first zero zero few none = refl
from_place-few lines first zero (suc fewer) few none = absurd (omega (arith, few))
from_place-few lines first (suc count) zero few none =
    ap (λ (ls : List Line). ls ++ from_place lines (suc first) count) (none first (omega arith) (omega arith))
    ∙ from_place-few lines (suc first) count zero (omega arith) (λ k low high. none k (omega (arith, low)) (omega (arith, high)))
from_place-few lines first (suc count) (suc fewer) few none = ap (λ (ls : List Line). of_place lines first ++ ls)
    (from_place-few lines (suc first) count fewer (omega (arith, few)) (λ k low high. none k (omega (arith, low)) (omega (arith, high))))

before_place-one : (lines : List Line) → before_place lines 1 ≡ of_place lines 0
unfolding before_place
before_place-one lines = refl

-- the lines of a phase are the card's, those of its clients, and those of its readers
pub in_order-parts : (clients readers : ℕ) (lines : List Line) → All (λ (line : Line). IsActor clients readers line.actor) lines → clients ≤ 64 → readers ≤ 64
    → in_order lines ≡ (of_place lines 0 ++ from_place lines 1 clients) ++ from_place lines 65 readers
in_order-parts clients readers lines are few few_readers =
    before_place-parts lines 65 64 129 refl ∙ (λ i. (before_place-parts lines 1 64 65 refl ∙ (λ j. before_place-one lines j ++ of_clients j)) i ++ of_readers i)
  where
    of_clients : from_place lines 1 64 ≡ from_place lines 1 clients
    of_clients = from_place-few lines 1 64 clients few (λ k low high. none-there clients readers k (λ who is. place-client clients readers k who is low high) lines are)

    of_readers : from_place lines 65 64 ≡ from_place lines 65 readers
    of_readers = from_place-few lines 65 64 readers few_readers (λ k low high. none-there clients readers k (λ who is. place-reader clients readers k who few is low) lines are)
