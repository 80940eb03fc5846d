-- A script without a mixed phase, in which no actor's own gate stops it, has one run.
use Rattle.lab_run.specs.Prelude.{ap, arith, inl, inr, Option, refl, ℕ, ◌+◌, ◌∙◌, ◌≡◌, ◌⊎◌, false, List, map, slice_index_or, slice_set, suc, zero, [], ⊤, ◌∷◌}
use Rattle.lab_run.specs.Prelude.{Sound, Item, Line, Op, Row, is_mixed, IsStill, client_kinds, clients_text, item_text, ItemMay, items_text, ItemsMay}
use Rattle.lab_run.specs.Prelude.{phase_end, phase_text, PhaseMay, reader_kinds, readers_text, reaped_client, reaped_reader, rules_of, AreWithin, lab_text}
use Rattle.lab_run.specs.Prelude.{LabRun, Outcome, outcome_of, each_text, EachMay, Kind, AreUnmixed, is_client, is_reader, IsUnmixedItem, ops_by, AtPort, Rules}
use Rattle.lab_run.specs.Prelude.{first_stage, no_client, no_reader, Session, Stage}
use Rattle.lab_run.proofs.ActorKinds.{IsKind, client-IsKind, reader-IsKind}
use Rattle.lab_run.proofs.BorderLaws.{OverItems, item-over, items-over}
use Rattle.lab_run.proofs.EachLaws.{NoneStopped, StopsGrow, KeepsPorts, each-grow, each-only, grow-map, grow-refl, grow-then, none-between, reaped_client-keeps, reaped_reader-keeps}
use Rattle.lab_run.proofs.Still.{Unmixed, idle_phase, still_phase, unmixed}
use Rattle.lab_lines.specs.declared.line.Item.TheVariants as item

-- ---- stops are never taken back

grow-set : {S : Type 0} (actors : List (AtPort × S)) (n : ℕ) (d x : AtPort × S) → x.0.by_gate ≡ (slice_index_or actors n d).0.by_gate
    → StopsGrow actors (slice_set actors n x)
grow-set [] n d x is = tt
grow-set (y ∷ actors) zero d x is = (omega (arith, is), grow-refl actors)
grow-set (y ∷ actors) (suc n) d x is = (omega arith, grow-set actors n d x is)

-- the actors of a stage, and those of another after it
pub record Grows (stage after : Stage) : Type 0 where
  pub clients : StopsGrow stage.clients after.clients
  pub readers : StopsGrow stage.readers after.readers

same-actors : (stage after : Stage) → after.clients ≡ stage.clients → after.readers ≡ stage.readers → Grows stage after
same-actors stage after clients readers = record { clients = rw clients (grow-refl stage.clients); readers = rw readers (grow-refl stage.readers) }

-- the actors of a kind in a phase, and as they are once they are reaped
module _ {S : Type 0} (reaped : AtPort × S → AtPort × S) (keeps : KeepsPorts reaped) (kind : ℕ → Kind S) (is : (n : ℕ) → IsKind (kind n)) (rules : Rules) (ops : ℕ → List Op)
    (actors after : List (AtPort × S)) (rows : List Row) (may : EachMay kind rules ops 0 actors after rows) where
  kind-grows : StopsGrow actors (map reaped after)
  kind-grows = grow-then actors after (map reaped after) (each-grow kind is rules ops 0 actors after rows may) (grow-map reaped keeps after)

  kind-only : ((n : ℕ) → (ops n ≡ []) ⊎ IsStill rules) → NoneStopped actors (map reaped after) → (after, rows) ≡ each_text kind rules.at ops 0 actors
  kind-only still none = each-only kind is rules ops still 0 actors after rows
      (none-between actors after (map reaped after) (each-grow kind is rules ops 0 actors after rows may) (grow-map reaped keeps after) none).0 may

phase-grows : (session : Session) (stage after : Stage) (lines : List Line) → PhaseMay session stage lines after → Grows stage after
phase-grows session stage after lines may = rw (may.is) (record {
  clients = kind-grows (reaped_client session.ring) (reaped_client-keeps session.ring) (client_kinds session stage) (λ n. client-IsKind _ _ n) (rules_of session stage lines) _
      stage.clients may.clients may.client_rows may.clients_may;
  readers = kind-grows (reaped_reader session.ring) (reaped_reader-keeps session.ring) (reader_kinds stage) (λ n. reader-IsKind _ n) (rules_of session stage lines) _
      stage.readers may.readers may.reader_rows may.readers_may;
})

-- an actor in the place of one that its own gate stopped as often
over-grows : (session : Session) → OverItems session Grows
over-grows session = record {
  same = λ stage. same-actors stage stage refl refl;
  border = λ stage who. record {
    none = λ card. same-actors stage stage refl refl;
    refused = λ lobby row of. same-actors stage _ refl refl;
    client = λ n client lobby claims row who_is of same. record { clients = grow-set stage.clients n (no_client session.ring) _ refl; readers = grow-refl stage.readers };
    reader = λ n own anew row who_is of. record { clients = grow-refl stage.clients; readers = grow-set stage.readers n (no_reader session.ring) _ refl };
  };
  phase = λ stage after lines may. phase-grows session stage after lines may;
  then = λ x y z first more. record {
    clients = grow-then x.clients y.clients z.clients first.clients more.clients;
    readers = grow-then x.readers y.readers z.readers first.readers more.readers;
  };
}

pub items-grow : (session : Session) (stage after : Stage) (items : List Item) → ItemsMay session stage items after → Grows stage after
items-grow session = items-over session Grows (over-grows session)

-- ---- there is but one

-- no actor's own gate stopped it between two stages
pub record NoStops (stage after : Stage) : Type 0 where
  pub clients : NoneStopped stage.clients after.clients
  pub readers : NoneStopped stage.readers after.readers

no_stops-between : (x y z : Stage) → Grows x y → Grows y z → NoStops x z → NoStops x y × NoStops y z
no_stops-between x y z one two none =
    let clients = none-between x.clients y.clients z.clients one.clients two.clients none.clients in
    let readers = none-between x.readers y.readers z.readers one.readers two.readers none.readers in
    (record { clients = clients.0; readers = readers.0 }, record { clients = clients.1; readers = readers.1 })

-- an actor has no choice in a phase that isn't mixed
still-actors : (session : Session) (stage : Stage) (lines : List Line) → Unmixed session.card.period stage.position lines
    → ((n : ℕ) → (ops_by (is_client n) lines ≡ []) ⊎ IsStill (rules_of session stage lines)) × ((n : ℕ) → (ops_by (is_reader n) lines ≡ []) ⊎ IsStill (rules_of session stage lines))
still-actors session stage lines (still_phase still) = (λ n. inr still, λ n. inr still)
still-actors session stage lines (idle_phase clients readers) = (λ n. inl (clients n), λ n. inl (readers n))

phase-only : (session : Session) (stage after : Stage) (lines : List Line) → is_mixed lines ≡ false → NoStops stage after
    → PhaseMay session stage lines after → after ≡ phase_text session stage lines
phase-only session stage after lines is none may =
    may.is ∙ ap (λ c. phase_end session stage lines c (may.readers, may.reader_rows)) clients
    ∙ ap (λ r. phase_end session stage lines (clients_text session stage lines) r) readers
  where
    still : ((n : ℕ) → (ops_by (is_client n) lines ≡ []) ⊎ IsStill (rules_of session stage lines)) × ((n : ℕ) → (ops_by (is_reader n) lines ≡ []) ⊎ IsStill (rules_of session stage lines))
    still = still-actors session stage lines (unmixed session.card.period stage.position lines is)

    clients : (may.clients, may.client_rows) ≡ clients_text session stage lines
    clients = kind-only (reaped_client session.ring) (reaped_client-keeps session.ring) (client_kinds session stage) (λ n. client-IsKind _ _ n) (rules_of session stage lines) _
        stage.clients may.clients may.client_rows may.clients_may still.0 (rw (may.is) at none.clients)

    readers : (may.readers, may.reader_rows) ≡ readers_text session stage lines
    readers = kind-only (reaped_reader session.ring) (reaped_reader-keeps session.ring) (reader_kinds stage) (λ n. reader-IsKind _ n) (rules_of session stage lines) _
        stage.readers may.readers may.reader_rows may.readers_may still.1 (rw (may.is) at none.readers)

item-only : (session : Session) (stage after : Stage) (one : Item) → IsUnmixedItem one → NoStops stage after
    → ItemMay session stage one after → after ≡ item_text session stage one
item-only session stage after (item.Opens number who) is none may = may
item-only session stage after (item.Closes number who) is none may = may
item-only session stage after (item.Phase lines) is none may = phase-only session stage after lines is none may

items-only : (session : Session) (stage after : Stage) (items : List Item) → AreUnmixed items → NoStops stage after
    → ItemsMay session stage items after → after ≡ items_text session stage items
items-only session stage after [] are none is = is
items-only session stage after (one ∷ items) are none (between, may, rest) =
    let first = item-over session Grows (over-grows session) stage between one may in
    let none_of = no_stops-between stage between after first (items-grow session between after items rest) none in
    items-only session between after items are.1 none_of.1 rest ∙ ap (λ s. items_text session s items) (item-only session stage between one are.0 none_of.0 may)

abbrev StopsNone : {S : Type 0} → List (AtPort × S) → Type 0
StopsNone [] = ⊤
StopsNone (x ∷ actors) = (x.0.by_gate ≡ 0) × StopsNone actors

none-from : {S : Type 0} (number : ℕ) (actors after : List (AtPort × S)) → StopsGrow actors after → AreWithin (λ n. 0) number after → StopsNone actors → NoneStopped actors after
none-from number [] after grows within none = tt
none-from number (x ∷ actors) [] grows within none = tt
none-from number (x ∷ actors) (y ∷ after) grows within none = (omega (arith, within.0, none.0), none-from (number + 1) actors after grows.1 within.1 none.1)

first-none : (session : Session) (end : Stage) → Grows (first_stage session) end → AreWithin (λ n. 0) 0 end.clients → AreWithin (λ n. 0) 0 end.readers
    → NoStops (first_stage session) end
first-none session end grows clients readers = record {
  clients = none-from 0 _ end.clients grows.clients clients (all-none (no_client session.ring) refl session.clients);
  readers = none-from 0 _ end.readers grows.readers readers (all-none (no_reader session.ring) refl session.readers);
}
  where
    all-none : {S X : Type 0} (actor : AtPort × S) → actor.0.by_gate ≡ 0 → (xs : List X) → StopsNone (map (λ x. actor) xs)
    all-none actor is [] = tt
    all-none actor is (x ∷ xs) = (is, all-none actor is xs)

-- a script without a mixed phase, in which no handed-in gate stops, has no other run than the one where no phase is left a choice
pub LabRun-text : (session : Session) (capture : Option Sound) (body : List Item) (outcome : Outcome) → AreUnmixed body
    → LabRun session capture body (λ n. 0) (λ n. 0) outcome → outcome ≡ lab_text session capture body
LabRun-text session capture body outcome are run =
    run.is ∙ ap (outcome_of session capture) (items-only session (first_stage session) run.end body are
    (first-none session run.end (items-grow session (first_stage session) run.end body run.may) run.clients run.readers) run.may)
