use Rattle.lab_phase.specs.Prelude.{ap, arith, refl, rules, subst, sym, ◌∙◌, ◌≡◌, option_copied, IsSomeAnd, Option, Some, ℕ, after_open, Session, Stage}
use Rattle.lab_phase.specs.Prelude.{CardActor, frame_of_card, AreEach, AreAfter, clients_of, places_of, AreBeforeOpening, IsSameWithRows, Lab, capture_of}
use Rattle.lab_phase.specs.Prelude.{DoesRow, IsCardOf, session_of, DoesRow-client, IfOk-more, OnErr-both, after_open-keeps_readers, StaysAtStage}
use Rattle.lab_phase.specs.Prelude.{StaysAtStage-client}
use Rattle.lab_phase.proofs.Numbers.{client_count, client_opening-any, client_openings, client_usable}
use Rattle.lab_lines.specs.declared.line.Actor.TheVariants as whose
use Rattle.lab_phase.proofs.lab.Lab.open_client.Goals as goal

pub index-requires : goal.index-requires
index-requires c =
    let low = c.requires.number in
    let count = client_openings c.args.self.now c.requires.at.stage c.requires.at.at in
    let len = c.args.self.now.openings.clients.ok in
    search (low, count, len, rules)

pub open_beside-actor-requires-clause-number : goal.open_beside-actor-requires-clause-number
open_beside-actor-requires-clause-number c =
    let low = c.requires.number in
    let count = client_count c.args.self.now c.requires.at.stage c.requires.at.at in
    omega (arith, low, count)

pub open_beside-actor-requires-clause-usable : goal.open_beside-actor-requires-clause-usable
open_beside-actor-requires-clause-usable c =
    client_usable c.args.self.now c.requires.at.stage c.requires.at.at c.args.number (option_copied c.as_ref-opening.result) c.requires.number
    (client_opening-any c.args.self.now c.requires.at.stage c.requires.at.at c.args.number (option_copied c.as_ref-opening.result) c.index.result.now c.requires.number c.index.ensures
    c.as_ref-opening.ensures.value)

pub returns-clause-does : goal.returns-clause-does
returns-clause-does c =
    let lab : Lab = c.args.self.now in
    let number : ℕ = c.args.number in
    let a : CardActor = c.unwrap-actor.result in
    let b : CardActor = c.open_beside-actor.result.0 in
    let first : lab.card ≡ Some a = sym c.take.ensures.value ∙ c.unwrap-actor.ensures in
    let after : Lab = record lab { card = c.put_card.new.place; clients = c.open_beside-actor.new.clients } in
    let step : Stage → Stage = λ stage. after_open (session_of lab) stage (whose.Client number) in
    IfOk-more
    (λ row. (session : Session) (stage : Stage) → AreBeforeOpening session stage number (option_copied c.as_ref-opening.result) (frame_of_card a.card) lab.phases lab.clients
    → AreAfter session stage (after_open session stage (whose.Client number)) row after.clients)
    (λ row. DoesRow step lab row after) c.open_beside-actor.result.1
    (λ row done. DoesRow-client lab after step row (record { script = refl; wavs = refl; capture = refl; openings = refl }) (record { rows = refl; room = refl; phases = refl; next = refl }) a b first
    c.put_card.ensures refl c.open_beside-actor.ensures.card (ap (λ v. v.items) c.open_beside-actor.ensures.rows) c.open_beside-actor.ensures.places
    (λ stage. after_open-keeps_readers (session_of lab) stage number)
    (λ stage at. done (session_of lab) stage (record {
      at = record { are = at.actors.clients_are; phase_is = at.phases };
      setup_is = sym (client_opening-any lab stage at number (option_copied c.as_ref-opening.result) c.index.result.now c.requires.number c.index.ensures c.as_ref-opening.ensures.value);
      position_is = (subst (λ (card : Option CardActor). IsSomeAnd card (IsCardOf (session_of lab) (capture_of lab) stage lab.clients lab.readers)) first at.actors.card_is).is.at.frame;
    })))
    c.open_beside-actor.ensures.after

pub returns-clause-kept : goal.returns-clause-kept
returns-clause-kept c =
    let lab : Lab = c.args.self.now in
    let a : CardActor = c.unwrap-actor.result in
    let b : CardActor = c.open_beside-actor.result.0 in
    let first : lab.card ≡ Some a = sym c.take.ensures.value ∙ c.unwrap-actor.ensures in
    let after : Lab = record lab { card = c.put_card.new.place; clients = c.open_beside-actor.new.clients } in
    OnErr-both (AreEach IsSameWithRows 0 (clients_of lab.clients) (clients_of after.clients)) (places_of after.clients ≡ places_of lab.clients) (StaysAtStage lab after)
    c.open_beside-actor.result.1
    (λ each places. StaysAtStage-client lab after (record { script = refl; wavs = refl; capture = refl; openings = refl }) (record { rows = refl; room = refl; phases = refl; next = refl }) a b first
    c.put_card.ensures refl c.open_beside-actor.ensures.card (ap (λ v. v.items) c.open_beside-actor.ensures.rows) each places)
    c.open_beside-actor.ensures.same c.open_beside-actor.ensures.same_places
