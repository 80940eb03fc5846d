use Rattle.lab_phase.specs.Prelude.{arith, refl, rules, ◌≡◌, option_copied, List, None, Option, slice_index_or, ℕ, Sound, Reader, AtPort, after_open, Session}
use Rattle.lab_phase.specs.Prelude.{Stage, AreAt, Lab, capture_of, DoesRow, session_of, DoesRow-reader, IfOk-more, OnErr-both, after_open-keeps_clients}
use Rattle.lab_phase.specs.Prelude.{StaysAtStage, StaysAtStage-reader}
use Rattle.lab_readers.specs.AtStage.{AreAfter}
use Rattle.lab_readers.specs.Opening.{IsItemAt}
use Rattle.lab_phase.proofs.Numbers.{reader_count, reader_opening-any, reader_openings, reader_usable}
use Rattle.lab_lines.specs.declared.line.Actor.TheVariants as whose
use Rattle.lab_phase.proofs.lab.Lab.open_reader.Goals as goal

pub index-requires : goal.index-requires
index-requires c =
    let low = c.requires.number in
    let count = reader_openings c.args.self.now c.requires.at.stage c.requires.at.at in
    let len = c.args.self.now.openings.readers.ok in
    search (low, count, len, rules)

pub open-requires-clause-number : goal.open-requires-clause-number
open-requires-clause-number c =
    let low = c.requires.number in
    let count = reader_count c.args.self.now c.requires.at.stage c.requires.at.at in
    omega (arith, low, count)

pub open-requires-clause-usable : goal.open-requires-clause-usable
open-requires-clause-usable c =
    reader_usable c.args.self.now c.requires.at.stage c.requires.at.at c.args.number (option_copied c.as_ref-opening.result) c.requires.number
    (reader_opening-any c.args.self.now c.requires.at.stage c.requires.at.at c.args.number (option_copied c.as_ref-opening.result) c.index.result.now c.requires.number c.index.ensures
    c.as_ref-opening.ensures.value)

pub returns-clause-does : goal.returns-clause-does
returns-clause-does c =
    let lab : Lab = c.args.self.now in
    let number : ℕ = c.args.number in
    let after : Lab = record lab { readers = c.open.new.self } in
    let step : Stage → Stage = λ stage. after_open (session_of lab) stage (whose.Reader number) in
    IfOk-more
    (λ row. (session : Session) (capture : Option Sound) (stage : Stage) → IsItemAt session capture stage lab.phases lab.readers
    → slice_index_or session.readers number None ≡ option_copied c.as_ref-opening.result
    → AreAfter session capture stage (after_open session stage (whose.Reader number)) row after.readers)
    (λ row. DoesRow step lab row after) c.open.result
    (λ row done. DoesRow-reader lab after step row (record { script = refl; wavs = refl; capture = refl; openings = refl }) (record { rows = refl; room = refl; phases = refl; next = refl }) refl refl
    (record { ring = c.open.ensures.card.0; geometry = c.open.ensures.card.1 }) (λ stage. after_open-keeps_clients (session_of lab) stage number)
    (λ stage at. done (session_of lab) (capture_of lab) stage (record { are = at.actors.readers_are; phases = at.phases })
    (reader_opening-any lab stage at number (option_copied c.as_ref-opening.result) c.index.result.now c.requires.number c.index.ensures c.as_ref-opening.ensures.value)))
    c.open.ensures.after

pub returns-clause-kept : goal.returns-clause-kept
returns-clause-kept c =
    let lab : Lab = c.args.self.now in
    let after : Lab = record lab { readers = c.open.new.self } in
    let Kept : Type 0 =
    (session : Session) (capture : Option Sound) (xs : List (AtPort × Reader)) → AreAt session capture xs lab.readers → AreAt session capture xs after.readers in
    OnErr-both Kept Kept (StaysAtStage lab after) c.open.result
    (λ kept same. StaysAtStage-reader lab after (record { script = refl; wavs = refl; capture = refl; openings = refl }) (record { rows = refl; room = refl; phases = refl; next = refl }) refl refl
    (record { ring = c.open.ensures.card.0; geometry = c.open.ensures.card.1 }) kept)
    c.open.ensures.same c.open.ensures.same
