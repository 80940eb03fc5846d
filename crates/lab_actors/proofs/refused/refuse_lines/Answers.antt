use Rattle.lab_actors.specs.Prelude.{arith, List, subst, sym, ◌++◌, ◌∙◌, ◌≡◌, append-nil, take_all, false, true, Line, ops_by, line_at, other-line, room-next}
use Rattle.lab_actors.specs.Prelude.{room-own, is_actor, refused_rows}
use Rattle.lab_actors.proofs.RefusedLaws.{are-refused, refused-next}
use Rattle.lab_actors.proofs.refused.refuse_lines.Goals.{else-is_of, then-is_of}
use Rattle.lab_actors.proofs.refused.refuse_lines.Goals as goal

pub loop-index-init : goal.loop-index-init
loop-index-init c = record {
  rows = sym (append-nil c.args.rows.now.items);
  room = let room = c.requires in omega (arith, room);
}

pub push_row-requires : goal.push_row-requires
push_row-requires c =
    let space = room-own (is_actor c.args.actor) c.args.lines.now c.loop-index.index c.loop-index.rows c.loop-index-test.true c.loop-index.invariant.room (sym c.is_of.ensures ∙ c.if-is_of.true) in
    omega (arith, space)

pub loop-index-preserved : goal.loop-index-preserved
loop-index-preserved c =
    let lines = c.args.lines.now in
    let index = c.loop-index.index in
    let line : Line = line_at lines index in
    let within = c.loop-index-test.true in
    let before = c.loop-index.invariant in
    let mine = is_actor c.args.actor in
    elim c.if-is_of.branch [
      | then-is_of w ↦
          let own : mine line.actor ≡ true = sym c.is_of.ensures ∙ w.if-is_of.true in
          let one = w.push_row.ensures.one in
          rw w.rows-is (record {
            rows = w.push_row.ensures.items
                ∙ refused-next c.args.phase c.args.actor mine lines index within own c.args.rows.now.items c.loop-index.rows.items before.rows;
            room = room-next mine lines index c.loop-index.rows w.push_row.new.rows within own before.room
                (record { few = omega (arith, one); kept = w.push_row.ensures.room });
          })
      | else-is_of w ↦
          let other : mine line.actor ≡ false = sym c.is_of.ensures ∙ w.if-is_of.false in
          rw (w.rows-is, other-line mine lines index within other) before
    ]

pub returns-clause-part : goal.returns-clause-part
returns-clause-part c = λ number. are-refused c.lines_without_calls.ensures.clients c.lines_without_calls.ensures.readers c.args.phase number _

pub returns-clause-rows : goal.returns-clause-rows
returns-clause-rows c =
    let past = c.loop-index-test.false in
    subst (λ (done : List Line). c.loop-index.rows.items ≡ c.args.rows.now.items ++ refused_rows c.args.phase c.args.actor (ops_by (is_actor c.args.actor) done))
    (take_all c.loop-index.index c.args.lines.now (omega (arith, past))) c.loop-index.invariant.rows
